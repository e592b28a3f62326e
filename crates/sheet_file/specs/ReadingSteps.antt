-- The reader of a file between two of its records: inner words, which no public contract cites.
use Rattle.std.specs.Prelude.{◌≡◌, ℕ, ◌+◌, ◌<◌, ◌≤◌, Bool, true, false, List, ◌++◌, length, drop, Some, Err, Option, Result, MatchResult, nat_le, nat_lt, slice_index}
use Rattle.std.specs.Option.{option_or}
use Rattle.sheet.specs.Ledger.{Ledger, Posting, posting, Posts, refusal, step}
use Rattle.sheet.specs.History.{draft_ledger}
use Rattle.sheet_file.specs.declared.faults.FileRefusal.{FileRefusal}
use Rattle.sheet_file.specs.declared.kinds.Kind.{Kind}
use Rattle.sheet_file.specs.declared.reader.Stage.{Stage}
use Rattle.sheet_file.specs.declared.reader.Stage.TheVariants as stages
use Rattle.sheet_file.specs.declared.reader.OpenRule.{OpenRule}
use Rattle.sheet_file.specs.declared.reader.Reader.{Reader}
use Rattle.sheet_file.specs.Kinds.{kind_of, body_length}
use Rattle.sheet_file.specs.Records.{records}
use Rattle.sheet_file.specs.Pieces.{PlacedTerm, whole_terms, Grouped, all_pieces, grouped}
use Rattle.sheet_file.specs.Reading.{is_late, term_fault, caused, unless_fault, told}

-- ---- What is told of the rest of a file

-- the bytes behind the first one of a record
abbrev pub behind : List ℕ → ℕ → List ℕ
behind bytes place = drop (place + 1) bytes

-- the records from a place on, in groups
abbrev pub rest_at : List ℕ → ℕ → Grouped
rest_at bytes place = grouped (records place 0 (drop place bytes))

abbrev pub rest : Reader → Grouped
rest r = rest_at r.bytes.now r.place

-- the open rule, if these are all the terms that still follow it
abbrev pub posting_with : OpenRule → List PlacedTerm → Posting
posting_with rule ts = posting rule.number rule.relation rule.bound (rule.terms.items ++ whole_terms ts)

-- its fault: the first among those terms, or else that of the rule
abbrev pub open_fault : Ledger → OpenRule → List PlacedTerm → Option FileRefusal
open_fault l rule ts = option_or (term_fault (length rule.terms.items) ts) (caused rule.place (refusal l (Posts (posting_with rule ts))))

-- what is told of the rest, where no rule stands open
abbrev pub told_closed : Ledger → Grouped → Result Ledger FileRefusal
told_closed l g = told l (all_pieces g)

-- where one does
abbrev pub told_open : Ledger → OpenRule → Grouped → Result Ledger FileRefusal
told_open l rule g = unless_fault (open_fault l rule g.lead) (told (step l (Posts (posting_with rule g.lead))) g.pieces)

abbrev pub told_in : Stage → Ledger → OpenRule → Grouped → Result Ledger FileRefusal
told_in stages.Spots l rule g = told_closed l g
told_in stages.Rule l rule g = told_open l rule g
told_in stages.Prices l rule g = told_closed l g

abbrev pub outcome : Reader → Result Ledger FileRefusal
outcome r = told_in r.stage (draft_ledger r.draft) r.rule (rest r)

abbrev pub closed_outcome : Reader → Result Ledger FileRefusal
closed_outcome r = told_closed (draft_ledger r.draft) (rest r)

-- ---- What the sheet so far keeps

-- whether a rule under a number comes too late, by how far reading has come and by the number of the latest rule
abbrev pub late_in : Stage → ℕ → ℕ → Bool
late_in stages.Spots latest number = false
late_in stages.Rule latest number = nat_le number latest
late_in stages.Prices latest number = true

-- no rule stands open
abbrev pub Settled : Stage → Ledger → ℕ → Type 0
Settled stage l latest = (number : ℕ) → is_late l number ≡ late_in stage latest number

-- between two records: a rule that stands open is not part of the sheet yet, and does not come too late
abbrev pub Between : Stage → Ledger → ℕ → Type 0
Between stages.Spots l latest = Settled stages.Spots l latest
Between stages.Rule l latest = is_late l latest ≡ false
Between stages.Prices l latest = Settled stages.Prices l latest

-- ---- What the calls of the reader do

-- a record of this kind stands at the reader's place, whole or cut
abbrev pub IsAt : Kind → Reader → Type 0
IsAt kind r = (r.place < length r.bytes.now) × (kind_of (slice_index r.bytes.now r.place) ≡ Some kind)

-- the end of the file cuts it
abbrev pub is_cut : Kind → Reader → Bool
is_cut kind r = nat_lt (length (behind r.bytes.now r.place)) (body_length kind)

-- a record further in the same file, with the same told
pub record Goes (told : Result Ledger FileRefusal) (old new : Reader) : Type 0 where
  pub bytes : new.bytes.now ≡ old.bytes.now
  pub further : old.place < new.place
  pub inside : new.place ≤ length new.bytes.now
  pub between : Between new.stage (draft_ledger new.draft) new.rule.number
  pub same : told ≡ outcome new

-- where this is told, the reader goes on so, or answers the fault
abbrev pub Takes : Result Ledger FileRefusal → Reader → Result (Unit {0}) FileRefusal → Reader → Type 0
Takes told old r new = MatchResult r (λ _. Goes told old new) (λ e. told ≡ Err e)
