-- How calls, answers, what stands in a sheet, files, codes, line-ups and figures read.
use Rattle.std.specs.Prelude.{ℕ, Bool, true, false, List, [], ◌∷◌, ◌++◌, map, ℤ, Some, None, Ok, Err, codes, decimal, filter, Option, Result}
use Rattle.std.specs.List.{range_with_len, flat_map}
use Rattle.std.specs.Fmt.{signed_decimal}
use Rattle.terms.specs.Groups.{holds}
use Rattle.terms.specs.Refusals.{refusal_number, refusal_word}
use Rattle.terms.specs.Terms.{worth}
use Rattle.terms.specs.declared.refusals.Refusal.{Refusal}
use Rattle.terms.specs.Relations.{relation_of, relation_word}
use Rattle.terms.specs.declared.polynomials.Term.{Term}
use Rattle.terms.specs.declared.relations.Relation.{Relation}
use Rattle.sheet.specs.History.{done_answer}
use Rattle.sheet.specs.Ledger.{LiveRule, Call, Declares, Posts, Prices, Withdraws, Locks, Unlocks}
use Rattle.sheet.specs.declared.bookings.Answer.{Answer}
use Rattle.sheet.specs.declared.bookings.Answer.TheVariants.{Spot, Done, Refused, PassedOver}
use Rattle.sheet_file.specs.Faults.{fault_number, file_refusal_number, file_refusal_word}
use Rattle.sheet_file.specs.declared.faults.FileFault.{FileFault}
use Rattle.sheet_file.specs.declared.faults.FileFault.TheVariants.{Flaw, Cause}
use Rattle.sheet_file.specs.declared.faults.FileRefusal.{FileRefusal}
use Rattle.sheet_file.specs.declared.faults.FileRefusal.TheVariants.{BadFile}
use Rattle.elimination.specs.Codes.{code_number, code_of}
use Rattle.elimination.specs.declared.codes.Code.{Code}
use Rattle.elimination.specs.declared.codes.Code.TheVariants.{Out, In, Free, Dead}

-- the pieces in a row, with the separator between each two
abbrev pub joined_by : List ℕ → List (List ℕ) → List ℕ
joined_by separator [] = []
joined_by separator (x ∷ xs) = x ++ flat_map (λ y. separator ++ y) xs

-- the spots below n that a group holds
abbrev pub spots_below : ℕ → ℕ → List ℕ
spots_below n group = filter (holds group) (range_with_len 0 n)

-- a group's spots by rising number, in braces
unfoldable pub group_text : ℕ → List ℕ
group_text group = codes "{" ++ (joined_by (codes " ") (map decimal (spots_below 32 group)) ++ codes "}")

-- what a group is worth
abbrev pub worth_text : ℤ → ℕ → List ℕ
worth_text worth group = signed_decimal worth ++ (codes " " ++ group_text group)

abbrev pub term_text : Term → List ℕ
term_text t = worth_text t.coefficient t.group

abbrev pub terms_text : List Term → List ℕ
terms_text ts = joined_by (codes " + ") (map term_text ts)

-- a number that is no relation's is shown as it is
abbrev pub relation_or_number : Option Relation → ℕ → List ℕ
relation_or_number (Some r) number = relation_word r
relation_or_number None number = codes "relation " ++ decimal number

abbrev pub relation_text : ℕ → List ℕ
relation_text number = relation_or_number (relation_of number) number

-- the terms behind a colon, where there are some
abbrev pub sum_text : List Term → List ℕ
sum_text [] = codes ":"
sum_text (t ∷ ts) = codes ": " ++ terms_text (t ∷ ts)

-- a rule, from its number on
abbrev pub bounds_text : ℕ → List ℕ → ℤ → List Term → List ℕ
bounds_text number relation bound ts = decimal number ++ (codes " " ++ (relation ++ (codes " " ++ (signed_decimal bound ++ sum_text ts))))

abbrev pub price_text : ℤ → ℕ → List ℕ
price_text amount group = codes "price " ++ worth_text amount group

abbrev pub call_text : Call → List ℕ
call_text (Declares house) = codes "declare " ++ decimal house
call_text (Posts p) = codes "post " ++ bounds_text p.number (relation_text p.relation) p.bound p.terms
call_text (Prices amount group) = price_text amount group
call_text (Withdraws number) = codes "withdraw " ++ decimal number
call_text Locks = codes "lock"
call_text Unlocks = codes "unlock"

-- a refusal with its number
abbrev pub refused_text : Refusal → List ℕ
refused_text e = codes "refused " ++ (decimal (refusal_number e) ++ (codes " " ++ refusal_word e))

abbrev pub answer_text : Answer → List ℕ
answer_text (Spot spot) = codes "spot " ++ decimal spot
answer_text Done = codes "done"
answer_text (Refused e) = refused_text e
answer_text PassedOver = codes "passed over"

-- a call with its answer
abbrev pub line_text : Call → Answer → List ℕ
line_text c a = call_text c ++ (codes " -> " ++ answer_text a)

abbrev pub spot_text : ℕ → ℕ → List ℕ
spot_text spot house = codes "spot " ++ (decimal spot ++ (codes " house " ++ decimal house))

abbrev pub rule_text : ℕ → LiveRule → List ℕ
rule_text number r = codes "rule " ++ bounds_text number (relation_word r.relation) r.bound r.terms

abbrev pub unused_text : ℕ → List ℕ
unused_text places = codes "unused places " ++ decimal places

-- ---- Files

-- how an answer of write reads
abbrev pub write_answer_text : Result ℕ Refusal → List ℕ
write_answer_text (Ok length) = codes "file of " ++ (decimal length ++ codes " bytes")
write_answer_text (Err e) = refused_text e

-- how a call of write reads with its answer
abbrev pub write_text : Result ℕ Refusal → List ℕ
write_text answer = codes "write -> " ++ write_answer_text answer

-- what is wrong with a record
abbrev pub fault_text : FileFault → List ℕ
fault_text Flaw = codes "flaw"
fault_text (Cause e) = refusal_word e

-- how a fault at a place reads, with its number
abbrev pub placed_fault_text : FileRefusal → List ℕ
placed_fault_text (BadFile place fault) = codes " at " ++ (decimal place ++ (codes ": " ++ (decimal (fault_number fault) ++ (codes " " ++ fault_text fault))))

-- how a file's refusal reads, with its number
abbrev pub bad_file_text : FileRefusal → List ℕ
bad_file_text e = codes "refused " ++ (decimal (file_refusal_number e) ++ (codes " " ++ (file_refusal_word e ++ placed_fault_text e)))

-- whether what was read back is what was written
abbrev pub contents_text : Bool → List ℕ
contents_text true = codes "the same spots, rules and prices"
contents_text false = codes "other spots, rules or prices"

-- how an answer of read reads, with what came of the sheet: whether it holds the same, and how many places were unused before and are now
abbrev pub read_answer_text : Result (Unit {0}) FileRefusal → Bool → ℕ → ℕ → List ℕ
read_answer_text (Ok x) same before after = contents_text same ++ (codes "; unused places " ++ (decimal before ++ (codes " -> " ++ decimal after)))
read_answer_text (Err e) same before after = bad_file_text e

-- how a call of read reads with its answer
abbrev pub read_text : Result (Unit {0}) FileRefusal → Bool → ℕ → ℕ → List ℕ
read_text answer same before after = codes "read -> " ++ read_answer_text answer same before after

-- ---- What a solved sheet shows

-- how the need of a sheet reads
abbrev pub need_text : ℕ → List ℕ
need_text cells = codes "cells needed " ++ decimal cells

-- what a code means
abbrev pub code_text : Code → List ℕ
code_text Out = codes "out: the spot does not run"
code_text In = codes "in: the spot runs"
code_text Free = codes "free: the spot can be switched in or out"
code_text Dead = codes "dead: no lawful line-up sets the spots beside it so"

-- how a code reads with its number and its meaning
abbrev pub code_line_text : Code → List ℕ
code_line_text c = codes "code " ++ (decimal (code_number c) ++ (codes " " ++ code_text c))

-- in what order the codes of a spot are shown
abbrev pub cells_order_text : List ℕ
cells_order_text =
    codes "a spot has a code for each setting of the spots beside it: none in, the lowest in, the next in, both in, and so on"

-- the codes as which bytes are read, each by its number
abbrev pub codes_text : List ℕ → List ℕ
codes_text bytes = flat_map (λ byte. codes " " ++ decimal (code_number (code_of byte))) bytes

-- a spot with its link set and the codes of its cells
abbrev pub cells_text : ℕ → ℕ → List ℕ → List ℕ
cells_text spot links bytes = codes "spot " ++ (decimal spot ++ (codes " beside " ++ (group_text links ++ (codes ":" ++ codes_text bytes))))

-- ---- Line-ups, where a rule says how many seconds each spot and the break is long

-- a line-up with its seconds and those of the break
abbrev pub line_up_text : LiveRule → ℕ → List ℕ
line_up_text r x =
    codes "line-up " ++ (group_text x ++ (codes ": " ++ (signed_decimal (worth r.terms x) ++ (codes " of " ++ (signed_decimal r.bound ++ codes " seconds")))))

-- how the present line-up reads
abbrev pub present_text : LiveRule → ℕ → List ℕ
present_text r x = codes "present " ++ line_up_text r x

-- how an answer of next reads
abbrev pub next_answer_text : LiveRule → Result (Option ℕ) Refusal → List ℕ
next_answer_text r (Ok (Some x)) = line_up_text r x
next_answer_text r (Ok None) = codes "no further line-up"
next_answer_text r (Err e) = refused_text e

-- after which line-up the next one is asked for
abbrev pub after_text : Option ℕ → List ℕ
after_text None = []
after_text (Some x) = codes " after " ++ group_text x

-- how a call of next reads with its answer
abbrev pub next_text : LiveRule → Option ℕ → Result (Option ℕ) Refusal → List ℕ
next_text r after answer = codes "next" ++ (after_text after ++ (codes " -> " ++ next_answer_text r answer))

-- how an answer of instance reads
abbrev pub instance_answer_text : LiveRule → Result ℕ Refusal → List ℕ
instance_answer_text r (Ok x) = line_up_text r x
instance_answer_text r (Err e) = refused_text e

-- how a call of instance reads with its answer
abbrev pub instance_text : LiveRule → ℕ → Result ℕ Refusal → List ℕ
instance_text r switches answer = codes "instance by switches " ++ (group_text switches ++ (codes " -> " ++ instance_answer_text r answer))

-- ---- The other calls

-- how a call of solve reads with its answer
abbrev pub solve_text : Result (Unit {0}) Refusal → List ℕ
solve_text answer = codes "solve -> " ++ answer_text (done_answer answer)

-- how a call that pins a spot in reads with its answer
abbrev pub pin_text : ℕ → Result (Unit {0}) Refusal → List ℕ
pin_text spot answer = codes "pin spot " ++ (decimal spot ++ (codes " in -> " ++ answer_text (done_answer answer)))

-- whether a spot fits into some lawful line-up
abbrev pub fits_text : Bool → List ℕ
fits_text true = codes "fits"
fits_text false = codes "does not fit"

-- how an answer of trial reads
abbrev pub trial_answer_text : Result Bool Refusal → List ℕ
trial_answer_text (Ok fits) = fits_text fits
trial_answer_text (Err e) = refused_text e

-- how a call of trial reads with its answer
abbrev pub trial_text : ℕ → Result Bool Refusal → List ℕ
trial_text spot answer = codes "trial of spot " ++ (decimal spot ++ (codes " -> " ++ trial_answer_text answer))

-- ---- Figures

-- how an answer of rate under count reads
abbrev pub count_answer_text : Result ℕ Refusal → List ℕ
count_answer_text (Ok count) = decimal count
count_answer_text (Err e) = refused_text e

-- how a call of rate under count reads with its answer
abbrev pub count_text : Result ℕ Refusal → List ℕ
count_text answer = codes "rate by count -> " ++ count_answer_text answer

-- how an answer of takings reads
abbrev pub takings_answer_text : Result ℤ Refusal → List ℕ
takings_answer_text (Ok amount) = signed_decimal amount
takings_answer_text (Err e) = refused_text e

-- how a call of takings reads with its answer
abbrev pub takings_text : Result ℤ Refusal → List ℕ
takings_text answer = codes "takings -> " ++ takings_answer_text answer

-- how an answer of best reads
abbrev pub best_answer_text : LiveRule → Result (ℕ × ℕ) Refusal → List ℕ
best_answer_text r (Ok (figure, x)) = codes "figure " ++ (decimal figure ++ (codes " of " ++ line_up_text r x))
best_answer_text r (Err e) = refused_text e

-- how a call of best under takings reads with its answer
abbrev pub best_text : LiveRule → Result (ℕ × ℕ) Refusal → List ℕ
best_text r answer = codes "best by takings -> " ++ best_answer_text r answer
