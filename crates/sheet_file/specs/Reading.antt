-- What a file says: the sheet that its pieces make, one after the other, or the first fault met.
use Rattle.std.specs.Prelude.{ℕ, ◌+◌, Bool, cond, not, ◌&&◌, ◌||◌, List, [], ◌∷◌, length, Some, None, Ok, Err, Option, Result, ◌==◌, nat_le, nat_lt, unsigned_abs}
use Rattle.std.specs.Option.{option_map, option_or}
use Rattle.terms.specs.Limits.{most_terms, most_named}
use Rattle.terms.specs.Refusals.{Row, row, uppermost}
use Rattle.terms.specs.declared.polynomials.Term.{Term}
use Rattle.terms.specs.Tests.{any, is_empty}
use Rattle.terms.specs.Groups.{beyond, size}
use Rattle.terms.specs.declared.refusals.Refusal.{Refusal}
use Rattle.terms.specs.declared.refusals.Refusal.TheVariants.{OffSheet, Full, Twice, Blank, OutOfRange, Crowded}
use Rattle.sheet.specs.declared.prices.Price.{Price}
use Rattle.sheet.specs.Limits.{most_prices, most_amount}
use Rattle.sheet.specs.Ledger.{Ledger, Posting, posting, Declares, Posts, Prices, empty_ledger, numbers, spots, live, is_for, is_zero, refusal, step}
use Rattle.sheet_file.specs.declared.faults.FileRefusal.{FileRefusal}
use Rattle.sheet_file.specs.Faults.{flaw, cause}
use Rattle.sheet_file.specs.Records.{Head}
use Rattle.sheet_file.specs.Pieces.{PlacedTerm, whole_terms, Piece, SpotPiece, RulePiece, PricePiece, Faulty, pieces}

-- ---- What a piece asks of the sheet

-- the posting of a rule by its own record and these terms
abbrev pub asked : Head → List Term → Posting
asked h ts = posting h.number h.relation h.bound ts

-- the sheet with a piece that no fault is found in
abbrev pub with_call : Ledger → Piece → Ledger
with_call l (SpotPiece place house) = step l (Declares house)
with_call l (RulePiece place h ts) = step l (Posts (asked h (whole_terms ts)))
with_call l (PricePiece place p) = step l (Prices p.amount p.group)
with_call l (Faulty place) = l

-- ---- Faults, each judged by the sheet that the pieces before have made

-- the sheet has a price, or a live rule of this number or a higher one. A rule of this number then comes too late, and a spot does so for number 0,
-- since it stands before all rules
abbrev pub is_late : Ledger → ℕ → Bool
is_late l number = not (is_empty l.contents.prices) || any (λ n. nat_le number n && live l n) numbers

-- a flaw at a place where there is one
abbrev pub flaw_if : Bool → ℕ → Option FileRefusal
flaw_if b place = cond b (Some (flaw place)) None

-- a refusal, blamed at a place
abbrev pub caused : ℕ → Option Refusal → Option FileRefusal
caused place o = option_map (cause place) o

-- the fault of a rule's term at a place, with so many of its terms before it: it is cut, or one beyond the most that a rule has
abbrev pub one_fault : ℕ → ℕ → Option Term → Option FileRefusal
one_fault before place None = Some (flaw place)
one_fault before place (Some t) = caused place (cond (nat_le most_terms before) (Some Crowded) None)

-- the first fault among a rule's terms, with so many before them
abbrev pub term_fault : ℕ → List PlacedTerm → Option FileRefusal
term_fault before [] = None
term_fault before (t ∷ ts) = option_or (one_fault before t.place t.term) (term_fault (before + 1) ts)

-- the rows of the table of refusals that can fit a price in a file, which is one price more whatever its group and its amount
abbrev pub price_record_rows : Ledger → Price → List Row
price_record_rows l p =
    row (beyond (spots l) p.group) OffSheet
    ∷ row (nat_le most_prices (length l.contents.prices)) Full
    ∷ row (any (is_for p.group) l.contents.prices) Twice
    ∷ row (p.group == 0) Blank
    ∷ row (is_zero p.amount || nat_lt most_amount (unsigned_abs p.amount)) OutOfRange
    ∷ row (nat_lt most_named (size p.group)) Crowded
    ∷ []

-- the first fault of a piece: it comes too late, or is no piece at all; a rule's terms come before the rule itself, which is blamed at its own place
abbrev pub fault : Ledger → Piece → Option FileRefusal
fault l (SpotPiece place house) = option_or (flaw_if (is_late l 0) place) (caused place (refusal l (Declares house)))
fault l (RulePiece place h ts) =
    option_or (flaw_if (is_late l h.number) place) (option_or (term_fault 0 ts) (caused place (refusal l (Posts (asked h (whole_terms ts))))))
fault l (PricePiece place p) = caused place (uppermost (price_record_rows l p))
fault l (Faulty place) = Some (flaw place)

-- ---- The whole file

-- what is told behind a piece: its fault, where it has one
abbrev pub unless_fault : {X : Type 0} → Option FileRefusal → Result X FileRefusal → Result X FileRefusal
unless_fault None rest = rest
unless_fault (Some e) rest = Err e

-- what the pieces make of a sheet, one after the other, or the first fault met, behind which nothing is looked at
abbrev pub told : Ledger → List Piece → Result Ledger FileRefusal
told l [] = Ok l
told l (p ∷ ps) = unless_fault (fault l p) (told (with_call l p) ps)

-- what a file says: the ledger of its sheet, or the first fault met
abbrev pub reading : List ℕ → Result Ledger FileRefusal
reading bytes = told empty_ledger (pieces bytes)

-- what the call answers: done, or the first fault
abbrev pub read_answer : Result Ledger FileRefusal → Result (Unit {0}) FileRefusal
read_answer (Ok l) = Ok tt
read_answer (Err e) = Err e
