-- The faults that a file can have: a flaw, or one of the first six refusals, the uppermost that fits.
use Rattle.std.proofs.Common.{◌≡◌, ℕ, ◌+◌, ◌≤◌, Bool, true, false, cond, leb, List, [], ◌∷◌, Some, None, Err, Option, Result, subst, arith, rules}
use Rattle.std.specs.Option.{option_or}
use Rattle.std.specs.List.{AllByRecursion}
use Rattle.terms.specs.Limits.{most_terms}
use Rattle.terms.specs.Refusals.{Row, uppermost, refusal_number}
use Rattle.terms.specs.declared.polynomials.Term.{Term}
use Rattle.terms.specs.declared.refusals.Refusal.{Refusal}
use Rattle.terms.specs.declared.refusals.Refusal.TheVariants.{Crowded}
use Rattle.terms.proofs.Uppermost.{InOrder, uppermost_answers}
use Rattle.sheet.specs.declared.prices.Price.{Price}
use Rattle.sheet.specs.Ledger.{Ledger, Posting, declare_rows, post_rows, empty_ledger}
use Rattle.sheet_file.specs.declared.faults.FileRefusal.{FileRefusal}
use Rattle.sheet_file.specs.Pieces.{PlacedTerm, whole_terms, Piece, SpotPiece, RulePiece, PricePiece, Faulty, pieces}
use Rattle.sheet_file.specs.Reading.{asked, is_late, flaw_if, caused, one_fault, term_fault, price_record_rows, fault, with_call, unless_fault, told, reading}
use Rattle.sheet_file.specs.Laws.{ToldAsSix, PricesUppermost}

in_order : (l : Ledger) (p : Price) → InOrder (price_record_rows l p)
in_order l p = search rules

pub prices_uppermost : PricesUppermost
prices_uppermost l p = uppermost_answers (price_record_rows l p) (in_order l p)

-- ---- Every fault is one of the seven

-- the refusals of rows are among the first six
abbrev Six : List Row → Type 0
Six rs = AllByRecursion (λ r. refusal_number r.refusal ≤ 6) rs

-- a fault, where there is one, is told so
abbrev Tells : Option FileRefusal → Type 0
Tells None = Unit {0}
Tells (Some e) = ToldAsSix e

chosen : (place : ℕ) (b : Bool) (e : Refusal) (o : Option Refusal) → refusal_number e ≤ 6 → Tells (caused place o) → Tells (caused place (cond b (Some e) o))
chosen place true e o six rest = six
chosen place false e o six rest = rest

six_rows : (place : ℕ) (rs : List Row) → Six rs → Tells (caused place (uppermost rs))
six_rows place [] six = tt
six_rows place (r ∷ rs) six = chosen place r.fits r.refusal (uppermost rs) six.0 (six_rows place rs six.1)

either : (o p : Option FileRefusal) → Tells o → Tells p → Tells (option_or o p)
either None p first second = second
either (Some e) p first second = first

flaws : (b : Bool) (place : ℕ) → Tells (flaw_if b place)
flaws true place = omega arith
flaws false place = tt

one_told : (before place : ℕ) (o : Option Term) → Tells (one_fault before place o)
one_told before place None = omega arith
one_told before place (Some t) = chosen place (leb most_terms before) Crowded None (omega arith) tt

terms_told : (before : ℕ) (ts : List PlacedTerm) → Tells (term_fault before ts)
terms_told before [] = tt
terms_told before (t ∷ ts) = either (one_fault before t.place t.term) (term_fault (before + 1) ts) (one_told before t.place t.term) (terms_told (before + 1) ts)

declare_six : (l : Ledger) (house : ℕ) → Six (declare_rows l house)
declare_six l house = (omega arith, (omega arith, tt))

post_six : (l : Ledger) (p : Posting) → Six (post_rows l p)
post_six l p = (omega arith, (omega arith, (omega arith, (omega arith, (omega arith, (omega arith, tt))))))

price_six : (l : Ledger) (p : Price) → Six (price_record_rows l p)
price_six l p = (omega arith, (omega arith, (omega arith, (omega arith, (omega arith, (omega arith, tt))))))

piece_told : (l : Ledger) (p : Piece) → Tells (fault l p)
piece_told l (SpotPiece place house) = either (flaw_if (is_late l 0) place) _ (flaws (is_late l 0) place) (six_rows place (declare_rows l house) (declare_six l house))
piece_told l (RulePiece place h ts) =
    either (flaw_if (is_late l h.number) place) _ (flaws (is_late l h.number) place)
    (either (term_fault 0 ts) _ (terms_told 0 ts) (six_rows place (post_rows l (asked h (whole_terms ts))) (post_six l (asked h (whole_terms ts)))))
piece_told l (PricePiece place p) = six_rows place (price_record_rows l p) (price_six l p)
piece_told l (Faulty place) = omega arith

behind : (o : Option FileRefusal) (rest : Result Ledger FileRefusal) (e : FileRefusal) → Tells o → (rest ≡ Err e → ToldAsSix e)
    → unless_fault o rest ≡ Err e → ToldAsSix e
behind None rest e here later h = later h
behind (Some d) rest e here later h = let same : d ≡ e = cc in subst ToldAsSix same here

all_told : (l : Ledger) (ps : List Piece) (e : FileRefusal) → told l ps ≡ Err e → ToldAsSix e
all_told l [] e h = let no : ⊥ = cc in absurd no
all_told l (p ∷ ps) e h = behind (fault l p) (told (with_call l p) ps) e (piece_told l p) (all_told (with_call l p) ps e) h

pub six_causes : (bytes : List ℕ) (e : FileRefusal) → reading bytes ≡ Err e → ToldAsSix e
six_causes bytes e h = all_told empty_ledger (pieces bytes) e h
