-- The rows that fit a call, and which of them answers.
use Rattle.std.proofs.Common.{◌≡◌, ℕ, zero, suc, ◌<◌, ◌≤◌, Bool, true, false, cond, List, [], ◌∷◌, length, get_or, Some, None, Option, refl, ◌∙◌, le_refl, arith, MatchOption}
use Rattle.std.specs.List.{AllByRecursion}
use Rattle.std.proofs.lemmas.Bool.{both_ways, cond-true, cond-false, cond_both}
use Rattle.std.proofs.ByRecursion.{All-get_or}
use Rattle.terms.specs.Refusals.{Row, uppermost, stands, NoneFits, Tops, Uppermost}
use Rattle.terms.specs.declared.refusals.Refusal.{Refusal}

first_fits : (b : Bool) (e : Refusal) (o : Option Refusal) → cond b (Some e) o ≡ None → (b ≡ false) × (o ≡ None)
first_fits true e o h = let z : ◌≡◌ {A = ℕ} 0 1 = cc in absurd (omega arith)
first_fits false e o h = (cc, h)

pub no_row : (rs : List Row) → uppermost rs ≡ None → AllByRecursion (λ r. r.fits ≡ false) rs
no_row [] h = tt
no_row (r ∷ rs) h = let p = first_fits r.fits r.refusal (uppermost rs) h in (p.0, no_row rs p.1)

pub none_fits : (rs : List Row) → AllByRecursion (λ r. r.fits ≡ false) rs → uppermost rs ≡ None
none_fits [] h = refl
none_fits (r ∷ rs) h = cond-false r.fits (Some r.refusal) (uppermost rs) h.0 ∙ none_fits rs h.1

pub second_row : (r s : Row) (rs : List Row) → r.fits ≡ false → s.fits ≡ true → uppermost (r ∷ s ∷ rs) ≡ Some s.refusal
second_row r s rs h k =
    cond-false r.fits (Some r.refusal) (uppermost (s ∷ rs)) h ∙ cond-true s.fits (Some s.refusal) (uppermost rs) k

-- each row stands above those that follow it
abbrev pub InOrder : List Row → Type 0
InOrder [] = Unit {0}
InOrder (r ∷ rs) = AllByRecursion (λ s. stands r.refusal ≤ stands s.refusal) rs × InOrder rs

tops_first : (r : Row) (rs : List Row) → r.fits ≡ true → AllByRecursion (λ s. stands r.refusal ≤ stands s.refusal) rs → Tops (r ∷ rs) r.refusal
tops_first r rs h above = ((0, omega arith, λ d. (h, refl)), below)
  where
    below : (k : ℕ) (d : Row) → k < length (r ∷ rs) → (get_or (r ∷ rs) k d).fits ≡ true → stands r.refusal ≤ stands (get_or (r ∷ rs) k d).refusal
    below zero d l f = le_refl (stands r.refusal)
    below (suc k) d l f = All-get_or (λ s. stands r.refusal ≤ stands s.refusal) rs k d (omega arith) above

-- a row in front that does not fit
later : (r : Row) (rs : List Row) → r.fits ≡ false → (o : Option Refusal) → MatchOption o (NoneFits rs) (Tops rs)
    → MatchOption o (NoneFits (r ∷ rs)) (Tops (r ∷ rs))
later r rs h None none = all
  where
    all : NoneFits (r ∷ rs)
    all zero d l = h
    all (suc k) d l = none k d (omega arith)
later r rs h (Some e) ((k, l, here), low) = ((suc k, omega arith, here), below)
  where
    below : (j : ℕ) (d : Row) → j < length (r ∷ rs) → (get_or (r ∷ rs) j d).fits ≡ true → stands e ≤ stands (get_or (r ∷ rs) j d).refusal
    below zero d l f = absurd (both_ways r.fits h f)
    below (suc j) d l f = low j d (omega arith) f

pub uppermost_answers : (rs : List Row) → InOrder rs → Uppermost rs
uppermost_answers [] h = λ k d l. absurd (omega arith)
uppermost_answers (r ∷ rs) (above, rest) =
    cond_both r.fits (Some r.refusal) (uppermost rs) (λ o. MatchOption o (NoneFits (r ∷ rs)) (Tops (r ∷ rs)))
    (λ h. tops_first r rs h above) (λ h. later r rs h (uppermost rs) (uppermost_answers rs rest))
