-- Lists of numbers in which none stands twice: what a push and a filter leave of them.
use Rattle.std.proofs.Common.{◌≡◌, ℕ, Bool, false, eqb, List, [], ◌∷◌, ◌++◌, map, filter, refl, ⊎_elim, arith}
use Rattle.std.proofs.lemmas.List.{places}
use Rattle.std.proofs.lemmas.Bool.{cases_Bool, cond_both, or_from, or_parts}
use Rattle.std.proofs.lemmas.Bool.Decides.{nat_tests}
use Rattle.terms.specs.Tests.{any, repeats}
use Rattle.terms.proofs.Says.{any_false, repeats_says, repeats_false}
use Rattle.sheet.specs.Kept.{Apart}

pub apart_push : (xs : List ℕ) (x : ℕ) → any (eqb x) xs ≡ false → Apart xs → Apart (xs ++ x ∷ [])
apart_push xs x fresh apart i j below within same =
    let new = any_false (eqb x) xs fresh i 0 in
    let old = apart i j below in
    grind (arith, nat_tests, places)

pub repeats_apart : (xs : List ℕ) → Apart xs → repeats xs ≡ false
repeats_apart xs apart = ⊎_elim
    (λ h. let t = (repeats_says xs).0 h in absurd (apart t.0 t.1 t.2 t.3 t.4))
    (λ h. h)
    (cases_Bool (repeats xs))

-- the numbers that g gives of a list's elements, and of those alone that pass
module _ {X : Type 0} (g : X → ℕ) (test : X → Bool) where
  any_kept_by : (f : ℕ → Bool) (xs : List X) → any f (map g xs) ≡ false → any f (map g (filter test xs)) ≡ false
  any_kept_by f [] h = refl
  any_kept_by f (x ∷ xs) h =
      let (here, later) = or_parts (f (g x)) (any f (map g xs)) h in
      let rest = any_kept_by f xs later in
      cond_both (test x) _ _ (λ ys. any f (map g ys) ≡ false) (λ _. or_from (f (g x)) _ here rest) (λ _. rest)

  pub repeats_kept_by : (xs : List X) → repeats (map g xs) ≡ false → repeats (map g (filter test xs)) ≡ false
  repeats_kept_by [] h = refl
  repeats_kept_by (x ∷ xs) h =
      let (here, later) = or_parts (any (eqb (g x)) (map g xs)) (repeats (map g xs)) h in
      let rest = repeats_kept_by xs later in
      cond_both (test x) _ _ (λ ys. repeats (map g ys) ≡ false) (λ _. or_from _ _ (any_kept_by (eqb (g x)) xs here) rest) (λ _. rest)

  pub apart_kept_by : (xs : List X) → Apart (map g xs) → Apart (map g (filter test xs))
  apart_kept_by xs apart = repeats_false (map g (filter test xs)) (repeats_kept_by xs (repeats_apart (map g xs) apart))
