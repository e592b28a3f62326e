-- Lemmas about the tests of a list.
use Rattle.std.proofs.Common.{◌≡◌, ℕ, Bool, ◌||◌, eqb, List, [], ◌∷◌, map, fold, sym, refl, ap, ◌∙◌}
use mathlib.Core.Bool.{or-false, or_assoc}
use Rattle.terms.specs.Tests.{any, repeats}

-- a test of each element's image
pub any_map : {X Y : Type 0} (f : Y → Bool) (g : X → Y) (xs : List X) → any f (map g xs) ≡ any (λ x. f (g x)) xs
any_map f g [] = refl
any_map f g (x ∷ xs) = ap (λ b. f (g x) || b) (any_map f g xs)

-- a list in which a number is sought twice: the first element's number stands again, or the rest has one twice
pub repeats_first : {X : Type 0} (g : X → ℕ) (x : X) (xs : List X) (again : Bool) → again ≡ any (λ y. eqb (g x) (g y)) xs
    → repeats (map g (x ∷ xs)) ≡ (again || repeats (map g xs))
repeats_first g x xs again h = ap (λ b. b || repeats (map g xs)) (any_map (eqb (g x)) g xs ∙ sym h)

-- whether some element passes, as a sum of all the answers
pub any_folded : {X : Type 0} (f : X → Bool) (before : Bool) (xs : List X) → fold (λ found x. found || f x) before xs ≡ (before || any f xs)
any_folded f before [] = sym (or-false before)
any_folded f before (x ∷ xs) = any_folded f (before || f x) xs ∙ or_assoc before (f x) (any f xs)
