-- Tests of a list: whether some element passes, and whether one stands twice.
use Rattle.std.specs.Prelude.{ℕ, Bool, true, false, ◌||◌, List, [], ◌∷◌, nat_eq}
use Rattle.std.specs.List.{list_any}

-- some element passes the test
abbrev pub any : {X : Type 0} → (X → Bool) → List X → Bool
any f xs = list_any f xs

-- some number stands twice
abbrev pub repeats : List ℕ → Bool
repeats [] = false
repeats (x ∷ xs) = any (nat_eq x) xs || repeats xs

abbrev pub is_empty : {X : Type 0} → List X → Bool
is_empty [] = true
is_empty (x ∷ xs) = false
