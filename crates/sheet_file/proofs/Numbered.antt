-- What is said of the rule numbers one after the other, with another rule under one number.
use Rattle.std.proofs.Common.{◌≡◌, ℕ, zero, suc, ◌+◌, ◌-◌, ◌<◌, ◌≤◌, Bool, false, eqb, List, [], ◌∷◌, ◌++◌, map, sum, sum_by, sym, refl, ap, ◌∙◌, append-nil, add-zero, zero-add, arith}
use Rattle.std.specs.List.{flat_map, range_with_len}
use Rattle.std.proofs.lemmas.List.Concat.{flat_map-append}
use Rattle.std.proofs.lemmas.List.FromFn.{length-range_with_len, get_or-range_with_len}
use Rattle.std.proofs.lemmas.List.Sums.{sum_by-append, sum_by-cons, sum-map}
use Rattle.std.proofs.lemmas.Bool.{cond-true, cond-false, eq-eqb, ne_eqb}
use Rattle.terms.specs.Tests.{any}
use Rattle.terms.proofs.Says.{any_false}
use Rattle.sheet.specs.Limits.{rule_numbers}
use Rattle.sheet.specs.Ledger.{put, numbers}

range-append : (a n m : ℕ) → range_with_len a (n + m) ≡ range_with_len a n ++ range_with_len (a + n) m
range-append a zero m = rw (zero-add, add-zero) refl
range-append a (suc n) m =
    let more : suc n + m ≡ suc (n + m) = omega arith in
    let on : a + 1 + n ≡ a + suc n = omega arith in
    ap (range_with_len a) more ∙ ap (λ xs. a ∷ xs) (range-append (a + 1) n m ∙ ap (λ j. range_with_len (a + 1) n ++ range_with_len j m) on)

-- the numbers in three parts: those below one, itself, and those above
abbrev parted : ℕ → ℕ → List ℕ
parted n m = range_with_len 0 n ++ n ∷ range_with_len (n + 1) m

range_parted : (n k : ℕ) → n < k → range_with_len 0 k ≡ parted n (k - (n + 1))
range_parted n k h =
    let rest = k - (n + 1) in
    let whole : k ≡ n + suc rest = omega arith in
    ap (range_with_len 0) whole ∙ range-append 0 n (suc rest) ∙ ap (λ j. range_with_len 0 n ++ range_with_len j (suc rest)) (zero-add n)

numbers_parted : (n : ℕ) → n < rule_numbers → numbers ≡ parted n (rule_numbers - (n + 1))
unfolding numbers
numbers_parted n h = range_parted n rule_numbers h

any_below : (f : ℕ → Bool) (k : ℕ) → any f (range_with_len 0 k) ≡ false → (j : ℕ) → j < k → f j ≡ false
any_below f k none j h =
    ap f (sym (get_or-range_with_len 0 k j 0 h ∙ zero-add j)) ∙ any_false f (range_with_len 0 k) none j 0 (omega (arith, length-range_with_len 0 k))

pub any_numbers : (f : ℕ → Bool) → any f numbers ≡ false → (j : ℕ) → j < rule_numbers → f j ≡ false
unfolding numbers
any_numbers f none j h = any_below f rule_numbers none j h

-- two functions that agree on a range
map_same : {X : Type 0} (f g : ℕ → X) (a k : ℕ) → ((j : ℕ) → a ≤ j → j < a + k → f j ≡ g j) → map f (range_with_len a k) ≡ map g (range_with_len a k)
map_same f g a zero same = refl
map_same f g a (suc k) same =
    let here = same a (omega arith) (omega arith) in
    let rest = map_same f g (a + 1) k (λ j low high. same j (omega arith) (omega arith)) in
    cc

flat_map_is : {X A : Type 0} (f : X → List A) (xs : List X) → flat_map f xs ≡ flat_map (λ x. x) (map f xs)
flat_map_is f [] = refl
flat_map_is f (x ∷ xs) = ap (λ ys. f x ++ ys) (flat_map_is f xs)

flat_same : {A : Type 0} (f g : ℕ → List A) (a k : ℕ) → ((j : ℕ) → a ≤ j → j < a + k → f j ≡ g j)
    → flat_map f (range_with_len a k) ≡ flat_map g (range_with_len a k)
flat_same f g a k same =
    flat_map_is f (range_with_len a k) ∙ ap (flat_map (λ x. x)) (map_same f g a k same) ∙ sym (flat_map_is g (range_with_len a k))

sum_same : (f g : ℕ → ℕ) (a k : ℕ) → ((j : ℕ) → a ≤ j → j < a + k → f j ≡ g j) → sum_by f (range_with_len a k) ≡ sum_by g (range_with_len a k)
sum_same f g a k same =
    sym (sum-map f (range_with_len a k)) ∙ ap sum (map_same f g a k same) ∙ sum-map g (range_with_len a k)

flat_none : {A : Type 0} (f : ℕ → List A) (a k : ℕ) → ((j : ℕ) → a ≤ j → j < a + k → f j ≡ []) → flat_map f (range_with_len a k) ≡ []
flat_none f a zero none = refl
flat_none f a (suc k) none =
    let here = none a (omega arith) (omega arith) in
    let rest = flat_none f (a + 1) k (λ j low high. none j (omega arith) (omega arith)) in
    ap (λ xs. xs ++ flat_map f (range_with_len (a + 1) k)) here ∙ rest

-- two functions that agree away from one number, under which and behind which the second one says nothing
module _ {A : Type 0} (f g : ℕ → List A) (n m : ℕ) (same : (j : ℕ) → (j ≡ n → ⊥) → f j ≡ g j)
    (none : (j : ℕ) → n ≤ j → j < n + 1 + m → g j ≡ []) where
  behind : flat_map g (range_with_len (n + 1) m) ≡ []
  behind = flat_none g (n + 1) m (λ j low high. none j (omega arith) high)

  first_parted : flat_map f (parted n m) ≡ flat_map g (range_with_len 0 n) ++ f n
  first_parted =
      let low = range_with_len 0 n in
      let below = flat_same f g 0 n (λ j l h. same j (λ e. absurd (omega arith))) in
      let above = flat_same f g (n + 1) m (λ j l h. same j (λ e. absurd (omega arith))) in
      flat_map-append f low (n ∷ range_with_len (n + 1) m) ∙ ap (λ xs. flat_map f low ++ (f n ++ xs)) (above ∙ behind)
      ∙ ap (λ xs. flat_map f low ++ xs) (append-nil (f n)) ∙ ap (λ xs. xs ++ f n) below

  second_parted : flat_map g (parted n m) ≡ flat_map g (range_with_len 0 n)
  second_parted =
      let low = range_with_len 0 n in
      let high = range_with_len (n + 1) m in
      let here = none n (omega arith) (omega arith) in
      flat_map-append g low (n ∷ high) ∙ ap (λ xs. flat_map g low ++ (xs ++ flat_map g high)) here
      ∙ ap (λ xs. flat_map g low ++ xs) behind ∙ append-nil (flat_map g low)

  flat_parted : flat_map f (parted n m) ≡ flat_map g (parted n m) ++ f n
  flat_parted = first_parted ∙ ap (λ xs. xs ++ f n) (sym second_parted)

sum_parted : (f g : ℕ → ℕ) (n m : ℕ) → ((j : ℕ) → (j ≡ n → ⊥) → f j ≡ g j) → g n ≡ 0 → sum_by f (parted n m) ≡ sum_by g (parted n m) + f n
sum_parted f g n m same none =
    let low = range_with_len 0 n in
    let high = range_with_len (n + 1) m in
    let below = sum_same f g 0 n (λ j l h. same j (λ e. absurd (omega arith))) in
    let above = sum_same f g (n + 1) m (λ j l h. same j (λ e. absurd (omega arith))) in
    omega (arith, sum_by-append f low (n ∷ high), sum_by-append g low (n ∷ high), sum_by-cons f n high, sum_by-cons g n high)

-- the same over all numbers
pub flat_numbers : {A : Type 0} (f g : ℕ → List A) (n : ℕ) → n < rule_numbers → ((j : ℕ) → (j ≡ n → ⊥) → f j ≡ g j)
    → ((j : ℕ) → n ≤ j → j < rule_numbers → g j ≡ []) → flat_map f numbers ≡ flat_map g numbers ++ f n
flat_numbers f g n h same none =
    rw (numbers_parted n h) (flat_parted f g n (rule_numbers - (n + 1)) same (λ j low high. none j low (omega arith)))

pub sum_numbers : (f g : ℕ → ℕ) (n : ℕ) → n < rule_numbers → ((j : ℕ) → (j ≡ n → ⊥) → f j ≡ g j) → g n ≡ 0
    → sum_by f numbers ≡ sum_by g numbers + f n
sum_numbers f g n h same none = rw (numbers_parted n h) (sum_parted f g n (rule_numbers - (n + 1)) same none)

flat_none_below : {A : Type 0} (f : ℕ → List A) (k : ℕ) → ((j : ℕ) → j < k → f j ≡ []) → flat_map f (range_with_len 0 k) ≡ []
flat_none_below f k none = flat_none f 0 k (λ j l h. none j (omega arith))

pub flat_no_numbers : {A : Type 0} (f : ℕ → List A) → ((j : ℕ) → j < rule_numbers → f j ≡ []) → flat_map f numbers ≡ []
unfolding numbers
flat_no_numbers f none = flat_none_below f rule_numbers none

-- a function with another value at one number
pub put_here : {X : Type 0} (f : ℕ → X) (n : ℕ) (x : X) → put f n x n ≡ x
put_here f n x = cond-true (eqb n n) x (f n) (eq-eqb n n refl)

pub put_other : {X : Type 0} (f : ℕ → X) (n : ℕ) (x : X) (j : ℕ) → (j ≡ n → ⊥) → put f n x j ≡ f j
put_other f n x j h = cond-false (eqb j n) x (f j) (ne_eqb j n h)
