-- The laws of the tests of lists, groups and relations.
use Rattle.std.proofs.Common.{◌≡◌, ℕ, zero, suc, ◌+◌, ◌/◌, ◌%◌, ◌^◌, ◌<◌, ◌≤◌, Bool, true, false, cond, not, ◌&&◌, ◌||◌, eqb, ◌⊎◌, List, [], ◌∷◌, length, get_or, fold, sym, refl, ap, ◌∙◌, subst, inl, inr, ⊎_elim, pow-suc, one-add, arith, pow_mono}
use mathlib.Core.Path.{fun_ext}
use mathlib.Core.Bool.{or-false, or_assoc}
use native.Mathlib.Nat.{zero-div}
use lib.Arith.{lt-one}
use lib.Bits.{bit_and, bit_or, and_step, or_step}
use lib.Count.{ones, ones_step, ones-ones}
use Rattle.std.specs.List.{HoldsAt}
use Rattle.std.proofs.lemmas.Bool.Decides.{nat_tests, not_from_Decides, Decides-like, Decides-not, Decides-or, Decides-by_or}
use Rattle.std.proofs.lemmas.Nat.{and_shr, or_shr, shr-shr, mod-pow-add, pow_pos, le-div, div_below, leading_top}
use Rattle.std.proofs.lemmas.List.{get_or_default}
use Rattle.std.proofs.lemmas.Bool.{false≢true, cases_lt, not-true, and_parts, and_from, or_parts, eq-eqb, eqb-true, leb-true}
use Rattle.terms.specs.Tests.{any, repeats}
use Rattle.terms.specs.Groups.{holds, beyond}
use Rattle.terms.specs.Laws.{AnySays, RepeatsSays, BeyondSays, TopsSays, UnionSays, SizeSays, passing}

pub any_says : {X : Type 0} → AnySays X
any_says {X} f xs = Decides-by_or f (λ x. f x ≡ true) (any f) (λ x. ((λ h. h), (λ h. h))) refl (λ _ _. refl) xs

pub any_false : {X : Type 0} (f : X → Bool) (xs : List X) → any f xs ≡ false → (k : ℕ) (d : X) → k < length xs → f (get_or xs k d) ≡ false
any_false f [] h k d l = absurd (omega arith)
any_false f (x ∷ xs) h zero d l = (or_parts (f x) (any f xs) h).0
any_false f (x ∷ xs) h (suc k) d l = any_false f xs (or_parts (f x) (any f xs) h).1 k d (omega arith)

-- two places hold the same number
abbrev Twice : List ℕ → Type 0
Twice xs = (i : ℕ) × (j : ℕ) × (i < j) × (j < length xs) × (get_or xs i 0 ≡ get_or xs j 0)

-- the first number stands again, or the rest has one twice
abbrev Either : ℕ → List ℕ → Type 0
Either x xs = ((k : ℕ) × (k < length xs) × HoldsAt (λ y. eqb x y ≡ true) xs k) ⊎ Twice xs

twice_from : (x : ℕ) (xs : List ℕ) → Either x xs → Twice (x ∷ xs)
twice_from x xs (inl t) = let l = t.1 in (0, suc t.0, omega arith, omega arith, eqb-true x _ (t.2 0))
twice_from x xs (inr t) = let (_, _, h, l, _) = t in (suc t.0, suc t.1, omega arith, omega arith, t.4)

either_from : (x : ℕ) (xs : List ℕ) (i j : ℕ) → i < j → j < suc (length xs) → get_or (x ∷ xs) i 0 ≡ get_or (x ∷ xs) j 0 → Either x xs
either_from x xs i zero h l e = absurd (omega arith)
either_from x xs zero (suc j) h l e = let l' : j < length xs = omega arith in inl (j, l', λ d. eq-eqb x _ (e ∙ get_or_default xs j 0 d l'))
either_from x xs (suc i) (suc j) h l e = inr (i, j, omega arith, omega arith, e)

pub repeats_says : RepeatsSays
repeats_says [] = (λ h. absurd (false≢true h), λ t. let l = t.3 in absurd (omega arith))
repeats_says (x ∷ xs) =
    Decides-like (repeats (x ∷ xs)) (twice_from x xs) (λ t. either_from x xs t.0 t.1 t.2 t.3 t.4)
    (Decides-or (any (eqb x) xs) (repeats xs) (any_says (eqb x) xs) (repeats_says xs))

pub repeats_false : (xs : List ℕ) → repeats xs ≡ false → (i j : ℕ) → i < j → j < length xs → get_or xs i 0 ≡ get_or xs j 0 → ⊥
repeats_false xs h i j below within same = not_from_Decides (repeats xs) (repeats_says xs) h (i, j, below, within, same)

odd_or : (x y : ℕ) → eqb (bit_or x y % 2) 1 ≡ (eqb (x % 2) 1 || eqb (y % 2) 1)
odd_or x y = grind (arith, nat_tests, or_step x y)

-- one spot of a union of two groups
pub holds_or : (a b i : ℕ) → holds (bit_or a b) i ≡ (holds a i || holds b i)
holds_or a b i = rw (or_shr a b i) (odd_or (a / 2 ^ i) (b / 2 ^ i))

odd_and : (x y : ℕ) → eqb (bit_and x y % 2) 1 ≡ (eqb (x % 2) 1 && eqb (y % 2) 1)
odd_and x y = grind (arith, nat_tests, and_step x y)

-- one spot of what two groups share
pub holds_and : (a b i : ℕ) → holds (bit_and a b) i ≡ (holds a i && holds b i)
holds_and a b i = rw (and_shr a b i) (odd_and (a / 2 ^ i) (b / 2 ^ i))

-- the union of the groups of a list, from one on
union_from : (a : ℕ) (gs : List ℕ) (i : ℕ) → holds (fold bit_or a gs) i ≡ (holds a i || any (λ g. holds g i) gs)
union_from a [] i = sym (or-false (holds a i))
union_from a (g ∷ gs) i = union_from (bit_or a g) gs i ∙ rw holds_or (or_assoc (holds a i) (holds g i) (any (λ g. holds g i) gs))

pub union_says : UnionSays
union_says gs i = union_from 0 gs i ∙ ap (λ x. eqb (x % 2) 1 || any (λ g. holds g i) gs) (zero-div (2 ^ i))

below_pow : (g : ℕ) → g < 2 ^ g
below_pow zero = omega arith
below_pow (suc g) = omega (arith, pow-suc 2 g, below_pow g)

-- the highest spot of a group
highest : (n g : ℕ) → 2 ^ n ≤ g → (i : ℕ) × (n ≤ i) × (holds g i ≡ true)
highest n g h =
    let (j, _, low, high) = leading_top g g (omega (arith, pow_pos n)) (below_pow g) in (
      j,
      ⊎_elim (λ l. absurd (omega (arith, pow_mono l))) (λ l. l) (cases_lt j n),
      grind (arith, nat_tests, pow_pos j, pow-suc 2 j, le-div 1 g (2 ^ j), div_below g (2 ^ j) 2),
    )

pub beyond_says : BeyondSays
beyond_says n g = (
  λ h. highest n g (leb-true (2 ^ n) g h),
  λ t. grind (arith, nat_tests, pow_mono t.1, pow_pos t.0, div_below g (2 ^ t.0) 1),
)

pub beyond_false : (n g : ℕ) → beyond n g ≡ false → (i : ℕ) → holds g i ≡ true → i < n
beyond_false n g h i on = ⊎_elim (λ l. l) (λ l. absurd (not_from_Decides (beyond n g) (beyond_says n g) h (i, l, on))) (cases_lt i n)

-- a number of k digits holds no spot numbered k or more
pub holds_beyond : (k x i : ℕ) → x < 2 ^ k → k ≤ i → holds x i ≡ false
holds_beyond k x i h l = grind (arith, nat_tests, pow_mono l, pow_pos i, div_below x (2 ^ i) 1)

pub tops_says : TopsSays
tops_says i g = (
  λ h.
      let (up, low) = and_parts (beyond i g) (not (beyond (suc i) g)) h in
      let highest = beyond_false (suc i) g (not-true (beyond (suc i) g) low) in
      let (j, above, on) = (beyond_says i g).0 up in
      let under = highest j on in
      let same : j ≡ i = omega arith in
      (subst (λ k. holds g k ≡ true) same on, λ k on. let l = highest k on in omega arith),
  λ t. and_from (beyond i g) (not (beyond (suc i) g)) ((beyond_says i g).1 (i, omega arith, t.0)) (none_above t),
)
  where
    none_above : (holds g i ≡ true) × ((j : ℕ) → holds g j ≡ true → j ≤ i) → not (beyond (suc i) g) ≡ true
    none_above t =
        (Decides-not (beyond (suc i) g) (beyond_says (suc i) g)).1 (λ found. let (j, above, on) = found in let under = t.1 j on in absurd (omega arith))

-- the count split at its lowest number, where `passing` splits off its highest
passing_low : (n : ℕ) (f : ℕ → Bool) → passing (suc n) f ≡ cond (f 0) 1 0 + passing n (λ i. f (suc i))
passing_low zero f = refl
passing_low (suc n) f = omega (arith, passing_low n f)

-- halving moves each spot down by one
pub holds_half : (g i : ℕ) → holds (g / 2) i ≡ holds g (suc i)
holds_half g i = rw (← one-add i) (ap (λ x. eqb (x % 2) 1) (shr-shr g 1 i))

-- the first k digits of a number are its spots below k
pub holds_mod : (k x i : ℕ) → i < k → holds (x % 2 ^ k) i ≡ holds x i
holds_mod zero x i l = absurd (omega arith)
holds_mod (suc k) x zero l = grind (arith, mod-pow-add x k 1)
holds_mod (suc k) x (suc i) l =
    let half : x % 2 ^ suc k / 2 ≡ x / 2 % 2 ^ k = grind (arith, mod-pow-add x k 1) in
    sym (holds_half (x % 2 ^ suc k) i) ∙ ap (λ y. holds y i) half ∙ holds_mod k (x / 2) i (omega arith) ∙ holds_half x i

pub size_says : SizeSays
size_says zero g h = ap ones (lt-one h) ∙ ones-ones 0
size_says (suc n) g h =
    let rest = size_says n (g / 2) (omega (arith, pow-suc 2 n)) ∙ ap (passing n) (fun_ext (holds_half g)) in
    let lowest : g % 2 ≡ cond (holds g 0) 1 0 = grind (arith, nat_tests) in
    omega (arith, ones_step g, passing_low n (holds g))
