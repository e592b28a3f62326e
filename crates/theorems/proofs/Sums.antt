-- Sums of functions that are nowhere negative.
use Rattle.std.proofs.Common.{◌≡◌, ℕ, zero, suc, ◌+◌, ◌<◌, ◌≤◌, Bool, true, false, cond, List, [], ◌∷◌, ◌++◌, map, filter, refl, ◌∙◌, ap₂, subst, sym, ⊎_elim, arith}
use Rattle.std.specs.Prelude.{◌↔◌}
use Rattle.std.specs.List.{AllByRecursion, range_with_len}
use Rattle.std.proofs.lemmas.Bool.{cases_order, both_ways}
use Rattle.theorems.specs.Equation.{Summand, sum_at}

-- ---- What holds of each function of a list

pub all_append : {X : Type 0} (P : X → Type 0) (xs ys : List X) → AllByRecursion P (xs ++ ys) ↔ (AllByRecursion P xs × AllByRecursion P ys)
all_append P [] ys = ((λ h. (tt, h)), (λ h. h.1))
all_append P (x ∷ xs) ys =
    let rest = all_append P xs ys in ((λ h. let both = rest.0 h.1 in ((h.0, both.0), both.1)), (λ h. (h.0.0, rest.1 (h.0.1, h.1))))

-- a list of functions that is made from the numbers from a on
pub all_range : {X : Type 0} (P : X → Type 0) (f : ℕ → X) (n a : ℕ) → AllByRecursion P (map f (range_with_len a n)) ↔ ((k : ℕ) → a ≤ k → k < a + n → P (f k))
all_range P f zero a = ((λ h k l m. absurd (omega arith)), (λ h. tt))
all_range P f (suc n) a =
    let rest = all_range P f n (a + 1) in (
      λ h k l m. ⊎_elim (λ e. subst (λ j. P (f j)) (sym e) h.0)
          (⊎_elim (λ below. absurd (omega arith)) (λ past. rest.0 h.1 k (omega arith) (omega arith))) (cases_order k a),
      λ h. (h a (omega arith) (omega arith), rest.1 (λ k l m. h k (omega arith) (omega arith))),
    )

-- ---- Sums

-- where the test passes, the function is 0 at x
abbrev pub ZeroWhere : (ℕ → Bool) → ℕ → Summand → Type 0
ZeroWhere test x f = test f.scope ≡ true → f.value x ≡ 0

pub kept : (b : Bool) (f : Summand) (fs : List Summand) (x : ℕ) → sum_at (cond b (f ∷ fs) fs) x ≡ cond b (f.value x) 0 + sum_at fs x
kept true f fs x = refl
kept false f fs x = omega arith

kept_zero : (b : Bool) (n : ℕ) → (b ≡ true → n ≡ 0) → cond b n 0 ≡ 0
kept_zero true n h = h refl
kept_zero false n h = refl

zero_kept : (b : Bool) (n : ℕ) → cond b n 0 ≡ 0 → b ≡ true → n ≡ 0
zero_kept true n h e = h
zero_kept false n h e = absurd (both_ways false refl e)

-- a sum of functions is 0 exactly where each of them is
pub sum_zero : (test : ℕ → Bool) (x : ℕ) (fs : List Summand)
    → (sum_at (filter (λ f. test f.scope) fs) x ≡ 0) ↔ AllByRecursion (ZeroWhere test x) fs
sum_zero test x [] = ((λ h. tt), (λ h. refl))
sum_zero test x (f ∷ fs) =
    let rest = sum_zero test x fs in
    let step = kept (test f.scope) f (filter (λ f. test f.scope) fs) x in (
      λ h. (zero_kept (test f.scope) (f.value x) (omega arith), rest.0 (omega arith)),
      λ h. let here = kept_zero (test f.scope) (f.value x) h.0 in let there = rest.1 h.1 in omega arith,
    )

pub sum_zero_each : (x : ℕ) (fs : List Summand) → (sum_at fs x ≡ 0) ↔ AllByRecursion (λ f. f.value x ≡ 0) fs
sum_zero_each x [] = ((λ h. tt), (λ h. refl))
sum_zero_each x (f ∷ fs) =
    let rest = sum_zero_each x fs in ((λ h. (omega arith, rest.0 (omega arith))), (λ h. let here = h.0 in let there = rest.1 h.1 in omega arith))

kept_same : (b : Bool) (n m : ℕ) → (b ≡ true → n ≡ m) → cond b n 0 ≡ cond b m 0
kept_same true n m h = h refl
kept_same false n m h = refl

-- a sum is the same at two line-ups where each of its functions is
pub sum_same : (test : ℕ → Bool) (x y : ℕ) (fs : List Summand) → AllByRecursion (λ f. test f.scope ≡ true → f.value x ≡ f.value y) fs
    → sum_at (filter (λ f. test f.scope) fs) x ≡ sum_at (filter (λ f. test f.scope) fs) y
sum_same test x y [] h = refl
sum_same test x y (f ∷ fs) h =
    let rest = filter (λ f. test f.scope) fs in
    kept (test f.scope) f rest x ∙ ap₂ (λ a b. a + b) (kept_same (test f.scope) (f.value x) (f.value y) h.0) (sum_same test x y fs h.1)
    ∙ sym (kept (test f.scope) f rest y)
