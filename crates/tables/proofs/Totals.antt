-- Sums of a function over the numbers below n.
use Rattle.std.proofs.Common.{◌≡◌, ℕ, zero, suc, ◌+◌, ◌*◌, ◌<◌, ◌≤◌, cond, eqb, ℤ, pos, ◌+ℤ◌, nat_abs, sym, refl, ap, ◌∙◌, ap₂, ⊎_elim, add-zero, add-suc, suc-mul, arith}
use borrow.Author.Differences.{ints}
use lib.IntN.{+ℤ_idl, +ℤ_idr}
use Rattle.std.proofs.lemmas.Bool.{cond-true, cond-false, cases_eq, eq-eqb, ne_eqb}
use Rattle.tables.specs.NormalForm.{total}
use Rattle.tables.specs.Tables.{Operation, plus, minus, applied}

pub total_same : (n : ℕ) (f g : ℕ → ℤ) → ((h : ℕ) → h < n → f h ≡ g h) → total n f ≡ total n g
total_same zero f g e = refl
total_same (suc n) f g e = ap₂ ◌+ℤ◌ (total_same n f g (λ h l. e h (omega arith))) (e n (omega arith))

pub total_none : (n : ℕ) (f : ℕ → ℤ) → ((h : ℕ) → h < n → f h ≡ pos 0) → total n f ≡ pos 0
total_none zero f e = refl
total_none (suc n) f e = ap₂ ◌+ℤ◌ (total_none n f (λ h l. e h (omega arith))) (e n (omega arith))

-- a sum is taken in two parts
pub total_append : (n m : ℕ) (f : ℕ → ℤ) → total (n + m) f ≡ total n f +ℤ total m (λ h. f (n + h))
total_append n zero f = rw (add-zero n) (sym (+ℤ_idr (total n f)))
total_append n (suc m) f = rw (add-suc n m) (omega (arith, ints, total_append n m f))

-- the sum of sums, and of differences
pub total_applied : (o : Operation) (n : ℕ) (f g : ℕ → ℤ) → total n (λ h. applied o (f h) (g h)) ≡ applied o (total n f) (total n g)
total_applied plus zero f g = omega (arith, ints)
total_applied minus zero f g = omega (arith, ints)
total_applied plus (suc n) f g = omega (arith, ints, total_applied plus n f g)
total_applied minus (suc n) f g = omega (arith, ints, total_applied minus n f g)

pub total_zero_applied : (o : Operation) (n : ℕ) (f : ℕ → ℤ) → total n (λ h. applied o (pos 0) (f h)) ≡ applied o (pos 0) (total n f)
total_zero_applied o n f = total_applied o n (λ _. pos 0) f ∙ ap (λ z. applied o z (total n f)) (total_none n (λ _. pos 0) (λ _ _. refl))

-- a sum of small numbers is not large
pub total_near : (n m : ℕ) (f : ℕ → ℤ) → ((h : ℕ) → h < n → nat_abs (f h) ≤ m) → nat_abs (total n f) ≤ n * m
total_near zero m f e = omega arith
total_near (suc n) m f e =
    let rest = total_near n m f (λ h l. e h (omega arith)) in
    let last = e n (omega arith) in
    omega (arith, ints, suc-mul n m)

-- a sum, its first number apart
pub total_first : (n : ℕ) (f : ℕ → ℤ) → total (suc n) f ≡ f 0 +ℤ total n (λ h. f (suc h))
total_first zero f = omega (arith, ints)
total_first (suc n) f = omega (arith, ints, total_first n f)

-- a sum of which only the number at g is kept
pub total_only : (n g : ℕ) (f : ℕ → ℤ) → g < n → total n (λ h. cond (eqb g h) (f h) (pos 0)) ≡ f g
total_only zero g f l = absurd (omega arith)
total_only (suc n) g f l =
    ⊎_elim last (λ apart. ap₂ ◌+ℤ◌ (total_only n g f (omega arith)) (cond-false (eqb g n) (f n) (pos 0) (ne_eqb g n apart)) ∙ +ℤ_idr (f g)) (cases_eq g n)
  where
    last : g ≡ n → total (suc n) (λ h. cond (eqb g h) (f h) (pos 0)) ≡ f g
    last e =
        ap₂ ◌+ℤ◌ (total_none n _ (λ h below. cond-false (eqb g h) (f h) (pos 0) (ne_eqb g h (omega arith)))) (cond-true (eqb g n) (f n) (pos 0) (eq-eqb g n e))
        ∙ +ℤ_idl (f n)
        ∙ ap f (sym e)
