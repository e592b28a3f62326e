-- The codes against v and w, and the most general solution.
use Rattle.std.proofs.Common.{◌≡◌, ℕ, zero, suc, ◌+◌, ◌-◌, ◌*◌, ◌^◌, ◌<◌, ◌≤◌, Bool, true, false, refl, sym, subst, arith}
use Rattle.std.specs.Prelude.{◌↔◌, ◌==◌}
use Rattle.std.proofs.lemmas.Bool.Decides.{nat_tests}
use Rattle.sheet.specs.Limits.{most_spots}
use Rattle.elimination.specs.Lawful.{Question, spot_count}
use Rattle.elimination.specs.Codes.{Cells, code_from, code_number, taken, cells_from, cells_at}
use Rattle.theorems.specs.Equation.{Proper, bit, v, w, v_at, w_at, remainders_from, cells_of, CodeTells, CodesSay, IsMostGeneral, GeneralSays}
use Rattle.theorems.proofs.Remainders.{beside, open_zero}
use Rattle.theorems.proofs.Places.{remainders_at, cells_of_is, spots_above}

-- v and w are 0 exactly where in and out are open
pub record Tells (m n : ℕ) (c : Cells) (x : ℕ) : Type 0 where
  pub out_open : (n ≡ 0) ↔ (c.opens false x ≡ true)
  pub in_open : (m ≡ 0) ↔ (c.opens true x ≡ true)

pub tells : (q : Question) → Proper q → (i x : ℕ) → i < spot_count q.contents → x < 2 ^ i → Tells (v q i x) (w q i x) (cells_of q i) x
tells q proper i x l h =
    let m = spot_count q.contents - suc i in
    let e = spots_above (spot_count q.contents) i l in
    let fs = remainders_from q m (suc i) in
    let cs = cells_from q m (suc i) in
    let few : suc i + m ≤ most_spots = omega (arith, proper.0.0.0) in
    let open-here = open_zero q i (omega (arith, proper.0.0.0)) fs cs (beside q m (suc i) few) x h in
    let there : Tells (v_at q i fs x) (w_at q i fs x) (cells_at q i cs) x = record { out_open = open-here false; in_open = open-here true } in
    subst (λ later. Tells (v_at q i later x) (w_at q i later x) (cells_of q i) x) (sym (remainders_at q (suc i) m (omega arith)))
    (subst (λ c. Tells (v_at q i fs x) (w_at q i fs x) c x) (sym (cells_of_is q i m e)) there)

-- ---- By whether each number is 0

is_zero : ℕ → Bool
is_zero zero = true
is_zero (suc n) = false

zero_told : (n : ℕ) (a : Bool) → (n ≡ 0) ↔ (a ≡ true) → is_zero n ≡ a
unfolding is_zero
zero_told zero a h = sym (h.0 refl)
zero_told (suc n) true h = absurd (omega (arith, h.1 refl))
zero_told (suc n) false h = refl

suc_not_zero : (n : ℕ) → (suc n == 0) ≡ false
suc_not_zero n = grind (arith, nat_tests)

both : (P Q : Type 0) → P → Q → P ↔ Q
both P Q p q = ((λ h. q), (λ h. p))

neither : (P Q : Type 0) → (P → ⊥) → (Q → ⊥) → P ↔ Q
neither P Q p q = ((λ h. absurd (p h)), (λ h. absurd (q h)))

code_tells : (m n : ℕ) → CodeTells (code_number (code_from (is_zero n) (is_zero m))) m n
unfolding is_zero
code_tells zero zero = record {
  dead = neither _ _ (λ h. omega arith) (λ h. h (omega arith));
  free = both _ _ refl (refl, refl);
  out_only = neither _ _ (λ h. omega arith) (λ h. h.1 refl);
  in_only = neither _ _ (λ h. omega arith) (λ h. h.1 refl);
}
code_tells zero (suc n) = record {
  dead = neither _ _ (λ h. omega arith) (λ h. h (omega arith));
  free = neither _ _ (λ h. omega arith) (λ h. omega arith);
  out_only = neither _ _ (λ h. omega arith) (λ h. h.1 refl);
  in_only = both _ _ refl (refl, (λ e. omega arith));
}
code_tells (suc m) zero = record {
  dead = neither _ _ (λ h. omega arith) (λ h. h (omega arith));
  free = neither _ _ (λ h. omega arith) (λ h. omega arith);
  out_only = both _ _ refl (refl, (λ e. omega arith));
  in_only = neither _ _ (λ h. omega arith) (λ h. h.1 refl);
}
code_tells (suc m) (suc n) = record {
  dead = both _ _ refl (λ e. omega arith);
  free = neither _ _ (λ h. omega arith) (λ h. omega arith);
  out_only = neither _ _ (λ h. omega arith) (λ h. omega arith);
  in_only = neither _ _ (λ h. omega arith) (λ h. omega arith);
}

only_in : (n : ℕ) (X : Bool) → 0 * bit X + suc n * (1 - bit X) ≡ 0 → true ≡ X
only_in n true h = refl
only_in n false h = absurd (omega arith)

only_out : (m : ℕ) (X : Bool) → suc m * bit X + 0 * (1 - bit X) ≡ 0 → false ≡ X
only_out m true h = absurd (omega arith)
only_out m false h = refl

one_or_other : (Y : Bool) → 1 ≡ 1 * bit Y + 1 * (1 - bit Y)
one_or_other true = refl
one_or_other false = refl

most_general : (m n : ℕ) → m * n ≡ 0 → IsMostGeneral m n (taken (code_from (is_zero n) (is_zero m)))
unfolding is_zero
most_general zero zero h = record { value = λ Y. omega arith; solves = λ Y. omega arith; reached = λ X e. refl }
most_general zero (suc n) h = record { value = λ Y. rw (suc_not_zero n) (one_or_other Y); solves = λ Y. omega arith; reached = only_in n }
most_general (suc m) zero h = record { value = λ Y. rw (suc_not_zero m) (omega arith); solves = λ Y. omega arith; reached = only_out m }
most_general (suc m) (suc n) h = absurd (omega arith)

pub codes_say : CodesSay
codes_say q proper i x l h =
    let t = tells q proper i x l h in
    let c = cells_of q i in
    subst (λ b. CodeTells (code_number (code_from (c.opens false x) b)) (v q i x) (w q i x)) (zero_told (v q i x) (c.opens true x) t.in_open)
    (subst (λ a. CodeTells (code_number (code_from a (is_zero (v q i x)))) (v q i x) (w q i x)) (zero_told (w q i x) (c.opens false x) t.out_open)
    (code_tells (v q i x) (w q i x)))

pub general_says : GeneralSays
general_says q proper i x l h product =
    let t = tells q proper i x l h in
    let c = cells_of q i in
    subst (λ b. IsMostGeneral (v q i x) (w q i x) (taken (code_from (c.opens false x) b))) (zero_told (v q i x) (c.opens true x) t.in_open)
    (subst (λ a. IsMostGeneral (v q i x) (w q i x) (taken (code_from a (is_zero (v q i x))))) (zero_told (w q i x) (c.opens false x) t.out_open)
    (most_general (v q i x) (w q i x) product))
