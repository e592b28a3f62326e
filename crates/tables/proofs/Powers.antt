-- Powers of two, which are the numbers with a single one among their digits, and the lengths of tables.
use Rattle.std.proofs.Common.{◌≡◌, ℕ, zero, suc, ◌+◌, ◌*◌, ◌/◌, ◌%◌, ◌^◌, ◌<◌, ◌≤◌, Bool, true, false, ◌&&◌, eqb, leb, sym, refl, ap, ◌∙◌, ⊎_elim, pow-suc, zero-add, arith, pow_pos, pow_mono}
use lib.Count.{ones, ones_in, ones_step, ones_cat, ones-ones, count_trailing_zeros, under}
use Rattle.std.specs.List.{range_with_len, HoldsAt}
use Rattle.std.proofs.lemmas.List.FromFn.{get_or-range_with_len}
use Rattle.std.proofs.lemmas.Bool.{cases_lt, cases_eq, and_right, eq-eqb, eqb-true, lt-leb, false_from_ne_true, agree_below, agree_below_at}
use Rattle.std.proofs.lemmas.Bool.Decides.{Decides-like}
use Rattle.tables.specs.Limits.{most_table_spots}
use Rattle.tables.specs.NormalForm.{LengthSays}
use Rattle.tables.specs.Tables.{is_table_length}
use Rattle.terms.proofs.Says.{any_says}

-- 0 alone has no one
ones_none : (k n : ℕ) → n < 2 ^ k → ones n ≡ 0 → n ≡ 0
ones_none zero n l e = omega arith
ones_none (suc k) n l e =
    let rest = ones_none k (n / 2) (omega (arith, pow-suc 2 k)) (omega (arith, ones_step n)) in
    omega (arith, ones_step n)

trailing_even : (k n : ℕ) → n % 2 ≡ 0 → count_trailing_zeros (suc k) n ≡ suc (count_trailing_zeros k (n / 2))
unfolding count_trailing_zeros
trailing_even k n e = ap (λ d. under d (count_trailing_zeros k (n / 2))) e

trailing_odd : (k n : ℕ) → n % 2 ≡ 1 → count_trailing_zeros (suc k) n ≡ 0
unfolding count_trailing_zeros
trailing_odd k n e = ap (λ d. under d (count_trailing_zeros k (n / 2))) e

-- a number with a single one is the power of two that its trailing zeros tell
pub single_one : (k n : ℕ) → n < 2 ^ k → ones n ≡ 1 → n ≡ 2 ^ count_trailing_zeros k n
single_one zero n l e = let none : n ≡ 0 = omega arith in absurd (omega (arith, ap ones none, ones-ones 0))
single_one (suc k) n l e =
    let below : n / 2 < 2 ^ k = omega (arith, pow-suc 2 k) in
    ⊎_elim
    (λ h. rw (trailing_even k n h) (omega (arith, pow-suc 2 (count_trailing_zeros k (n / 2)), single_one k (n / 2) below (omega (arith, ones_step n)))))
    (λ h. rw (trailing_odd k n (omega arith)) (omega (arith, ones_none k (n / 2) below (omega (arith, ones_step n)))))
    (cases_eq (n % 2) 0)

pub ones_power : (k : ℕ) → ones (2 ^ k) ≡ 1
ones_power k =
    let e : 1 * 2 ^ k + 0 ≡ 2 ^ k = omega arith in
    ap ones (sym e) ∙ omega (arith, ones_cat k 1 0 (pow_pos k), ones-ones 0, ones-ones 1)

pub length_says : LengthSays
unfolding is_table_length
length_says n = Decides-like (is_table_length n) found listed (any_says (λ k. eqb n (2 ^ k)) (range_with_len 0 11))
  where
    found : ((k : ℕ) × (k < 11) × HoldsAt (λ k. eqb n (2 ^ k) ≡ true) (range_with_len 0 11) k) → (k : ℕ) × (k ≤ most_table_spots) × (n ≡ 2 ^ k)
    found t =
        let l = t.1 in
        (t.0, omega arith, eqb-true n _ (t.2 0) ∙ ap (λ j. 2 ^ j) (get_or-range_with_len 0 11 t.0 0 l ∙ zero-add t.0))

    listed : ((k : ℕ) × (k ≤ most_table_spots) × (n ≡ 2 ^ k)) → (k : ℕ) × (k < 11) × HoldsAt (λ k. eqb n (2 ^ k) ≡ true) (range_with_len 0 11) k
    listed t =
        let l : t.0 < 11 = omega (arith, t.1) in
        (t.0, l, λ d. eq-eqb n _ (t.2 ∙ ap (λ j. 2 ^ j) (sym (get_or-range_with_len 0 11 t.0 d l ∙ zero-add t.0))))

-- a table length is a power of two up to 1024, and no other number is
pub length_is : (n : ℕ) → (eqb (ones n) 1 && leb n 1024) ≡ is_table_length n
unfolding is_table_length ones ones_in
length_is n = ⊎_elim (agree_below_at short is_table_length 1025 n same_below) (λ l. and_right (eqb (ones n) 1) (leb n 1024) (lt-leb n 1024 (omega arith)) ∙ sym (too_long l)) (cases_lt n 1025)
  where
    short : ℕ → Bool
    short m = eqb (ones m) 1 && leb m 1024

    same_below : agree_below short is_table_length 1025 ≡ true
    same_below = refl

    too_long : 1025 ≤ n → is_table_length n ≡ false
    too_long l = false_from_ne_true (is_table_length n) (λ h. let (k, few, long) = (length_says n).0 h in let bound : 2 ^ k ≤ 2 ^ 10 = pow_mono few in absurd (omega arith))
