-- The steps of a loop over the spots of a mask, the lowest first: `bit_and m (m - 1)` is the mask without its lowest spot.
use Rattle.std.proofs.Common.{◌≡◌, ℕ, zero, suc, ◌+◌, ◌-◌, ◌*◌, ◌/◌, ◌%◌, ◌^◌, ◌<◌, ◌⊎◌, ap, ◌∙◌, mul_assoc, pow-suc, arith}
use lib.Arith.{bin_ind}
use lib.Bits.{bit_and, and_step, and_self}
use lib.Count.{ones_step, count_trailing_zeros}
use Rattle.std.proofs.lemmas.Nat.{shr-shr, and_mask, shl_whole}
use Rattle.terms.specs.Groups.{size}
use Rattle.terms.specs.Packing.{digits_at, digits_onto}
use Rattle.terms.proofs.Packing.{digits_step, onto_step}

trailing_step : (n m : ℕ)
    → ((m % 2 ≡ 0) × (count_trailing_zeros (suc n) m ≡ suc (count_trailing_zeros n (m / 2)))) ⊎ ((m % 2 ≡ 1) × (count_trailing_zeros (suc n) m ≡ 0))
unfolding count_trailing_zeros
trailing_step n m = grind arith

without_step : (m : ℕ) → 0 < m
    → ((m % 2 ≡ 0) × (bit_and m (m - 1) ≡ bit_and (m / 2) (m / 2 - 1) * 2)) ⊎ ((m % 2 ≡ 1) × (bit_and m (m - 1) ≡ m / 2 * 2))
without_step m h = grind (arith, and_step m (m - 1), and_self (m / 2))

pub size_without : (m : ℕ) → 0 < m → size m ≡ suc (size (bit_and m (m - 1)))
size_without =
    bin_ind (λ m. 0 < m → size m ≡ suc (size (bit_and m (m - 1)))) (λ h. absurd (omega arith))
    (λ m below h. grind (arith, without_step m h, ones_step m, ones_step (bit_and m (m - 1))))

-- what is packed, the digit of the lowest spot apart
pub digits_lowest : (n m g : ℕ) → 0 < m → m < 2 ^ n
    → digits_at n m g ≡ g / 2 ^ count_trailing_zeros n m % 2 + 2 * digits_at n (bit_and m (m - 1)) g
digits_lowest zero m g h l = absurd (omega arith)
digits_lowest (suc n) m g h l =
    let rest = digits_lowest n (m / 2) (g / 2) in
    grind (arith, without_step m h, trailing_step n m, digits_step n m g, digits_step n (bit_and m (m - 1)) g, shr-shr g 1 (count_trailing_zeros n (m / 2)))

-- what is unpacked, the digit of the lowest spot apart
pub onto_lowest : (n m c : ℕ) → 0 < m → m < 2 ^ n
    → digits_onto n m c ≡ c % 2 * 2 ^ count_trailing_zeros n m + digits_onto n (bit_and m (m - 1)) (c / 2)
onto_lowest zero m c h l = absurd (omega arith)
onto_lowest (suc n) m c h l =
    let t = count_trailing_zeros n (m / 2) in
    let rest = onto_lowest n (m / 2) c in
    let double : c % 2 * 2 ^ suc t ≡ 2 * (c % 2 * 2 ^ t) = rw (pow-suc 2 t) (omega (arith, mul_assoc (c % 2) (2 ^ t) 2)) in
    grind (arith, without_step m h, trailing_step n m, onto_step n m c, onto_step n (bit_and m (m - 1)) (c / 2))

-- a digit shifted to a place of a number of 32 digits
pub digit_shifted : (d p : ℕ) → p < 32 → bit_and d 1 * 2 ^ p % 2 ^ 32 ≡ d % 2 * 2 ^ p
digit_shifted d p l = ap (λ b. b * 2 ^ p % 2 ^ 32) (and_mask d 1) ∙ shl_whole (d % 2) 1 p 32 (omega arith) (omega arith)
