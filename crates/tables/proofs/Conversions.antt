-- The conversion of a table entry by entry: how a table over one spot more is made of its halves, and that the two operations undo each other.
use Rattle.std.proofs.Common.{◌≡◌, ℕ, zero, suc, ◌+◌, ◌*◌, ◌^◌, ◌<◌, ◌≤◌, Bool, true, false, cond, eqb, ℤ, pos, ◌+ℤ◌, nat_abs, sym, refl, ap, ◌∙◌, subst, ap₂, one-mul, pow-suc, zero-mul, arith}
use borrow.Author.Differences.{ints}
use lib.Bits.{bit_and, bit_xor, and_block, xor_block, xor_lt, and_le_r, and_zero_l}
use lib.Count.{ones, ones_cat, ones-ones}
use lib.IntN.{+ℤ_idl, +ℤ_idr}
use Rattle.std.proofs.lemmas.Bool.Decides.{nat_tests}
use Rattle.terms.specs.Groups.{inside, size}
use Rattle.tables.specs.NormalForm.{total}
use Rattle.tables.specs.Tables.{Operation, plus, minus, applied, turned}
use Rattle.tables.proofs.Joins.{in_halves}
use Rattle.tables.proofs.Totals.{total_same, total_none, total_append, total_applied, total_zero_applied, total_near}

-- ---- Groups with and without one more spot, the highest

module _ (k h g : ℕ) (below-h : h < 2 ^ k) (below-g : g < 2 ^ k) where
  and_upper : bit_and h (2 ^ k + g) ≡ bit_and h g
  and_upper = grind (arith, one-mul (2 ^ k), zero-mul (2 ^ k), and_zero_l 1, and_block k 0 1 h g below-h below-g)

  and_both : bit_and (2 ^ k + h) (2 ^ k + g) ≡ 2 ^ k + bit_and h g
  and_both = grind (arith, one-mul (2 ^ k), and_block k 1 1 h g below-h below-g)

  xor_upper : size (bit_xor h (2 ^ k + g)) ≡ suc (size (bit_xor h g))
  xor_upper =
      let apart : bit_xor h (2 ^ k + g) ≡ 1 * 2 ^ k + bit_xor h g = grind (arith, one-mul (2 ^ k), zero-mul (2 ^ k), xor_block k 0 1 h g below-h below-g) in
      ap ones apart ∙ omega (arith, ones_cat k 1 (bit_xor h g) (xor_lt k h g below-h below-g), ones-ones 1)

  xor_both : bit_xor (2 ^ k + h) (2 ^ k + g) ≡ bit_xor h g
  xor_both = grind (arith, one-mul (2 ^ k), xor_block k 1 1 h g below-h below-g)

  inside_upper : inside h (2 ^ k + g) ≡ inside h g
  inside_upper = ap (λ a. eqb a h) and_upper

  inside_both : inside (2 ^ k + h) (2 ^ k + g) ≡ inside h g
  inside_both = grind (arith, nat_tests, and_both)

  not_inside : inside (2 ^ k + h) g ≡ false
  not_inside = grind (arith, nat_tests, and_le_r (2 ^ k + h) g)

-- ---- One entry

-- what the entry at h adds to the entry at g
part : Operation → (ℕ → ℤ) → ℕ → ℕ → ℤ
part o f g h = cond (inside h g) (turned o (size (bit_xor h g)) (f h)) (pos 0)

-- the entry at g of the conversion of the entries below n
pub entry : Operation → ℕ → (ℕ → ℤ) → ℕ → ℤ
entry o n f g = total n (part o f g)

pub entry_is : (o : Operation) (n : ℕ) (f : ℕ → ℤ) (g : ℕ)
    → entry o n f g ≡ total n (λ h. cond (inside h g) (turned o (size (bit_xor h g)) (f h)) (pos 0))
unfolding entry part
entry_is o n f g = refl

-- the operation on nothing and something, on nothing, and after another
zero_applied : (o p : Operation) (a b : ℤ) → applied o (pos 0) (applied p a b) ≡ applied p (applied o (pos 0) a) (applied o (pos 0) b)
zero_applied plus plus a b = omega (arith, ints)
zero_applied plus minus a b = omega (arith, ints)
zero_applied minus plus a b = omega (arith, ints)
zero_applied minus minus a b = omega (arith, ints)

nothing_applied : (o : Operation) → applied o (pos 0) (pos 0) ≡ pos 0
nothing_applied plus = omega (arith, ints)
nothing_applied minus = omega (arith, ints)

added_applied : (o : Operation) (a b : ℤ) → applied o (pos 0) a +ℤ b ≡ applied o b a
added_applied plus a b = omega (arith, ints)
added_applied minus a b = omega (arith, ints)

turned_applied : (o p : Operation) (n : ℕ) (a b : ℤ) → turned o n (applied p a b) ≡ applied p (turned o n a) (turned o n b)
turned_applied o p zero a b = refl
turned_applied o p (suc n) a b = ap (applied o (pos 0)) (turned_applied o p n a b) ∙ zero_applied o p (turned o n a) (turned o n b)

cond_applied : (o : Operation) (t : Bool) (a b : ℤ) → cond t (applied o a b) (pos 0) ≡ applied o (cond t a (pos 0)) (cond t b (pos 0))
cond_applied o true a b = refl
cond_applied o false a b = sym (nothing_applied o)

cond_zero_applied : (o : Operation) (t : Bool) (a : ℤ) → cond t (applied o (pos 0) a) (pos 0) ≡ applied o (pos 0) (cond t a (pos 0))
cond_zero_applied o true a = refl
cond_zero_applied o false a = sym (nothing_applied o)

-- the parts of the entry at g, of the lower half and of the upper half, with and without one more spot
module _ (o : Operation) (f : ℕ → ℤ) (k h g : ℕ) (below-h : h < 2 ^ k) (below-g : g < 2 ^ k) where
  part_upper : part o f (2 ^ k + g) h ≡ applied o (pos 0) (part o f g h)
  unfolding part
  part_upper =
      ap₂ (λ t n. cond t (turned o n (f h)) (pos 0)) (inside_upper k h g below-h below-g) (xor_upper k h g below-h below-g)
      ∙ cond_zero_applied o (inside h g) (turned o (size (bit_xor h g)) (f h))

  part_both : part o f (2 ^ k + g) (2 ^ k + h) ≡ part o (λ j. f (2 ^ k + j)) g h
  unfolding part
  part_both =
      ap₂ (λ t n. cond t (turned o (size n) (f (2 ^ k + h))) (pos 0)) (inside_both k h g below-h below-g) (xor_both k h g below-h below-g)

  part_none : part o f g (2 ^ k + h) ≡ pos 0
  unfolding part
  part_none = ap (λ t. cond t (turned o (size (bit_xor (2 ^ k + h) g)) (f (2 ^ k + h))) (pos 0)) (not_inside k h g below-h below-g)

module _ (o : Operation) (f : ℕ → ℤ) (k g : ℕ) (below : g < 2 ^ k) where
  -- an entry of the lower half does not look at the upper half
  pub entry_lower : entry o (2 ^ k + 2 ^ k) f g ≡ entry o (2 ^ k) f g
  unfolding entry
  entry_lower =
      total_append (2 ^ k) (2 ^ k) (part o f g)
      ∙ ap (λ z. total (2 ^ k) (part o f g) +ℤ z) (total_none (2 ^ k) (λ h. part o f g (2 ^ k + h)) (λ h l. part_none o f k h g l below))
      ∙ +ℤ_idr (total (2 ^ k) (part o f g))

  -- an entry of the upper half is that of the upper half alone joined with that of the lower half at the same place
  pub entry_upper : entry o (2 ^ k + 2 ^ k) f (2 ^ k + g) ≡ applied o (entry o (2 ^ k) (λ h. f (2 ^ k + h)) g) (entry o (2 ^ k) f g)
  unfolding entry
  entry_upper =
      total_append (2 ^ k) (2 ^ k) (part o f (2 ^ k + g))
      ∙ ap₂ ◌+ℤ◌
      (total_same (2 ^ k) (part o f (2 ^ k + g)) (λ h. applied o (pos 0) (part o f g h)) (λ h l. part_upper o f k h g l below))
      (total_same (2 ^ k) (λ h. part o f (2 ^ k + g) (2 ^ k + h)) (part o (λ j. f (2 ^ k + j)) g) (λ h l. part_both o f k h g l below))
      ∙ ap (λ z. z +ℤ total (2 ^ k) (part o (λ j. f (2 ^ k + j)) g)) (total_zero_applied o (2 ^ k) (part o f g))
      ∙ added_applied o (total (2 ^ k) (part o f g)) (total (2 ^ k) (part o (λ j. f (2 ^ k + j)) g))

-- a table of one entry stays
pub entry_single : (o : Operation) (f : ℕ → ℤ) → entry o 1 f 0 ≡ f 0
unfolding entry part
entry_single o f = ap (λ n. pos 0 +ℤ turned o n (f 0)) (ones-ones 0) ∙ +ℤ_idl (f 0)

-- an entry looks at the entries below n alone
pub entry_same : (o : Operation) (n : ℕ) (f f' : ℕ → ℤ) (g : ℕ) → ((h : ℕ) → h < n → f h ≡ f' h) → entry o n f g ≡ entry o n f' g
unfolding entry part
entry_same o n f f' g e =
    total_same n (part o f g) (part o f' g) (λ h l. ap (λ z. cond (inside h g) (turned o (size (bit_xor h g)) z) (pos 0)) (e h l))

-- the conversion is linear
pub entry_applied : (o p : Operation) (n : ℕ) (a b : ℕ → ℤ) (g : ℕ)
    → entry o n (λ h. applied p (a h) (b h)) g ≡ applied p (entry o n a g) (entry o n b g)
unfolding entry part
entry_applied o p n a b g =
    total_same n (part o (λ h. applied p (a h) (b h)) g) (λ h. applied p (part o a g h) (part o b g h))
    (λ h l. ap (λ z. cond (inside h g) z (pos 0)) (turned_applied o p (size (bit_xor h g)) (a h) (b h)) ∙ cond_applied p (inside h g) (turned o (size (bit_xor h g)) (a h)) (turned o (size (bit_xor h g)) (b h)))
    ∙ total_applied p n (part o a g) (part o b g)

-- ---- Size

turned_size : (o : Operation) (n : ℕ) (z : ℤ) → nat_abs (turned o n z) ≡ nat_abs z
turned_size o zero z = refl
turned_size plus (suc n) z = omega (arith, ints, turned_size plus n z)
turned_size minus (suc n) z = omega (arith, ints, turned_size minus n z)

pub part_near : (t : Bool) (m : ℕ) (z : ℤ) → nat_abs z ≤ m → nat_abs (cond t z (pos 0)) ≤ m
part_near true m z l = l
part_near false m z l = omega arith

pub entry_near : (o : Operation) (n m : ℕ) (f : ℕ → ℤ) (g : ℕ) → ((h : ℕ) → h < n → nat_abs (f h) ≤ m) → nat_abs (entry o n f g) ≤ n * m
unfolding entry part
entry_near o n m f g e =
    total_near n m (part o f g) (λ h l. part_near (inside h g) m (turned o (size (bit_xor h g)) (f h)) (rw (turned_size o (size (bit_xor h g)) (f h)) (e h l)))

-- ---- The inverse

abbrev pub opposite : Operation → Operation
opposite plus = minus
opposite minus = plus

undone : (o : Operation) (a b : ℤ) → applied (opposite o) (applied o a b) b ≡ a
undone plus a b = omega (arith, ints)
undone minus a b = omega (arith, ints)

double : (k : ℕ) → 2 ^ suc k ≡ 2 ^ k + 2 ^ k
double k = omega (arith, pow-suc 2 k)

-- converting back restores each of n entries
abbrev pub Restored : Operation → ℕ → Type 0
Restored o n = (f : ℕ → ℤ) (g : ℕ) → g < n → entry (opposite o) n (entry o n f) g ≡ f g

-- if it does for tables over k spots, then for tables of twice the length: the lower half is converted as a table of its own, and the join
-- of the upper half is undone
module _ (o : Operation) (k : ℕ) (restored : Restored o (2 ^ k)) (f : ℕ → ℤ) where
  whole : ℕ → ℤ
  whole = entry o (2 ^ k + 2 ^ k) f

  lower_half : (g : ℕ) → g < 2 ^ k → entry (opposite o) (2 ^ k) whole g ≡ f g
  unfolding whole
  lower_half g l = entry_same (opposite o) (2 ^ k) whole (entry o (2 ^ k) f) g (λ h m. entry_lower o f k h m) ∙ restored f g l

  upper_half : (g : ℕ) → g < 2 ^ k → entry (opposite o) (2 ^ k) (λ h. whole (2 ^ k + h)) g ≡ applied o (f (2 ^ k + g)) (f g)
  unfolding whole
  upper_half g l =
      let above : ℕ → ℤ = λ h. f (2 ^ k + h) in
      entry_same (opposite o) (2 ^ k) (λ h. whole (2 ^ k + h)) (λ h. applied o (entry o (2 ^ k) above h) (entry o (2 ^ k) f h)) g
      (λ h m. entry_upper o f k h m)
      ∙ entry_applied (opposite o) o (2 ^ k) (entry o (2 ^ k) above) (entry o (2 ^ k) f) g
      ∙ ap₂ (applied o) (restored above g l) (restored f g l)

  back_lower : (g : ℕ) → g < 2 ^ k → entry (opposite o) (2 ^ k + 2 ^ k) whole g ≡ f g
  back_lower g l = entry_lower (opposite o) whole k g l ∙ lower_half g l

  back_upper : (g : ℕ) → g < 2 ^ k → entry (opposite o) (2 ^ k + 2 ^ k) whole (2 ^ k + g) ≡ f (2 ^ k + g)
  back_upper g l =
      entry_upper (opposite o) whole k g l
      ∙ ap₂ (applied (opposite o)) (upper_half g l) (lower_half g l)
      ∙ undone o (f (2 ^ k + g)) (f g)

  back_again : (g : ℕ) → g < 2 ^ k + 2 ^ k → entry (opposite o) (2 ^ k + 2 ^ k) whole g ≡ f g
  back_again = in_halves (λ g. entry (opposite o) (2 ^ k + 2 ^ k) whole g ≡ f g) (2 ^ k) back_lower back_upper

pub entry_back : (o : Operation) (k : ℕ) → Restored o (2 ^ k)
unfolding whole
entry_back o zero f zero l = entry_single (opposite o) (entry o 1 f) ∙ entry_single o f
entry_back o zero f (suc g) l = absurd (omega arith)
entry_back o (suc k) f g l = subst (Restored o) (sym (double k)) (back_again o k (entry_back o k)) f g l
