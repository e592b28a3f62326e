use Rattle.std.proofs.Common.{◌≡◌, ◌+◌, ◌-◌, ◌*◌, ◌/◌, ◌%◌, ◌^◌, ◌<◌, ap, arith}
use borrow.Author.Numbers.{trailing_lt}
use lib.Bits.{bit_and}
use lib.Count.{count_trailing_zeros}
use Rattle.std.proofs.lemmas.Nat.{and_le_l}
use Rattle.terms.specs.Packing.{unpacked}
use Rattle.terms.proofs.Packing.{unpacked_below, unpacked_none}
use Rattle.terms.proofs.Lowest.{onto_lowest, digit_shifted}
use Rattle.terms.proofs.packs.unpack.Goals as goal

-- what is added in a turn, and what is left to add
turn : (c : goal.In-loop-left)
    → unpacked c.loop-left.left c.loop-left.digits
    ≡ bit_and c.loop-left.digits 1 * 2 ^ count_trailing_zeros 32 c.loop-left.left % 2 ^ 32
    + unpacked (bit_and c.loop-left.left (c.loop-left.left - 1)) (c.loop-left.digits / 2)
turn c =
    let m = c.loop-left.left in
    let d = c.loop-left.digits in
    let some : 0 < m = omega arith in
    let small : m < 2 ^ 32 = omega arith in
    omega (arith, onto_lowest 32 m d some small, digit_shifted d (count_trailing_zeros 32 m) (trailing_lt 32 m some small))

pub overflow_add-group : goal.overflow_add-group
overflow_add-group c = omega (arith, turn c, unpacked_below c.args.mask c.args.index)

pub loop-left-preserved : goal.loop-left-preserved
loop-left-preserved c = (omega (arith, turn c), omega (arith, and_le_l c.loop-left.left (c.loop-left.left - 1)))

pub returns : goal.returns
returns c = omega (arith, ap (λ m. unpacked m c.loop-left.digits) c.loop-left-test.false, unpacked_none c.loop-left.digits)
