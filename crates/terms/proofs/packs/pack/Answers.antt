use Rattle.std.proofs.Common.{◌≡◌, ◌+◌, ◌-◌, ◌*◌, ◌/◌, ◌%◌, ◌^◌, ◌<◌, ap, ◌∙◌, mul_assoc, mul_comm, mul-add, arith, pow_mono}
use lib.Bits.{bit_and}
use lib.Count.{count_trailing_zeros, ones-le}
use Rattle.std.proofs.lemmas.Nat.{pow-add, and_le_l}
use Rattle.terms.specs.Packing.{packed}
use Rattle.terms.proofs.Packing.{packed_below, packed_none}
use Rattle.terms.proofs.Lowest.{size_without, digits_lowest, digit_shifted}
use Rattle.terms.proofs.packs.pack.Goals as goal

pub overflow_shl-index : goal.overflow_shl-index
overflow_shl-index c = omega (arith, c.loop-left.invariant.1, size_without c.loop-left.left (omega arith))

-- what is added in a turn, and what is left to add
turn : (c : goal.In-loop-left)
    → 2 ^ c.loop-left.place * packed c.loop-left.left c.args.group
    ≡ bit_and (c.args.group / 2 ^ count_trailing_zeros 32 c.loop-left.left) 1 * 2 ^ c.loop-left.place % 2 ^ 32
    + 2 ^ (c.loop-left.place + 1) * packed (bit_and c.loop-left.left (c.loop-left.left - 1)) c.args.group
turn c =
    let m = c.loop-left.left in
    let g = c.args.group in
    let p = c.loop-left.place in
    let digit = g / 2 ^ count_trailing_zeros 32 m in
    let rest = packed (bit_and m (m - 1)) g in
    let short : p < 32 = omega (arith, c.loop-left.invariant.1, size_without m (omega arith)) in
    ap (λ x. 2 ^ p * x) (digits_lowest 32 m g (omega arith) (omega arith))
    ∙ mul-add (2 ^ p) (digit % 2) (2 * rest)
    ∙ omega (arith, digit_shifted digit p short, mul_comm (2 ^ p) (digit % 2), mul_assoc (2 ^ p) 2 rest, ap (λ x. x * rest) (pow-add 2 p 1))

pub overflow_add-index : goal.overflow_add-index
overflow_add-index c =
    let mask = c.args.mask in
    let small = ones-le 32 mask (omega arith) in
    omega (arith, turn c, c.loop-left.invariant.0, packed_below mask c.args.group (omega arith), pow_mono small)

pub loop-left-preserved : goal.loop-left-preserved
loop-left-preserved c =
    let m = c.loop-left.left in
    (omega (arith, turn c, c.loop-left.invariant.0), omega (arith, size_without m (omega arith)), omega (arith, and_le_l m (m - 1)))

pub returns : goal.returns
returns c =
    let g = c.args.group in
    let nothing = ap (λ m. packed m g) c.loop-left-test.false ∙ packed_none g in
    omega (arith, ap (λ x. 2 ^ c.loop-left.place * x) nothing)
