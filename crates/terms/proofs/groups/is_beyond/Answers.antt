use Rattle.std.proofs.Common.{◌^◌, ◌≤◌, arith, pow_mono}
use Rattle.std.proofs.lemmas.Bool.Decides.{nat_tests}
use Rattle.std.proofs.lemmas.Nat.{pow_pos, le-div, div_below}
use Rattle.terms.proofs.groups.is_beyond.Goals as goal

pub returns-then-spots-lt32 : goal.returns-then-spots-lt32
returns-then-spots-lt32 c =
    grind (arith, nat_tests, pow_pos c.args.spots, le-div 1 c.args.group (2 ^ c.args.spots), div_below c.args.group (2 ^ c.args.spots) 1)

pub returns-else-spots-lt32 : goal.returns-else-spots-lt32
returns-else-spots-lt32 c =
    let p : 2 ^ 32 ≤ 2 ^ c.args.spots = pow_mono c.if-spots-lt32.false in
    grind (arith, nat_tests)
