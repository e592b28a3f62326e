use Rattle.std.proofs.Common.{arith}
use Rattle.std.proofs.lemmas.Int.{ints}
use Rattle.std.proofs.lemmas.List.{at_drop_more}
use Rattle.terms.specs.Terms.{worth, no_term}
use Rattle.terms.proofs.worths.worth.Goals as goal

pub loop-term-preserved : goal.loop-term-preserved
loop-term-preserved c =
    let turn = at_drop_more (λ ts. worth ts c.args.line_up) c.args.terms.now c.loop-term.term-index no_term (omega arith) in (
      omega (arith, ints, turn, c.loop-term.invariant, c.worth-sum.ensures.value, c.worth-sum.ensures.small),
      omega (arith, ints, c.loop-term.invariant, c.worth-sum.ensures.small),
    )
