use Rattle.tables.proofs.Joins.{joining_all}
use Rattle.tables.proofs.conversion.join_halves.Goals as goal

pub returns : goal.returns
returns g c =
    joining_all g.J.Join.operation c.args.half c.loop-i.i c.args.table.now c.loop-i.table c.loop-i-test.false c.loop-i.invariant
