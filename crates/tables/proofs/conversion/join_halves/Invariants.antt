use Rattle.tables.proofs.conversion.join_halves.Given as goal
use Rattle.tables.proofs.Joins.{Joining}

abbrev pub invariant-loop-i : goal.invariant-loop-i
invariant-loop-i g l = Joining g.J.Join.operation l.half l.i l.initial.table l.table
