use Rattle.std.proofs.Common.{length}
use Rattle.tables.proofs.conversion.+convert.Given as goal

abbrev pub decreases-convert : goal.decreases-convert
decreases-convert g l = length l.table.now
