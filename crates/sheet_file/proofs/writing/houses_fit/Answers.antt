use Rattle.std.proofs.Common.{arith}
use Rattle.sheet_file.proofs.writing.houses_fit.Goals as goal

pub returns : goal.returns
returns c = λ k h. omega (arith, c.type_inv.houses k)
