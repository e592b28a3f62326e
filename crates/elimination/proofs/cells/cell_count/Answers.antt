use Rattle.std.proofs.Common.{arith, ◌∙◌}
use Rattle.std.proofs.lemmas.Nat.{shl_whole, ones-le}
use Rattle.terms.specs.Groups.{size}
use Rattle.elimination.proofs.cells.cell_count.Goals as goal

-- the shift fits, since a link set has at most 32 spots
pub returns : goal.returns
returns c =
    let m = c.args.links in shl_whole 1 1 (size m) 64 (omega arith) (omega (arith, ones-le 32 m (omega arith))) ∙ omega arith
