use Rattle.std.proofs.Common.{refl, rules}
use Rattle.std.proofs.lemmas.Slice.{overwrites}
use Rattle.sheet_file.specs.WritingSteps.{over}
use Rattle.sheet_file.proofs.writing.put.Goals as goal

pub returns : goal.returns
unfolding over
returns c = record { space = search (rules, overwrites); behind = refl }
