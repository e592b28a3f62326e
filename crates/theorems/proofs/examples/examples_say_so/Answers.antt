use Rattle.theorems.proofs.Computed.{examples}
use Rattle.theorems.proofs.examples.examples_say_so.Goals as goal

pub returns : goal.returns
returns c = examples
