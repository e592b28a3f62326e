use Rattle.terms.proofs.Says.{any_says}
use Rattle.terms.proofs.laws.any_says_so.Goals as goal

pub returns : goal.returns
returns g c = any_says
