use Rattle.elimination.proofs.LinkSteps.{none_behind}
use Rattle.elimination.proofs.plans.Plan.new.Goals as goal

pub invariant_of-result-clause-rest : goal.invariant_of-result-clause-rest
invariant_of-result-clause-rest c = none_behind 32 0
