use Rattle.theorems.proofs.Penalties.{penalties_say, slack_says, whole_says}
use Rattle.theorems.proofs.Scopes.{links_say}
use Rattle.theorems.proofs.Splits.{splits_say}
use Rattle.theorems.proofs.Steps.{steps_say}
use Rattle.theorems.proofs.Stages.{stages_say, last_says}
use Rattle.theorems.proofs.Bytes.{bytes_say}
use Rattle.theorems.proofs.CodeTells.{codes_say, general_says}
use Rattle.theorems.proofs.Linear.{linear_says}
use Rattle.theorems.proofs.OneEquality.{equality_says}
use Rattle.theorems.proofs.laws.elimination_says_so.Goals as goal

pub returns : goal.returns
returns c = record {
  penalties = penalties_say;
  slack = slack_says;
  whole = whole_says;
  links = links_say;
  splits = splits_say;
  steps = steps_say;
  stages = stages_say;
  last = last_says;
  bytes = bytes_say;
  codes = codes_say;
  general = general_says;
  linear = linear_says;
  equality = equality_says;
}
