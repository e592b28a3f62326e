use Rattle.std.proofs.Common.{None}
use Rattle.sheet.proofs.Rules.{get_or_all}
use Rattle.sheet.proofs.cards.Card.new.Goals as goal

pub returns : goal.returns
returns c = λ i spot. get_or_all 32 None spot i
