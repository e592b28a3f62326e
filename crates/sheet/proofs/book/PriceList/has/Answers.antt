use Rattle.std.proofs.Common.{is_some, ap, ◌∙◌}
use Rattle.sheet.specs.Ledger.{is_for}
use Rattle.sheet.proofs.PriceLists.{is_some_position}
use Rattle.sheet.proofs.book.PriceList.has.Goals as goal

pub returns : goal.returns
returns c = c.is_some.ensures ∙ ap is_some c.find.ensures ∙ is_some_position (is_for c.args.group) c.args.self.now
