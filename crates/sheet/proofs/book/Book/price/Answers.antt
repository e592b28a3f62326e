use Rattle.std.proofs.Common.{false}
use Rattle.sheet.specs.Ledger.{Prices}
use Rattle.sheet.specs.Of.{ledger}
use Rattle.sheet.proofs.Ledgers.{made_none}
use Rattle.sheet.proofs.book.Book.price.Goals as goal

pub returns-in_err-check_price-clause-after : goal.returns-in_err-check_price-clause-after
returns-in_err-check_price-clause-after c =
    made_none (ledger c.args.self.now false) (Prices c.args.price.amount c.args.price.group) _ c.in_err-check_price.ensures
