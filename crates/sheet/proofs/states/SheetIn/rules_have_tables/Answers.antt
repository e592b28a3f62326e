use Rattle.sheet.specs.History.{ledger_in}
use Rattle.sheet.proofs.Histories.{kept_of}
use Rattle.sheet.proofs.RuleTables.{rules_have_tables}
use Rattle.sheet.proofs.states.SheetIn.rules_have_tables.Goals as goal

pub returns : goal.returns
returns g c =
    let s = c.args.self.now in
    rules_have_tables (ledger_in s) (kept_of (ledger_in s) s.kept)
