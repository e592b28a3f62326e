use Rattle.std.proofs.Common.{false}
use Rattle.sheet.specs.Ledger.{Withdraws}
use Rattle.sheet.specs.Of.{ledger}
use Rattle.sheet.proofs.Histories.{sound_after}
use Rattle.sheet.proofs.calls.Draft.withdraw.Goals as goal

pub invariant_of-self : goal.invariant_of-self
invariant_of-self c =
    let d = c.args.self.now in
    let call = Withdraws c.args.number in
    sound_after (ledger d.book false) (ledger c.withdraw.new.self false) call d.told d.kept c.withdraw.ensures.after
