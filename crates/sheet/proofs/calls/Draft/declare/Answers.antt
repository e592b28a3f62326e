use Rattle.std.proofs.Common.{false}
use Rattle.sheet.specs.Ledger.{Declares}
use Rattle.sheet.specs.Of.{ledger}
use Rattle.sheet.proofs.Histories.{sound_after}
use Rattle.sheet.proofs.calls.Draft.declare.Goals as goal

pub invariant_of-self : goal.invariant_of-self
invariant_of-self c =
    let d = c.args.self.now in
    let call = Declares c.args.house in
    sound_after (ledger d.book false) (ledger c.declare.new.self false) call d.told d.kept c.declare.ensures.after
