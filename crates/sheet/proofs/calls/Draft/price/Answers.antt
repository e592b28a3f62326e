use Rattle.std.proofs.Common.{false, w32, to_z, of_z}
use Rattle.sheet.specs.Ledger.{Prices}
use Rattle.sheet.specs.Of.{ledger}
use Rattle.sheet.proofs.Histories.{sound_after}
use Rattle.sheet.proofs.calls.Draft.price.Goals as goal

pub invariant_of-self : goal.invariant_of-self
invariant_of-self c =
    let d = c.args.self.now in
    let call = Prices (to_z w32 (of_z w32 c.args.amount)) c.args.group in
    sound_after (ledger d.book false) (ledger c.price.new.self false) call d.told d.kept c.price.ensures.after
