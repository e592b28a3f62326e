use Rattle.std.proofs.Common.{true, false, refl}
use Rattle.sheet.specs.Ledger.{Locks}
use Rattle.sheet.specs.Of.{ledger}
use Rattle.sheet.proofs.Histories.{sound_after}
use Rattle.sheet.proofs.calls.Draft.lock.Goals as goal

pub invariant_of-result : goal.invariant_of-result
invariant_of-result c =
    let s = c.args.self in
    sound_after (ledger s.book false) (ledger s.book true) Locks s.told s.kept refl
