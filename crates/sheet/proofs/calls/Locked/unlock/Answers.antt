use Rattle.std.proofs.Common.{true, false, refl}
use Rattle.sheet.specs.Ledger.{Unlocks}
use Rattle.sheet.specs.Of.{ledger}
use Rattle.sheet.proofs.Histories.{sound_after}
use Rattle.sheet.proofs.calls.Locked.unlock.Goals as goal

pub invariant_of-result : goal.invariant_of-result
invariant_of-result c =
    let s = c.args.self in
    sound_after (ledger s.book true) (ledger s.book false) Unlocks s.told s.kept refl
