use Rattle.std.proofs.Common.{false}
use Rattle.sheet.specs.Of.{ledger}
use Rattle.sheet.proofs.Histories.{sound_new}
use Rattle.sheet.proofs.calls.Draft.new.Goals as goal

pub invariant_of-result : goal.invariant_of-result
invariant_of-result c = sound_new (ledger c.new.result false) c.new.ensures
