use Rattle.std.proofs.Common.{rules}
use Rattle.sheet.specs.Ledger.{step}
use Rattle.sheet.specs.History.{sheet_ledger, call, answer_to}
use Rattle.sheet.proofs.Order.{uppermost_refuses}
use Rattle.sheet.proofs.Replayed.{replay_tells}
use Rattle.sheet.proofs.replays.replay.Goals as goal

pub returns : goal.returns
returns c =
    let end = replay_tells sheet_ledger call step answer_to (λ s b t a made. search rules) c.new.ensures c.replay_with.ensures in
    record { after = end.0; answers = end.1; uppermost = uppermost_refuses }
