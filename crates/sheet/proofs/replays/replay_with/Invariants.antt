use Rattle.std.proofs.Common.{◌≡◌, length, take}
use Rattle.sheet.specs.History.{Replays}
use Rattle.sheet.proofs.replays.replay_with.Given as goal

abbrev pub invariant-loop-i : goal.invariant-loop-i
invariant-loop-i g l =
    (so_far : Replays (λ s c t a. goal.F-post g l.make s c (t, a)) l.fn.start (take l.i l.history) l.state l.initial.answers l.answers)
    × (length so_far.given ≡ l.i)
