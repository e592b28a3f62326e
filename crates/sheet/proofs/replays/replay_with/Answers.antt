use Rattle.std.proofs.Common.{sym, ◌∙◌}
use Rattle.std.proofs.lemmas.List.{set_past}
use Rattle.sheet.proofs.Replayed.{replays_none, replays_more, replays_all}
use Rattle.sheet.proofs.replays.replay_with.Goals.{then-i-answers, else-i-answers}
use Rattle.sheet.proofs.replays.replay_with.Goals as goal

pub loop-i-init : goal.loop-i-init
loop-i-init g c = replays_none _ _ c.args.history.now _

pub loop-i-preserved : goal.loop-i-preserved
loop-i-preserved g c =
    elim c.if-i-answers.branch [
      | then-i-answers w ↦
          replays_more _ _ _ _ _ _ _ _ _ _ _ _ c.loop-i.invariant c.loop-i-test.true c.index-history-i.is c.make-after.ensures w.state-is w.answers-is
      | else-i-answers w ↦
          replays_more _ _ _ _ _ _ _ _ _ _ _ _ c.loop-i.invariant c.loop-i-test.true c.index-history-i.is c.make-after.ensures w.state-is
          (w.answers-is ∙ sym (set_past c.loop-i.answers c.loop-i.i c.make-after.result.1 w.if-i-answers.false))
    ]

pub returns : goal.returns
returns g c = replays_all _ _ _ _ _ _ _ c.loop-i.invariant c.loop-i-test.false
