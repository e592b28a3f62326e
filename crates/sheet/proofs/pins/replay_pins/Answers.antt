use Rattle.std.proofs.Common.{map, sym, refl, ap, ◌∙◌, rules}
use Rattle.sheet.specs.Cards.{no_pins, pins_of, pin_call, pin_step, pin_answer}
use Rattle.sheet.specs.History.{noted}
use Rattle.sheet.proofs.Replayed.{replay_tells, same_all, answers_alone}
use Rattle.sheet.proofs.pins.replay_pins.Goals as goal

pub returns : goal.returns
returns c =
    let pinned = replay_tells (λ s. pins_of s.now) pin_call pin_step (λ _. pin_answer) (λ s b t a made. search rules) c.new-card.ensures c.replay_with.ensures in
    let lent = replay_tells (λ s. s.ghost_name) pin_call (λ n _. n) (λ _. pin_answer) (λ s b t a made. search rules) refl c.replay_with.ensures in
    let same = sym (lent.0 ∙ same_all _ (map pin_call c.args.history.now)) in
    let end = pinned.0 in
    record {
      after = search (rules, same, end);
      answers = pinned.1 ∙ ap (noted c.args.answers.now) (answers_alone pin_step pin_answer no_pins (map pin_call c.args.history.now));
    }
