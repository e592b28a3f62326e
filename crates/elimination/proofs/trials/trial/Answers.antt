use Rattle.std.proofs.Common.{◌<◌, false, cond, length, is_ok, Some, Ok, Err, sym, ap, ◌∙◌, rules, arith}
use Rattle.std.proofs.lemmas.Bool.{false≢true}
use Rattle.sheet.specs.declared.cards.Pin.TheVariants.{In}
use Rattle.sheet.specs.Cards.{pins_of, pinned_so}
use Rattle.sheet.specs.History.{locked_ledger}
use Rattle.elimination.specs.Lawful.{spot_count}
use Rattle.elimination.specs.Plans.{plan_links}
use Rattle.elimination.specs.Of.{question_of}
use Rattle.elimination.proofs.Order.{trial_uppermost}
use Rattle.elimination.proofs.Solved.{kept_contents, yes_says}
use Rattle.elimination.proofs.Tried.{from_solve, never_no, never_refused, spot_answered_ok, trial_answered, trial_filled, trial_left}
use Rattle.elimination.proofs.trials.trial.Goals as goal

pub returns-then-spot-houses-clause-yes : goal.returns-then-spot-houses-clause-yes
returns-then-spot-houses-clause-yes c = yes_says (question_of c.args.sheet.now c.args.card.now) c.args.spot

-- a declared spot can be pinned
pub returns-in_err-hold : goal.returns-in_err-hold
returns-in_err-hold c =
    let l : c.args.spot < spot_count (locked_ledger c.args.sheet.now).contents = omega (arith, ap length c.houses.ensures) in
    let fits = spot_answered_ok c.args.spot (omega (arith, l, (kept_contents c.args.sheet.now).0.0)) in
    absurd (false≢true (sym (ap is_ok (sym fits ∙ sym c.hold.ensures.answer ∙ c.in_err-hold.was))))

pub returns-in_default : goal.returns-in_default
returns-in_default c =
    let l : c.args.spot < spot_count (locked_ledger c.args.sheet.now).contents = omega (arith, ap length c.houses.ensures) in
    let pinned = c.hold.ensures.now ∙ ap (λ card. pinned_so (pins_of card) c.args.spot (Some In)) c.new-held.ensures.now in
    let held = c.hold.new.self.card.now in
    record {
      answer = ap from_solve (sym c.in_default.is ∙ c.solve.ensures.answer)
          ∙ sym (trial_answered c.args.sheet.now c.args.card.now held c.args.spot l pinned (length c.args.table.now));
      table = c.solve.ensures.table ∙ trial_filled c.args.sheet.now c.args.card.now held c.args.spot l pinned c.args.table.now;
      left = λ _. trial_left c.args.sheet.now c.args.card.now held c.args.spot l pinned (plan_links c.solve.new.plan) c.solve.new.table
          (c.solve.ensures.left c.in_default.is);
      same_card = search rules;
      uppermost = trial_uppermost (question_of c.args.sheet.now c.args.card.now) c.args.spot (length c.args.table.now);
      yes = yes_says (question_of c.args.sheet.now c.args.card.now) c.args.spot;
    }

pub returns-then-eq : goal.returns-then-eq
returns-then-eq c =
    let l : c.args.spot < spot_count (locked_ledger c.args.sheet.now).contents = omega (arith, ap length c.houses.ensures) in
    let pinned = c.hold.ensures.now ∙ ap (λ card. pinned_so (pins_of card) c.args.spot (Some In)) c.new-held.ensures.now in
    let held = c.hold.new.self.card.now in
    record {
      answer = ap (λ b. cond b (Ok false) (Err c.in-Err.refusal)) (sym c.if-eq.true ∙ c.eq.ensures) ∙ ap from_solve (sym c.in-Err.is ∙ c.solve.ensures.answer)
          ∙ sym (trial_answered c.args.sheet.now c.args.card.now held c.args.spot l pinned (length c.args.table.now));
      table = c.solve.ensures.table ∙ trial_filled c.args.sheet.now c.args.card.now held c.args.spot l pinned c.args.table.now;
      left = λ h. absurd (never_no h);
      same_card = search rules;
      uppermost = trial_uppermost (question_of c.args.sheet.now c.args.card.now) c.args.spot (length c.args.table.now);
      yes = yes_says (question_of c.args.sheet.now c.args.card.now) c.args.spot;
    }

pub returns : goal.returns
returns c =
    let l : c.args.spot < spot_count (locked_ledger c.args.sheet.now).contents = omega (arith, ap length c.houses.ensures) in
    let pinned = c.hold.ensures.now ∙ ap (λ card. pinned_so (pins_of card) c.args.spot (Some In)) c.new-held.ensures.now in
    let held = c.hold.new.self.card.now in
    record {
      answer = ap (λ b. cond b (Ok false) (Err c.in-Err.refusal)) (sym c.if-eq.false ∙ c.eq.ensures) ∙ ap from_solve (sym c.in-Err.is ∙ c.solve.ensures.answer)
          ∙ sym (trial_answered c.args.sheet.now c.args.card.now held c.args.spot l pinned (length c.args.table.now));
      table = c.solve.ensures.table ∙ trial_filled c.args.sheet.now c.args.card.now held c.args.spot l pinned c.args.table.now;
      left = λ h. absurd (never_refused c.in-Err.refusal h);
      same_card = search rules;
      uppermost = trial_uppermost (question_of c.args.sheet.now c.args.card.now) c.args.spot (length c.args.table.now);
      yes = yes_says (question_of c.args.sheet.now c.args.card.now) c.args.spot;
    }
