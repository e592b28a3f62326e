use Rattle.std.proofs.Common.{◌≡◌, Some, length, min, refl, sym, ap, ap₂, ◌∙◌, subst, arith}
use Rattle.elimination.specs.Lawful.{question}
use Rattle.elimination.specs.Verdicts.{NoLineUpSays}
use Rattle.elimination.specs.Accepted.{LeftBySolve}
use Rattle.elimination.specs.Plans.{plan_links}
use Rattle.elimination.specs.Answers.{solved_table}
use Rattle.elimination.specs.Of.{question_of}
use Rattle.figures.specs.Operations.{operations}
use Rattle.solutions.specs.Answers.{instance_answer}
use Rattle.rating.specs.Answers.{rated_figures}
use Rattle.rating.specs.Figures.{choice_over_lawful, sheet_figure}
use Rattle.rating.specs.Best.{best_line_up, IsBest}
use Rattle.lineup.specs.Promise.{told, after_solve, InstanceLawful}
use Rattle.lineup.proofs.Promised.{none_exactly, decided, accepts, refuses, solved_codes, thrice_filled, figures_again, every_instance, gives_itself}
use Rattle.lineup.proofs.histories.replay_and_ask.Goals as goal

pub returns-clause-none : goal.returns-clause-none
returns-clause-none g c fits =
    let asked = question_of c.locked_after-sheet.result c.replay_pins-card.result in
    let q = told c.args.histories in
    let same : asked ≡ q = ap₂ (λ l p. question l.contents p) c.locked_after-sheet.ensures.ledger c.replay_pins-card.ensures.after in
    none_exactly q (subst NoLineUpSays same c.solve-solved.ensures.no_line_up) c.solve-solved.result
    (decided (λ _. tt) c.solve-solved.result asked q same (length c.args.choices.now) c.solve-solved.ensures.answer
    fits.declared fits.narrow fits.enough_choices)

pub returns-clause-codes : goal.returns-clause-codes
returns-clause-codes g c fits possible =
    let asked = question_of c.locked_after-sheet.result c.replay_pins-card.result in
    let q = told c.args.histories in
    let same : asked ≡ q = ap₂ (λ l p. question l.contents p) c.locked_after-sheet.ensures.ledger c.replay_pins-card.ensures.after in
    let filled : c.best-best.new.choices ≡ solved_table asked c.args.choices.now =
    thrice_filled asked _ _ _ c.args.choices.now c.solve-solved.new.table c.rate-rated.new.choices c.rate-ranked_rate.new.choices
    c.best-best.new.choices c.solve-solved.ensures.table c.rate-rated.ensures.choices c.rate-ranked_rate.ensures.choices c.best-best.ensures.choices in (
      accepts (λ _. tt) c.solve-solved.result asked q same (length c.args.choices.now) c.solve-solved.ensures.answer
          fits.declared fits.narrow fits.enough_choices possible,
      filled ∙ ap (λ r. solved_table r c.args.choices.now) same ∙ solved_codes q c.args.choices.now fits.declared fits.narrow fits.enough_choices,
    )

pub returns-clause-choices : goal.returns-clause-choices
returns-clause-choices g c =
    let asked = question_of c.locked_after-sheet.result c.replay_pins-card.result in
    let q = told c.args.histories in
    let same : asked ≡ q = ap₂ (λ l p. question l.contents p) c.locked_after-sheet.ensures.ledger c.replay_pins-card.ensures.after in
    let filled : c.best-best.new.choices ≡ solved_table asked c.args.choices.now =
    thrice_filled asked _ _ _ c.args.choices.now c.solve-solved.new.table c.rate-rated.new.choices c.rate-ranked_rate.new.choices
    c.best-best.new.choices c.solve-solved.ensures.table c.rate-rated.ensures.choices c.rate-ranked_rate.ensures.choices c.best-best.ensures.choices in
    filled ∙ ap (λ r. solved_table r c.args.choices.now) same

pub returns-clause-instance : goal.returns-clause-instance
returns-clause-instance g c =
    let asked = question_of c.locked_after-sheet.result c.replay_pins-card.result in
    let q = told c.args.histories in
    let same : asked ≡ q = ap₂ (λ l p. question l.contents p) c.locked_after-sheet.ensures.ledger c.replay_pins-card.ensures.after in
    let filled : c.best-best.new.choices ≡ solved_table asked c.args.choices.now =
    thrice_filled asked _ _ _ c.args.choices.now c.solve-solved.new.table c.rate-rated.new.choices c.rate-ranked_rate.new.choices
    c.best-best.new.choices c.solve-solved.ensures.table c.rate-rated.ensures.choices c.rate-ranked_rate.ensures.choices c.best-best.ensures.choices in
    let links = plan_links c.solve-solved.new.plan in
    c.instance_after-instance.ensures
    ∙ ap (λ table. after_solve c.solve-solved.result (instance_answer links table c.args.switches)) (c.solve-solved.ensures.table ∙ sym filled)

pub returns-clause-every_instance_lawful : goal.returns-clause-every_instance_lawful
returns-clause-every_instance_lawful g c fits =
    let asked = question_of c.locked_after-sheet.result c.replay_pins-card.result in
    let q = told c.args.histories in
    let same : asked ≡ q = ap₂ (λ l p. question l.contents p) c.locked_after-sheet.ensures.ledger c.replay_pins-card.ensures.after in
    let filled : c.best-best.new.choices ≡ solved_table asked c.args.choices.now =
    thrice_filled asked _ _ _ c.args.choices.now c.solve-solved.new.table c.rate-rated.new.choices c.rate-ranked_rate.new.choices
    c.best-best.new.choices c.solve-solved.ensures.table c.rate-rated.ensures.choices c.rate-ranked_rate.ensures.choices c.best-best.ensures.choices in
    let links = plan_links c.solve-solved.new.plan in
    subst (λ table. InstanceLawful q table c.args.switches c.instance_after-instance.result) (c.solve-solved.ensures.table ∙ sym filled)
    (every_instance q links c.solve-solved.new.table c.args.switches c.solve-solved.result c.instance_after-instance.result
    (accepts (λ _. tt) c.solve-solved.result asked q same (length c.args.choices.now) c.solve-solved.ensures.answer
    fits.declared fits.narrow fits.enough_choices)
    (λ ok. subst (λ r. LeftBySolve r links c.solve-solved.new.table) same (c.solve-solved.ensures.left ok)) c.instance_after-instance.ensures)

pub returns-clause-each_gives_itself : goal.returns-clause-each_gives_itself
returns-clause-each_gives_itself g c fits =
    let asked = question_of c.locked_after-sheet.result c.replay_pins-card.result in
    let q = told c.args.histories in
    let same : asked ≡ q = ap₂ (λ l p. question l.contents p) c.locked_after-sheet.ensures.ledger c.replay_pins-card.ensures.after in
    let links = plan_links c.solve-solved.new.plan in
    gives_itself q links c.solve-solved.new.table c.args.switches c.solve-solved.result c.instance_after-instance.result
    (accepts (λ _. tt) c.solve-solved.result asked q same (length c.args.choices.now) c.solve-solved.ensures.answer
    fits.declared fits.narrow fits.enough_choices)
    (λ ok. subst (λ r. LeftBySolve r links c.solve-solved.new.table) same (c.solve-solved.ensures.left ok)) c.instance_after-instance.ensures

pub returns-clause-rate_over_all : goal.returns-clause-rate_over_all
returns-clause-rate_over_all g c fits possible =
    let asked = question_of c.locked_after-sheet.result c.replay_pins-card.result in
    let q = told c.args.histories in
    let same : asked ≡ q = ap₂ (λ l p. question l.contents p) c.locked_after-sheet.ensures.ledger c.replay_pins-card.ensures.after in
    let o = operations g.R.Rating c.args.rating.now in
    let f = sheet_figure o q in
    let is = accepts (sheet_figure (operations g.R.Rating c.args.rating.now)) c.rate-rated.result asked q same
    (min (length c.solve-solved.new.table) (length c.args.figures.now)) c.rate-rated.ensures.answer
    fits.declared fits.narrow (omega (arith, fits.enough_choices, fits.enough_figures, c.solve-solved.auto.table)) possible in
    (f, is, subst (λ r. choice_over_lawful o r ≡ Some f) same (c.rate-rated.ensures.choice f is))

pub returns-clause-best_of_all : goal.returns-clause-best_of_all
returns-clause-best_of_all g c fits possible =
    let asked = question_of c.locked_after-sheet.result c.replay_pins-card.result in
    let q = told c.args.histories in
    let same : asked ≡ q = ap₂ (λ l p. question l.contents p) c.locked_after-sheet.ensures.ledger c.replay_pins-card.ensures.after in
    let o = operations g.K.Rating c.args.ranked.now in
    let first = g.K.Ranked.first c.args.ranked.now in
    let f = sheet_figure o q in
    let x = best_line_up o first q in
    let rated = accepts (sheet_figure (operations g.K.Rating c.args.ranked.now)) c.rate-ranked_rate.result asked q same
    (min (length c.rate-rated.new.choices) (length c.args.ranked_figures.now)) c.rate-ranked_rate.ensures.answer
    fits.declared fits.narrow (omega (arith, fits.enough_choices, fits.enough_ranked, c.solve-solved.auto.table, c.rate-rated.auto.choices, c.rate-ranked_rate.auto.choices, c.rate-ranked_rate.auto.figures)) possible in
    let is = accepts (λ q. (sheet_figure o q, best_line_up o first q)) c.best-best.result asked q same
    (min (length c.rate-ranked_rate.new.choices) (length c.rate-ranked_rate.new.figures)) c.best-best.ensures.answer
    fits.declared fits.narrow (omega (arith, fits.enough_choices, fits.enough_ranked, c.solve-solved.auto.table, c.rate-rated.auto.choices, c.rate-ranked_rate.auto.choices, c.rate-ranked_rate.auto.figures)) possible in
    (f, x, rated, is, subst (λ r. IsBest o r f x) same (c.best-best.ensures.best f x is))

pub returns-clause-refused : goal.returns-clause-refused
returns-clause-refused g c =
    let asked = question_of c.locked_after-sheet.result c.replay_pins-card.result in
    let q = told c.args.histories in
    let same : asked ≡ q = ap₂ (λ l p. question l.contents p) c.locked_after-sheet.ensures.ledger c.replay_pins-card.ensures.after in
    let links = plan_links c.solve-solved.new.plan in
    let o = operations g.K.Rating c.args.ranked.now in
    let first = g.K.Ranked.first c.args.ranked.now in
    let solve_refuses = refuses (λ _. tt) c.solve-solved.result asked q same (length c.args.choices.now) c.solve-solved.ensures.answer _ refl in
    record {
      solve_refused = solve_refuses;
      instance_refused = λ e fits. c.instance_after-instance.ensures
          ∙ ap (λ r. after_solve r (instance_answer links c.solve-solved.new.table c.args.switches)) (solve_refuses e fits);
      rate_refused = refuses (sheet_figure (operations g.R.Rating c.args.rating.now)) c.rate-rated.result asked q same
          (min (length c.solve-solved.new.table) (length c.args.figures.now)) c.rate-rated.ensures.answer _
          (omega (arith, c.solve-solved.auto.table));
      ranked_rate_refused = refuses (sheet_figure (operations g.K.Rating c.args.ranked.now)) c.rate-ranked_rate.result asked q same
          (min (length c.rate-rated.new.choices) (length c.args.ranked_figures.now)) c.rate-ranked_rate.ensures.answer _
          (omega (arith, c.solve-solved.auto.table, c.rate-rated.auto.choices, c.rate-ranked_rate.auto.choices, c.rate-ranked_rate.auto.figures));
      best_refused = refuses (λ q. (sheet_figure o q, best_line_up o first q)) c.best-best.result asked q same
          (min (length c.rate-ranked_rate.new.choices) (length c.rate-ranked_rate.new.figures)) c.best-best.ensures.answer _
          (omega (arith, c.solve-solved.auto.table, c.rate-rated.auto.choices, c.rate-ranked_rate.auto.choices, c.rate-ranked_rate.auto.figures));
    }

pub returns-clause-ranked_figures : goal.returns-clause-ranked_figures
returns-clause-ranked_figures g c =
    let asked = question_of c.locked_after-sheet.result c.replay_pins-card.result in
    let q = told c.args.histories in
    let same : asked ≡ q = ap₂ (λ l p. question l.contents p) c.locked_after-sheet.ensures.ledger c.replay_pins-card.ensures.after in
    let o = operations g.K.Rating c.args.ranked.now in
    let n = length c.rate-rated.new.choices in
    let count : n ≡ length c.args.choices.now = omega (arith, c.solve-solved.auto.table, c.rate-rated.auto.choices, c.rate-ranked_rate.auto.choices, c.rate-ranked_rate.auto.figures) in
    c.best-best.ensures.figures ∙ ap₂ (rated_figures o asked) c.rate-ranked_rate.auto.choices c.rate-ranked_rate.ensures.figures
    ∙ figures_again o asked n c.args.ranked_figures.now ∙ ap₂ (λ r m. rated_figures o r m c.args.ranked_figures.now) same count
