use Rattle.std.proofs.Common.{sym, ap, ◌∙◌, rules}
use Rattle.terms.specs.Refusals.{uppermost}
use Rattle.elimination.specs.Plans.{plan_links}
use Rattle.solutions.specs.Walks.{instance_of}
use Rattle.solutions.specs.Answers.{instance_rows, next_answer}
use Rattle.solutions.proofs.Rows.{next_uppermost}
use Rattle.solutions.proofs.NextAnswers.{next_first, mapped_answer}
use Rattle.solutions.proofs.Following.{first_listed}
use Rattle.solutions.proofs.Orders.{in_order}
use Rattle.solutions.proofs.Runs.{runs_through}
use Rattle.solutions.proofs.Solved.{lists_lawful}
use Rattle.solutions.proofs.calls.next.Goals as goal

pub returns-in-None-clause-answer : goal.returns-in-None-clause-answer
returns-in-None-clause-answer c =
    let ms = plan_links c.args.plan.now in
    let bytes = c.args.table.now in
    mapped_answer _ (λ x y p. search (rules, p)) (uppermost (instance_rows ms bytes 0)) (instance_of ms bytes 0) c.map.result
    (rw c.instance.ensures.answer at c.map.ensures.cases)
    ∙ sym (next_first ms bytes) ∙ ap (next_answer ms bytes) (sym c.in-None.is)

pub returns-in-None-clause-uppermost : goal.returns-in-None-clause-uppermost
returns-in-None-clause-uppermost c = next_uppermost (plan_links c.args.plan.now) c.args.table.now c.args.after

pub returns-in-Some-clause-uppermost : goal.returns-in-Some-clause-uppermost
returns-in-Some-clause-uppermost c = next_uppermost (plan_links c.args.plan.now) c.args.table.now c.args.after

pub returns-in-None-clause-run : goal.returns-in-None-clause-run
returns-in-None-clause-run c = runs_through (plan_links c.args.plan.now) c.args.table.now

pub returns-in-Some-clause-run : goal.returns-in-Some-clause-run
returns-in-Some-clause-run c = runs_through (plan_links c.args.plan.now) c.args.table.now

pub returns-in-None-clause-order : goal.returns-in-None-clause-order
returns-in-None-clause-order c = in_order

pub returns-in-Some-clause-order : goal.returns-in-Some-clause-order
returns-in-Some-clause-order c = in_order

pub returns-in-None-clause-lawful : goal.returns-in-None-clause-lawful
returns-in-None-clause-lawful c = lists_lawful (plan_links c.args.plan.now) c.args.table.now

pub returns-in-Some-clause-lawful : goal.returns-in-Some-clause-lawful
returns-in-Some-clause-lawful c = lists_lawful (plan_links c.args.plan.now) c.args.table.now

pub returns-in-None-clause-first : goal.returns-in-None-clause-first
returns-in-None-clause-first c = first_listed (plan_links c.args.plan.now) c.args.table.now

pub returns-in-Some-clause-first : goal.returns-in-Some-clause-first
returns-in-Some-clause-first c = first_listed (plan_links c.args.plan.now) c.args.table.now
