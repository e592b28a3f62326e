use Rattle.elimination.specs.Plans.{plan_links}
use Rattle.solutions.proofs.Rows.{instance_uppermost}
use Rattle.solutions.proofs.Solved.{solved_says}
use Rattle.solutions.proofs.calls.instance.Goals as goal

pub returns-in_err-reading-clause-uppermost : goal.returns-in_err-reading-clause-uppermost
returns-in_err-reading-clause-uppermost c = instance_uppermost (plan_links c.args.plan.now) c.args.table.now c.args.switches

pub returns-clause-uppermost : goal.returns-clause-uppermost
returns-clause-uppermost c = instance_uppermost (plan_links c.args.plan.now) c.args.table.now c.args.switches

pub returns-in_err-reading-clause-solved : goal.returns-in_err-reading-clause-solved
returns-in_err-reading-clause-solved c = solved_says (plan_links c.args.plan.now) c.args.table.now c.args.switches

pub returns-clause-solved : goal.returns-clause-solved
returns-clause-solved c = solved_says (plan_links c.args.plan.now) c.args.table.now c.args.switches
