use Rattle.std.proofs.Common.{◌≤◌, length, drop}
use Rattle.elimination.specs.Plans.{plan_links}
use Rattle.elimination.specs.Links.{need}
use Rattle.booking_day.proofs.line_ups.show_cells.Given as goal

-- the cells of the spots that are left are there
abbrev pub invariant-loop-spot : goal.invariant-loop-spot
invariant-loop-spot g l = need (drop l.spot (plan_links l.plan)) ≤ length l.rest
