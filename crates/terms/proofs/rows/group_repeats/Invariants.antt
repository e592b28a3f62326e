use Rattle.std.proofs.Common.{◌≡◌, map, length}
use Rattle.terms.specs.Tests.{repeats}
use Rattle.terms.specs.Terms.{group_of}
use Rattle.terms.proofs.rows.group_repeats.Given as goal

abbrev pub invariant-loop-first : goal.invariant-loop-first
invariant-loop-first l = repeats (map group_of l.fn.terms) ≡ repeats (map group_of l.rest)

abbrev pub decreases-loop-first : goal.decreases-loop-first
decreases-loop-first l = length l.rest
