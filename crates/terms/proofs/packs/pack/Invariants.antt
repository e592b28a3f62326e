use Rattle.std.proofs.Common.{◌≡◌, ◌+◌, ◌*◌, ◌^◌, ◌≤◌}
use Rattle.terms.specs.Groups.{size}
use Rattle.terms.specs.Packing.{packed}
use Rattle.terms.proofs.packs.pack.Given as goal

abbrev pub invariant-loop-left : goal.invariant-loop-left
invariant-loop-left l = (l.index + 2 ^ l.place * packed l.left l.group ≡ packed l.mask l.group) × (l.place + size l.left ≤ 32) × (l.left ≤ l.mask)

abbrev pub decreases-loop-left : goal.decreases-loop-left
decreases-loop-left l = l.left
