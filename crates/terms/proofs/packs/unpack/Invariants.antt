use Rattle.std.proofs.Common.{◌≡◌, ◌+◌, ◌≤◌}
use Rattle.terms.specs.Packing.{unpacked}
use Rattle.terms.proofs.packs.unpack.Given as goal

abbrev pub invariant-loop-left : goal.invariant-loop-left
invariant-loop-left l = (l.group + unpacked l.left l.digits ≡ unpacked l.mask l.initial.digits) × (l.left ≤ l.mask)

abbrev pub decreases-loop-left : goal.decreases-loop-left
decreases-loop-left l = l.left
