use Rattle.std.proofs.Common.{◌≡◌, ◌*◌, ◌≤◌, drop, ◌+ℤ◌, unsigned_abs}
use Rattle.terms.specs.Terms.{worth}
use Rattle.terms.proofs.worths.worth.Given as goal

abbrev pub invariant-loop-term : goal.invariant-loop-term
invariant-loop-term l =
    (l.sum +ℤ worth (drop l.term-index l.terms) l.line_up ≡ worth l.terms l.line_up) × (unsigned_abs l.sum ≤ l.term-index * 2147483648)
