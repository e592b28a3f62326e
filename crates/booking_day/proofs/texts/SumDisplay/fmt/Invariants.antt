use Rattle.std.proofs.Common.{◌++◌, take, codes, flat_map}
use Rattle.std.specs.Fmt.{HasWritten, IsPlainFormatter}
use Rattle.booking_day.specs.Texts.{term_text}
use Rattle.booking_day.proofs.texts.SumDisplay.fmt.Given as goal

abbrev pub invariant-loop-term : goal.invariant-loop-term
invariant-loop-term g l =
    IsPlainFormatter l.initial.f
    → HasWritten g.W.Write.write_str_gives l.initial.f (flat_map (λ t. codes " + " ++ term_text t) (take l.term-index l.others)) l.f
