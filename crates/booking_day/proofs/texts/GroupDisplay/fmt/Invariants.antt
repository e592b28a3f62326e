use Rattle.std.proofs.Common.{◌≡◌}
use denote.Text.{Utf8}
use denote.Shadow.{shadow}
use Rattle.std.specs.Fmt.{HasWritten, IsPlainFormatter}
use Rattle.booking_day.specs.Texts.{spots_below}
use Rattle.booking_day.proofs.Joins.{spelled, gap}
use Rattle.booking_day.proofs.texts.GroupDisplay.fmt.Given as goal

abbrev pub invariant-loop-spot : goal.invariant-loop-spot
invariant-loop-spot g l = record {
  text : shadow (Utf8 l.separator);
  separator : l.separator ≡ gap (spots_below l.spot-counter l.self.0);
  written : IsPlainFormatter l.initial.f
      → HasWritten g.W.Write.write_str_gives l.initial.f (spelled (spots_below l.spot-counter l.self.0)) l.f;
}
