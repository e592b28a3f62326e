use Rattle.std.proofs.Common.{◌≡◌, ◌++◌, codes, decimal, refl, ap, sym, ◌∙◌, rules, arith}
use Rattle.std.proofs.Output.{has_written_of_eq}
use Rattle.std.proofs.lemmas.Grind.{put_two, put_three}
use Rattle.booking_day.specs.Texts.{spots_below, group_text}
use Rattle.booking_day.proofs.Joins.{spelled, gap, spelled_more, gap_more, spots_same}
use Rattle.booking_day.proofs.texts.GroupDisplay.fmt.Goals as goal
use Rattle.booking_day.proofs.texts.GroupDisplay.fmt.Goals.{then-holds+in_ok-write, else-holds}

pub loop-spot-preserved : goal.loop-spot-preserved
loop-spot-preserved g c =
    let group = c.args.self.now.0 in
    let spot = c.loop-spot.spot-counter in
    let before = c.loop-spot.invariant in
    elim c.if-holds.branch [
      | then-holds+in_ok-write w ↦
          let held = sym c.holds.ensures ∙ w.if-holds.true in
          let text = ap (λ l. spelled (spots_below spot group) ++ (l ++ decimal spot)) before.separator ∙ spelled_more spot group held in
          rw (w.f-is, w.separator-is) (record {
            text = search rules;
            separator = gap_more spot group held;
            written = λ plain. put_two _ _ _ _ _ _ _ (before.written plain) (search rules) text;
          })
      | else-holds w ↦
          let same = spots_same spot group (sym c.holds.ensures ∙ w.if-holds.false) in
          rw (w.f-is, w.separator-is) (record {
            text = before.text;
            separator = before.separator ∙ ap gap same;
            written = λ plain. has_written_of_eq _ _ _ _ _ (ap spelled same) (before.written plain);
          })
    ]

pub returns-clause-writes : goal.returns-clause-writes
unfolding group_text
returns-clause-writes g c = λ plain ok.
    let opened = c.in_ok-write_str.ensures.writes plain refl in
    let spots = c.loop-spot.invariant.written opened.plain in
    let closed = c.write_str-2.ensures.writes spots.plain ok in
    let end : c.loop-spot.spot-counter ≡ 32 = omega arith in
    let text = ap (λ n. codes "{" ++ (spelled (spots_below n c.args.self.now.0) ++ codes "}")) end in
    put_three _ _ _ _ _ _ _ _ _ opened spots closed text
