use Rattle.std.proofs.Common.{◌++◌, codes, flat_map, ap, ◌∙◌, sym}
use Rattle.std.proofs.lemmas.Grind.{put_two}
use Rattle.std.proofs.lemmas.List.{take_all}
use Rattle.booking_day.specs.Texts.{term_text, terms_text}
use Rattle.booking_day.proofs.Joins.{joined_map}
use Rattle.booking_day.proofs.texts.SumDisplay.fmt.Goals as goal

pub returns-clause-writes : goal.returns-clause-writes
returns-clause-writes g c = λ plain ok.
    let first = c.in_ok-write.ensures.writes plain ok in
    let others = c.loop-term.invariant first.plain in
    let term = c.in-Some.field-0-0.now in
    let rest = c.in-Some.others.now in
    let all = take_all c.loop-term.term-index rest c.loop-term-test.false in
    let text = ap (λ ts. term_text term ++ flat_map (λ t. codes " + " ++ term_text t) ts) all ∙ joined_map term_text (codes " + ") term rest in
    put_two _ _ _ _ _ _ _ first others (text ∙ sym (ap terms_text c.in-Some.ensures.cases.0))
