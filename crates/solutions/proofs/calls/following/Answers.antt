use Rattle.std.proofs.Common.{◌≡◌, ℕ, List, Some, None, Ok, Option, sym, ap, ◌∙◌, ap₂}
use Rattle.std.specs.Option.{option_map}
use Rattle.terms.specs.Refusals.{uppermost}
use Rattle.elimination.specs.Plans.{plan_links}
use Rattle.solutions.specs.Walks.{instance_of}
use Rattle.solutions.specs.Answers.{instance_rows, next_answer}
use Rattle.solutions.specs.Turns.{turns_from}
use Rattle.solutions.proofs.NextAnswers.{next_after}
use Rattle.solutions.proofs.calls.following.Goals as goal

-- the same of the link sets and cells that the walk was told of
after_walk : (ms js bytes bs : List ℕ) (x line_up : ℕ) (turn told : Option ℕ) → js ≡ ms → bs ≡ bytes
    → None ≡ uppermost (instance_rows ms bytes x) → line_up ≡ instance_of js bs x → line_up ≡ x → told ≡ turns_from js bs x 0 0 None → told ≡ turn
    → next_answer ms bytes (Some x) ≡ Ok (option_map (instance_of ms bytes) turn)
after_walk ms js bytes bs x line_up turn told links cells free walked own turns is =
    next_after ms bytes x turn (sym free) (ap₂ (λ j b. instance_of j b x) (sym links) (sym cells) ∙ sym walked ∙ own)
    (ap₂ (λ j b. turns_from j b x 0 0 None) (sym links) (sym cells) ∙ sym turns ∙ is)

pub returns-in_default : goal.returns-in_default
returns-in_default c =
    let r = c.in_ok-reading.ensures.reading in
    let w = c.walk-walk.ensures in
    sym
    (after_walk (plan_links c.args.plan.now) _ c.args.table.now _ c.args.line_up _ None _ r.0 r.1 c.in_ok-reading.ensures.refusal w.line_up
    c.if-walk-line_up.false w.turn c.in_default.is)

pub returns : goal.returns
returns c =
    let r = c.in_ok-reading.ensures.reading in
    let w = c.walk-walk.ensures in
    let turned = c.in-Some.turned in
    ap (λ y. Ok (Some y)) (c.walk.ensures.line_up ∙ ap₂ (λ js bs. instance_of js bs turned) r.0 r.1)
    ∙ sym
    (after_walk (plan_links c.args.plan.now) _ c.args.table.now _ c.args.line_up _ (Some turned) _ r.0 r.1 c.in_ok-reading.ensures.refusal w.line_up
    c.if-walk-line_up.false w.turn c.in-Some.is)
