use Rattle.std.proofs.Common.{Some, sym, ap, ◌∙◌, ap₂}
use Rattle.elimination.specs.Codes.{taken, with_spot}
use Rattle.solutions.specs.Turns.{turned}
use Rattle.solutions.proofs.walks.Walk.step.Goals as goal

pub returns-in-Free-false-clause-turn : goal.returns-in-Free-false-clause-turn
returns-in-Free-false-clause-turn c =
    let k = c.args.spot in
    let w = c.args.self in
    ap Some c.with_spot-with_spot.ensures
    ∙ sym (ap₂ (λ d s. turned d s k w.line_up w.turn) c.in-Free-false.is-0 c.in-Free-false.is-1)

pub returns-in-In-default-clause-line_up : goal.returns-in-In-default-clause-line_up
returns-in-In-default-clause-line_up c =
    let k = c.args.spot in
    let x = c.args.self.line_up in
    c.with_spot-with_spot.ensures ∙ sym (ap (λ d. with_spot k x (taken d c.args.switch)) c.in-In-default.is-0)

pub returns-in-In-default-2-clause-line_up : goal.returns-in-In-default-2-clause-line_up
returns-in-In-default-2-clause-line_up c =
    let k = c.args.spot in
    let x = c.args.self.line_up in
    c.with_spot-with_spot.ensures ∙ sym (ap₂ (λ d s. with_spot k x (taken d s)) c.in-In-default.is-0 c.in-In-default.is-1)
