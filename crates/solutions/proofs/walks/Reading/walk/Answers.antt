use Rattle.std.proofs.Common.{◌+◌, ◌^◌, get_or, drop, sym, ap, ◌∙◌, ap₂, add-one, arith}
use Rattle.terms.specs.Groups.{holds, size}
use Rattle.terms.proofs.Packing.{packed_below}
use Rattle.elimination.specs.Codes.{code_of, taken, with_spot}
use Rattle.elimination.proofs.Prefixes.{with_below}
use Rattle.elimination.proofs.Needs.{need_here}
use Rattle.solutions.specs.Walks.{walk_from}
use Rattle.solutions.specs.Turns.{turned, turns_from}
use Rattle.solutions.proofs.Steps.{switch_read, cell_code, walk_left, turns_left}
use Rattle.solutions.proofs.walks.Reading.walk.Goals as goal

pub bounds-self-cell : goal.bounds-self-cell
bounds-self-cell c =
    let r = c.args.self.now in
    let m = get_or r.link_sets.now c.loop-spot.spot 0 in
    omega (arith, need_here r.link_sets.now c.loop-spot.spot (omega arith), packed_below m c.loop-spot.walk.line_up (omega arith), r.room)

pub loop-spot-preserved : goal.loop-spot-preserved
loop-spot-preserved c =
    let ms = c.args.self.now.link_sets.now in
    let bytes = c.args.self.now.cells.now in
    let s = c.args.switches in
    let i = c.loop-spot.spot in
    let start = c.loop-spot.start in
    let w = c.loop-spot.walk in
    let d = cell_code ms bytes i start w.line_up in
    let within = c.loop-spot-test.true in
    let code = c.from-code.ensures ∙ ap (λ place. code_of (get_or bytes (start + place) 0)) c.pack.ensures in
    let line_up = c.step-walk.ensures.line_up ∙ ap₂ (λ e b. with_spot i w.line_up (taken e b)) code (switch_read s i) in
    let turn = c.step-walk.ensures.turn ∙ ap₂ (λ e b. turned e b i w.line_up w.turn) code (switch_read s i) in
    let grown = c.cell_count-start.ensures in
    record {
      low = rw (line_up, add-one) (with_below i w.line_up (taken d (holds s i)) c.loop-spot.invariant.low);
      room = omega (arith, need_here ms i within, grown, c.loop-spot.invariant.room);
      line_up =
          ap₂ (λ n y. walk_from (drop (i + 1) ms) (drop (start + n) bytes) s (i + 1) y) grown line_up
          ∙ sym (walk_left ms bytes s i start w.line_up within) ∙ c.loop-spot.invariant.line_up;
      turn =
          ap (λ n. turns_from (drop (i + 1) ms) (drop (start + n) bytes) s (i + 1) c.step-walk.result.line_up c.step-walk.result.turn) grown
          ∙ ap₂ (λ y t. turns_from (drop (i + 1) ms) (drop (start + 2 ^ size (get_or ms i 0)) bytes) s (i + 1) y t) line_up turn
          ∙ sym (turns_left ms bytes s i start w.line_up within w.turn) ∙ c.loop-spot.invariant.turn;
    }
