-- Bytes written one after the other into a space.
use Rattle.std.proofs.Common.{◌≡◌, ℕ, ◌+◌, ◌<◌, ◌≤◌, List, [], ◌++◌, length, get_or, take, drop, sym, ap, ◌∙◌, subst, arith}
use Rattle.std.specs.List.{flat_map}
use Rattle.std.proofs.lemmas.List.{append_assoc, length-append, length-drop, length-take-le, take_at, drop_at, drop-drop, take-append-drop, take_all}
use Rattle.std.proofs.lemmas.List.Folds.{length-flat_map-take}
use Rattle.sheet_file.specs.Writing.{over_head}
use Rattle.sheet_file.specs.WritingSteps.{over, Written}
use Rattle.sheet_file.proofs.Parts.{pieces_more}

-- the list keeps its length
length_over : (at : ℕ) (a old : List ℕ) → at + length a ≤ length old → length (over at a old) ≡ length old
unfolding over
length_over at a old room =
    omega (
      arith,
      length-append (take at old) (a ++ drop (at + length a) old),
      length-append a (drop (at + length a) old),
      length-take-le at old (omega arith),
      length-drop (at + length a) old,
    )

-- two writes, one right behind the other, are one
over_then : (at : ℕ) (a b old : List ℕ) → at ≤ length old → over (at + length a) b (over at a old) ≡ over at (a ++ b) old
unfolding over
over_then at a b old inside =
    let n = at + length a in
    let front = take at old ++ a in
    let rest = drop n old in
    let long : length front ≡ n = length-append (take at old) a ∙ ap (λ k. k + length a) (length-take-le at old inside) in
    let grouped : take at old ++ (a ++ rest) ≡ front ++ rest = sym (append_assoc (take at old) a rest) in
    let before : take n (front ++ rest) ≡ front = take_at front rest n long in
    let behind : drop (n + length b) (front ++ rest) ≡ drop (at + length (a ++ b)) old =
    sym (drop-drop (length b) n (front ++ rest)) ∙ ap (drop (length b)) (drop_at front rest n long) ∙ drop-drop (length b) n old
    ∙ ap (λ k. drop k old) (omega (arith, length-append a b))
    in
    rw (grouped, before, behind) (append_assoc (take at old) a (b ++ _) ∙ ap (λ x. take at old ++ x) (sym (append_assoc a b _)))

-- written at the front
pub over_front : (bytes old : List ℕ) → over 0 bytes old ≡ over_head bytes old
unfolding over
over_front bytes old = ap (λ k. bytes ++ drop k old) (omega arith)

-- nothing is written
pub written_none : (at : ℕ) (old : List ℕ) → Written at [] old old at
unfolding over
written_none at old = record { space = sym (ap (λ k. take at old ++ drop k old) (omega arith) ∙ take-append-drop at old); behind = omega arith }

-- two writes, one right behind the other
pub written_then : {at : ℕ} {a b old mid new : List ℕ} {place end : ℕ} → at ≤ length old → Written at a old mid place → Written place b mid new end
    → (bytes : List ℕ) → bytes ≡ a ++ b → Written at bytes old new end
written_then {at} {a} {b} {old} {mid} {new} {place} {end} inside one two bytes e = record {
  space =
      two.space ∙ ap (λ k. over k b mid) one.behind ∙ ap (over (at + length a) b) one.space ∙ over_then at a b old inside
      ∙ ap (λ x. over at x old) (sym e);
  behind = omega (arith, one.behind, two.behind, length-append a b, ap length e);
}

-- behind the first of two pieces the room is left for the second
pub room_then : {at : ℕ} {a old mid : List ℕ} {place : ℕ} (b bytes : List ℕ) → bytes ≡ a ++ b → at + length bytes ≤ length old
    → Written at a old mid place → place + length b ≤ length mid
room_then {at} {a} {old} {mid} {place} b bytes e room one =
    let long = ap length e ∙ length-append a b in omega (arith, one.behind, ap length one.space, length_over at a old (omega arith))

-- the same space and place, otherwise named
pub written_as : {at : ℕ} {bytes old mid new : List ℕ} {place end : ℕ} → new ≡ mid → end ≡ place → Written at bytes old mid place
    → Written at bytes old new end
written_as e s w = record { space = e ∙ w.space; behind = s ∙ w.behind }

-- the pieces of a list, written one right behind the other
module _ {X : Type 0} (f : X → List ℕ) (xs : List X) (i : ℕ) (d : X) {at place : ℕ} {old mid : List ℕ}
    (room : at + length (flat_map f xs) ≤ length old) (so_far : Written at (flat_map f (take i xs)) old mid place) where
  pub room_for : i < length xs → place + length (f (get_or xs i d)) ≤ length mid
  room_for within =
      let least = length-flat_map-take f xs i d within in
      omega (arith, so_far.behind, ap length so_far.space, length_over at (flat_map f (take i xs)) old (omega arith))

  pub written_more : i < length xs → {new : List ℕ} {end : ℕ} → Written place (f (get_or xs i d)) mid new end
      → Written at (flat_map f (take (i + 1) xs)) old new end
  written_more within piece = written_then (omega arith) so_far piece _ (pieces_more f xs i d within)

  pub written_all : length xs ≤ i → Written at (flat_map f xs) old mid place
  written_all over_all = subst (λ ys. Written at (flat_map f ys) old mid place) (take_all i xs over_all) so_far
