-- What stands at a place of a file, before what follows it.
use Rattle.std.proofs.Common.{◌≡◌, ℕ, ◌+◌, ◌<◌, ◌≤◌, false, ltb, List, length, get_or, Some, Option, sym, ap, ◌∙◌, arith}
use Rattle.std.proofs.lemmas.List.{length-drop}
use Rattle.std.proofs.lemmas.Bool.{cond-false, ltb-false}
use Rattle.sheet_file.specs.declared.kinds.Kind.{Kind}
use Rattle.sheet_file.specs.Kinds.{kind_of, body_length}
use Rattle.sheet_file.specs.Records.{record_of, Whole, Cut, found, own_bytes}
use Rattle.sheet_file.specs.Pieces.{joined, grouped}
use Rattle.sheet_file.specs.ReadingSteps.{behind, rest_at}
use Rattle.sheet_file.proofs.Wholes.{records_at}

-- what stands at a place whose first byte is known
rest_joined : (bytes : List ℕ) (place : ℕ) (o : Option Kind) → place < length bytes → kind_of (get_or bytes place 0) ≡ o
    → rest_at bytes place ≡ joined place (found o (behind bytes place)) (rest_at bytes (place + 1 + own_bytes o (behind bytes place)))
rest_joined bytes place o within is =
    let bs = behind bytes place in
    ap grouped (records_at bytes place within) ∙ ap (λ k. joined place (found k bs) (rest_at bytes (place + 1 + own_bytes k bs))) is

-- a record of a kind, which the end of the file does not cut
module _ (bytes : List ℕ) (place : ℕ) (kind : Kind) (within : place < length bytes) (is : kind_of (get_or bytes place 0) ≡ Some kind)
    (next : ℕ) (far : next ≡ place + 1 + body_length kind) (whole : ltb (length (behind bytes place)) (body_length kind) ≡ false) where
  pub rest_whole : rest_at bytes place ≡ joined place (Whole (record_of kind (behind bytes place))) (rest_at bytes next)
  rest_whole =
      let bs = behind bytes place in
      let r = Whole (record_of kind bs) in
      rest_joined bytes place (Some kind) within is
      ∙ ap (λ f. joined place f (rest_at bytes (place + 1 + body_length kind))) (cond-false (ltb (length bs) (body_length kind)) (Cut kind) r whole)
      ∙ ap (λ n. joined place r (rest_at bytes n)) (sym far)

  -- the next record is no further than the end
  pub next_inside : next ≤ length bytes
  next_inside = omega (arith, ltb-false (length (behind bytes place)) (body_length kind) whole, length-drop (place + 1) bytes)
