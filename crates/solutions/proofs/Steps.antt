-- One spot more of a walk.
use Rattle.std.proofs.Common.{◌≡◌, sym, ℕ, suc, ◌+◌, ◌/◌, eqb, ◌^◌, ◌<◌, List, length, get_or, drop, Option, ap, ◌∙◌, ap₂, add-one, drop-cons}
use lib.Bits.{bit_and}
use Rattle.std.proofs.lemmas.Nat.{and_mask}
use Rattle.std.proofs.lemmas.List.{get_or-drop, drop-drop}
use Rattle.terms.specs.Groups.{holds, size}
use Rattle.terms.specs.Packing.{packed}
use Rattle.elimination.specs.declared.codes.Code.{Code}
use Rattle.elimination.specs.Codes.{code_of, taken, with_spot}
use Rattle.solutions.specs.Walks.{walk_from}
use Rattle.solutions.specs.Turns.{turned, turns_from}

-- a switch as the code reads it
pub switch_read : (switches i : ℕ) → eqb (bit_and (switches / 2 ^ i) 1) 1 ≡ holds switches i
switch_read switches i = ap (λ d. eqb d 1) (and_mask (switches / 2 ^ i) 1)

-- the cell of spot i at the line-up so far, where the spots from i on have their cells from `start`
abbrev pub cell_code : List ℕ → List ℕ → ℕ → ℕ → ℕ → Code
cell_code ms bytes i start x = code_of (get_or bytes (start + packed (get_or ms i 0) x) 0)

module _ (ms bytes : List ℕ) (switches i start x : ℕ) (within : i < length ms) where
  code_left : code_of (get_or (drop start bytes) (packed (get_or ms i 0) x) 0) ≡ cell_code ms bytes i start x
  code_left = ap code_of (get_or-drop start bytes (packed (get_or ms i 0) x) 0)

  pub walk_left : walk_from (drop i ms) (drop start bytes) switches i x
      ≡ walk_from (drop (i + 1) ms) (drop (start + 2 ^ size (get_or ms i 0)) bytes) switches (i + 1)
      (with_spot i x (taken (cell_code ms bytes i start x) (holds switches i)))
  walk_left =
      ap (λ js. walk_from js (drop start bytes) switches i x) (drop-cons ms i 0 within)
      ∙ ap₂ (λ bs d. walk_from (drop (suc i) ms) bs switches (suc i) (with_spot i x (taken d (holds switches i))))
      (drop-drop (2 ^ size (get_or ms i 0)) start bytes) code_left
      ∙ ap (λ j. walk_from (drop j ms) (drop (start + 2 ^ size (get_or ms i 0)) bytes) switches j
      (with_spot i x (taken (cell_code ms bytes i start x) (holds switches i)))) (sym (add-one i))

  pub turns_left : (so_far : Option ℕ) → turns_from (drop i ms) (drop start bytes) switches i x so_far
      ≡ turns_from (drop (i + 1) ms) (drop (start + 2 ^ size (get_or ms i 0)) bytes) switches (i + 1)
      (with_spot i x (taken (cell_code ms bytes i start x) (holds switches i))) (turned (cell_code ms bytes i start x) (holds switches i) i x so_far)
  turns_left so_far =
      ap (λ js. turns_from js (drop start bytes) switches i x so_far) (drop-cons ms i 0 within)
      ∙ ap₂ (λ bs d. turns_from (drop (suc i) ms) bs switches (suc i) (with_spot i x (taken d (holds switches i)))
      (turned d (holds switches i) i x so_far)) (drop-drop (2 ^ size (get_or ms i 0)) start bytes) code_left
      ∙ ap (λ j. turns_from (drop j ms) (drop (start + 2 ^ size (get_or ms i 0)) bytes) switches j
      (with_spot i x (taken (cell_code ms bytes i start x) (holds switches i))) (turned (cell_code ms bytes i start x) (holds switches i) i x so_far))
      (sym (add-one i))
