-- Where a walk along switches could last have gone on otherwise: what the inner calls answer.
use Rattle.std.specs.Prelude.{ℕ, suc, ◌^◌, Bool, true, false, List, [], ◌∷◌, drop, Some, Option, slice_index}
use Rattle.terms.specs.Groups.{holds, size}
use Rattle.terms.specs.Packing.{packed}
use Rattle.elimination.specs.declared.codes.Code.{Code}
use Rattle.elimination.specs.declared.codes.Code.TheVariants.{Out, In, Free, Dead}
use Rattle.elimination.specs.Codes.{code_of, taken, with_spot}

-- the switches that turn at spot k, after x: where both values are open, and out is taken; else those that are known so far
abbrev pub turned : Code → Bool → ℕ → ℕ → Option ℕ → Option ℕ
turned Out switch k x so_far = so_far
turned In switch k x so_far = so_far
turned Free true k x so_far = so_far
turned Free false k x so_far = Some (with_spot k x true)
turned Dead switch k x so_far = so_far

-- the switches of the last turn of the walk that goes on from x
abbrev pub turns_from : List ℕ → List ℕ → ℕ → ℕ → ℕ → Option ℕ → Option ℕ
turns_from [] bytes switches k x so_far = so_far
turns_from (m ∷ ms) bytes switches k x so_far =
    let code = code_of (slice_index bytes (packed m x)) in
    turns_from ms (drop (2 ^ size m) bytes) switches (suc k) (with_spot k x (taken code (holds switches k))) (turned code (holds switches k) k x so_far)
