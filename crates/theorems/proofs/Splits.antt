-- Elimination of one variable: u split by the spot, into parts that look at its link set alone.
use Rattle.std.proofs.Common.{◌≡◌, ℕ, ◌+◌, ◌-◌, ◌*◌, ◌%◌, ◌^◌, Bool, true, false, ap, ◌∙◌, sym, arith}
use Rattle.std.proofs.Math.Nat.{mod-eq_of_lt}
use Rattle.terms.specs.Groups.{holds}
use Rattle.elimination.specs.Lawful.{Question}
use Rattle.elimination.specs.Codes.{with_spot}
use Rattle.elimination.proofs.Prefixes.{next_prefix}
use Rattle.theorems.specs.Equation.{bit, u, v, w, SplitsSay}

split : (q : Question) (i x : ℕ) (runs : Bool) → u q i (with_spot i x runs) ≡ v q i x * bit runs + w q i x * (1 - bit runs)
split q i x true = omega arith
split q i x false = omega arith

pub splits_say : SplitsSay
splits_say q i y h = ap (u q i) (sym (mod-eq_of_lt h) ∙ next_prefix i y) ∙ split q i (y % 2 ^ i) (holds y i)
