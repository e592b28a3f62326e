-- What is left at a stage, and what it tells of line-ups.
use Rattle.std.proofs.Common.{◌≡◌, ℕ, ◌+◌, ◌-◌, ◌%◌, ◌^◌, ◌<◌, ◌≤◌, not, [], ◌++◌, filter, ap, ◌∙◌, sym, subst, arith}
use Rattle.std.specs.Prelude.{◌↔◌}
use Rattle.std.proofs.Math.Nat.{mod-eq_of_lt}
use Rattle.terms.specs.Groups.{beyond}
use Rattle.sheet.specs.Limits.{most_spots}
use Rattle.elimination.specs.Lawful.{Question, spot_count}
use Rattle.elimination.specs.Codes.{cells_from}
use Rattle.elimination.proofs.Reduction.{Reduced, prefix_reduced}
use Rattle.elimination.proofs.Solutions.{walk_cells, walk_prefix, walk_reduced}
use Rattle.elimination.proofs.Verdict.{lawful_reduced, reduced_root, root_lawful}
use Rattle.theorems.specs.Equation.{Proper, sum_at, penalties, remainders_from, left, StagesSay, LastSays}
use Rattle.theorems.proofs.Penalties.{whole_says}
use Rattle.theorems.proofs.Remainders.{beside, left_zero}
use Rattle.theorems.proofs.Places.{remainders_at}

module _ (q : Question) (proper : Proper q) where
  -- with m spots from k on
  pub left_reduced : (k m : ℕ) → spot_count q.contents ≡ k + m → (x : ℕ) → x < 2 ^ k → (left q k x ≡ 0) ↔ Reduced q k (cells_from q m k) x
  left_reduced k m e x h =
      let few : k + m ≤ most_spots = omega (arith, proper.0.0.0) in
      let says = left_zero q k (remainders_from q m k) (cells_from q m k) (omega arith) (beside q m k few) x h in
      let same = ap (λ fs. sum_at (filter (λ f. not (beyond k f.scope)) (penalties q ++ fs)) x) (remainders_at q k m e) in
      ((λ nil. says.0 (sym same ∙ nil)), (λ red. same ∙ says.1 red))

pub stages_say : StagesSay
stages_say q proper i x l h =
    let n = spot_count q.contents in
    let m = n - i in
    let e : n ≡ i + m = omega arith in
    let says = left_reduced q proper i m e x h in (
      λ nil.
          let z = walk_cells (cells_from q m i) 0 i x in
          let found = subst (λ j. (z < 2 ^ j) × Reduced q j [] z) (sym e) (walk_reduced q m i x 0 h (says.0 nil)) in
          let law = (lawful_reduced q proper.0 proper.1 z).1 found in
          (z, found.0, walk_prefix (cells_from q m i) 0 i x h, (whole_says q z found.0).1 law),
      λ (z, low, prefix, nil).
          let red = ((lawful_reduced q proper.0 proper.1 z).0 ((whole_says q z low).0 nil)).1 in
          let all = subst (λ j. Reduced q j [] (z % 2 ^ j)) e (subst (Reduced q n []) (sym (mod-eq_of_lt low)) red) in
          says.1 (subst (Reduced q i (cells_from q m i)) prefix (prefix_reduced q m i z all)),
    )

pub last_says : LastSays
last_says q proper =
    let says = left_reduced q proper 0 (spot_count q.contents) (omega arith) 0 (omega arith) in
    ((λ nil. root_lawful q proper.0 proper.1 (says.0 nil)), (λ some. says.1 (reduced_root q proper.0 proper.1 some)))
