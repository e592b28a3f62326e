-- Of the choice table of a question the walk is the walk through the cells, so the line-ups that are read off it are the lawful ones.
use Rattle.std.proofs.Common.{◌≡◌, ℕ, zero, suc, ◌+◌, ◌%◌, ◌^◌, ◌<◌, ◌≤◌, true, List, [], ◌∷◌, ◌++◌, map, length, get_or, drop, sym, refl, ap, ◌∙◌, ap₂, subst, append_assoc, arith}
use Rattle.std.specs.List.{flat_map}
use Rattle.std.proofs.Math.Nat.{mod-eq_of_lt}
use Rattle.std.proofs.Math.Seq.{drop-append_seam}
use Rattle.std.proofs.lemmas.List.{take-append-drop}
use Rattle.std.proofs.lemmas.List.Elements.{filter_agree}
use Rattle.std.proofs.lemmas.Bool.{eq-eqb, eqb-true}
use Rattle.std.proofs.lemmas.Bool.Decides.{same_from_decides}
use Rattle.terms.specs.Groups.{holds}
use Rattle.terms.specs.Packing.{packed}
use Rattle.elimination.specs.Lawful.{Question, spot_count, lawful, line_ups}
use Rattle.elimination.specs.Links.{need, scopes}
use Rattle.elimination.specs.Codes.{code, code_of, taken, with_spot, spot_codes, links_of, cells_at, cells_from, cells}
use Rattle.elimination.proofs.Prefixes.{with_below}
use Rattle.elimination.proofs.Locality.{cells_local}
use Rattle.elimination.proofs.Reduction.{Reduced}
use Rattle.elimination.proofs.Solutions.{walk_cells, walk_reduced, walk_own}
use Rattle.elimination.proofs.ChoiceTables.{code_back, length_spot_codes, spot_byte}
use Rattle.elimination.proofs.LinkSets.{link_set_lower, links_of_cells}
use Rattle.elimination.proofs.Verdict.{lawful_reduced, reduced_root}
use Rattle.solutions.specs.Walks.{walk_from, instance_of, listed}
use Rattle.elimination.specs.Accepted.{LeftBySolve}
use Rattle.solutions.specs.Solved.{SolvedSays, ListsLawful}

-- the code that is read at the first of the cells
read_code : (q : Question) (n k x : ℕ) (rest : List ℕ) → x < 2 ^ k → k ≤ 32
    → code_of (get_or (spot_codes (cells_at q k (cells_from q n (suc k))) ++ rest) (packed (cells_at q k (cells_from q n (suc k))).links x) 0)
    ≡ code (cells_at q k (cells_from q n (suc k))) x
read_code q n k x rest h few =
    let c = cells_at q k (cells_from q n (suc k)) in
    let low = link_set_lower (scopes q.contents) k (map links_of (cells_from q n (suc k))) in
    ap code_of (spot_byte k c (cells_local q (suc n) k).0 low few x h rest) ∙ code_back (code c x)

walk_codes : (q : Question) (n k s x : ℕ) (rest : List ℕ) → x < 2 ^ k → k + n ≤ 32
    → walk_from (map links_of (cells_from q n k)) (flat_map spot_codes (cells_from q n k) ++ rest) s k x ≡ walk_cells (cells_from q n k) s k x
walk_codes q zero k s x rest h few = refl
walk_codes q (suc n) k s x rest h few =
    let later = cells_from q n (suc k) in
    let c = cells_at q k later in
    let left = flat_map spot_codes later ++ rest in
    let b = taken (code c x) (holds s k) in
    ap (λ bs. walk_from (map links_of (c ∷ later)) bs s k x) (append_assoc (spot_codes c) (flat_map spot_codes later) rest)
    ∙ ap₂ (λ bs d. walk_from (map links_of later) bs s (suc k) (with_spot k x (taken d (holds s k))))
    (ap (λ j. drop j (spot_codes c ++ left)) (sym (length_spot_codes c)) ∙ drop-append_seam (spot_codes c) left)
    (read_code q n k x left h (omega arith))
    ∙ walk_codes q n (suc k) s (with_spot k x b) rest (with_below k x b h) (omega arith)

module _ (q : Question) (ms bytes : List ℕ) (left : LeftBySolve q ms bytes) where
  instance_walk : (s : ℕ) → instance_of ms bytes s ≡ walk_cells (cells q) s 0 0
  instance_walk s =
      ap₂ (λ js bs. walk_from js bs s 0 0) (left.links ∙ sym (links_of_cells q))
      (sym (take-append-drop (need ms) bytes) ∙ ap (λ l. l ++ drop (need ms) bytes) left.table)
      ∙ walk_codes q (spot_count q.contents) 0 s 0 (drop (need ms) bytes) (omega arith) (omega (arith, left.kept.0.0))

  instance_lawful : (s : ℕ) → lawful q (instance_of ms bytes s) ≡ true
  instance_lawful s =
      let n = spot_count q.contents in
      let found = walk_reduced q n 0 0 s (omega arith) (reduced_root q left.kept left.declared left.possible) in
      let y = walk_cells (cells q) s 0 0 in
      let none : 0 + n ≡ n = omega arith in
      ap (lawful q) (instance_walk s)
      ∙ (lawful_reduced q left.kept left.declared y).1 (subst (λ j. (y < 2 ^ j) × Reduced q j [] y) none found)

  instance_own : (s : ℕ) → lawful q s ≡ true → instance_of ms bytes s ≡ s
  instance_own s law =
      let n = spot_count q.contents in
      let (low, red) = (lawful_reduced q left.kept left.declared s).0 law in
      let none : n ≡ 0 + n = omega arith in
      let whole : s % 2 ^ (0 + n) ≡ s = ap (λ j. s % 2 ^ j) (sym none) ∙ mod-eq_of_lt low in
      let empty : 0 ≡ s % 2 ^ 0 = omega arith in
      instance_walk s ∙ ap (walk_cells (cells q) s 0) empty
      ∙ walk_own q n 0 s (subst (λ y. Reduced q (0 + n) [] y) (sym whole) (subst (λ j. Reduced q j [] s) none red)) ∙ whole

  listed_lawful : (x : ℕ) → listed ms bytes x ≡ lawful q x
  listed_lawful x =
      same_from_decides (listed ms bytes x) (lawful q x) (
        λ own. ap (lawful q) (sym (eqb-true (instance_of ms bytes x) x own)) ∙ instance_lawful x,
        λ law. eq-eqb (instance_of ms bytes x) x (instance_own x law),
      )
      (λ h. h, λ h. h)

pub solved_says : (ms bytes : List ℕ) (switches : ℕ) → SolvedSays ms bytes switches
solved_says ms bytes switches q left = (instance_lawful q ms bytes left switches, instance_own q ms bytes left switches)

pub lists_lawful : (ms bytes : List ℕ) → ListsLawful ms bytes
lists_lawful ms bytes q left = filter_agree (listed ms bytes) (lawful q) (listed_lawful q ms bytes left) (line_ups (length ms))
