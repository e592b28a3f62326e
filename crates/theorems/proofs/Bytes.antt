-- Where the byte of a cell stands in the choice table.
use Rattle.std.proofs.Common.{◌≡◌, ℕ, zero, suc, ◌+◌, ◌-◌, ◌^◌, ◌<◌, ◌≤◌, List, [], ◌∷◌, ◌++◌, map, get_or, take, drop, refl, ap, ◌∙◌, sym, subst, arith}
use Rattle.std.specs.List.{flat_map}
use Rattle.std.proofs.lemmas.List.{get_or-drop, drop_at, drop_more, drop-drop}
use Rattle.terms.specs.Groups.{size}
use Rattle.terms.specs.Packing.{packed}
use Rattle.elimination.specs.Lawful.{Question, spot_count}
use Rattle.elimination.specs.Links.{scopes, link_sets, need}
use Rattle.elimination.specs.Codes.{Cells, links_of, spot_codes, cells_from, cells, codes}
use Rattle.elimination.proofs.Locality.{Local, cells_local}
use Rattle.elimination.proofs.LinkSets.{link_set_lower, links_of_cells}
use Rattle.elimination.proofs.ChoiceTables.{length_spot_codes, spot_byte}
use Rattle.theorems.specs.Equation.{cells_of, no_cells, BytesSay}
use Rattle.theorems.proofs.Places.{length-cells_from, cells_of_is, link_set_of, spots_above}

-- behind the cells of the first spots
bytes_behind : (cs : List Cells) (i : ℕ) → drop (need (take i (map links_of cs))) (flat_map spot_codes cs) ≡ flat_map spot_codes (drop i cs)
bytes_behind cs zero = refl
bytes_behind [] (suc i) = refl
bytes_behind (c ∷ cs) (suc i) =
    sym (drop-drop (need (take i (map links_of cs))) (2 ^ size c.links) (spot_codes c ++ flat_map spot_codes cs))
    ∙ ap (drop (need (take i (map links_of cs)))) (drop_at (spot_codes c) (flat_map spot_codes cs) (2 ^ size c.links) (length_spot_codes c))
    ∙ bytes_behind cs i

module _ (q : Question) (i : ℕ) (l : i < spot_count q.contents) where
  local : Local i (cells_of q i)
  local =
      let m = spot_count q.contents - suc i in
      subst (Local i) (sym (cells_of_is q i m (spots_above (spot_count q.contents) i l))) (cells_local q (suc m) i).0

  low : (cells_of q i).links < 2 ^ i
  low =
      let m = spot_count q.contents - suc i in
      subst (λ c. c.links < 2 ^ i) (sym (cells_of_is q i m (spots_above (spot_count q.contents) i l)))
      (link_set_lower (scopes q.contents) i (map links_of (cells_from q m (suc i))))

pub bytes_say : BytesSay
bytes_say q proper i x l h =
    let c = cells_of q i in
    let few : i ≤ 32 = omega (arith, proper.0.0.0) in
    let before = need (take i (link_sets q.contents)) in
    let same = ap (λ ms. need (take i ms)) (sym (links_of_cells q)) in
    let rest = flat_map spot_codes (drop (i + 1) (cells q)) in
    ap (λ m. get_or (codes q) (before + packed m x) 0) (link_set_of q i)
    ∙ sym (get_or-drop before (codes q) (packed c.links x) 0)
    ∙ ap (λ bytes. get_or bytes (packed c.links x) 0)
    (ap (λ n. drop n (codes q)) same ∙ bytes_behind (cells q) i
    ∙ ap (flat_map spot_codes) (drop_more (cells q) i no_cells (omega (arith, length-cells_from q (spot_count q.contents) 0))))
    ∙ spot_byte i c (local q i l) (low q i l) few x h rest
