-- Pieces in a row.
use Rattle.std.proofs.Common.{◌≡◌, ℕ, ◌+◌, true, false, cond, List, [], ◌∷◌, ◌++◌, map, flat_map, codes, decimal, refl, sym, ap, ◌∙◌, append-nil, arith}
use Rattle.std.proofs.lemmas.List.{flat_map_more, map-id, map_push}
use Rattle.std.proofs.lemmas.List.Folds.{flat_map-map}
use Rattle.std.proofs.lemmas.List.FromFn.{filter_of_map_range_with_len_more}
use Rattle.terms.specs.Groups.{holds}
use Rattle.booking_day.specs.Texts.{joined_by, spots_below}

-- the first piece, and each other behind a separator
pub joined_map : {X : Type 0} (f : X → List ℕ) (separator : List ℕ) (x : X) (xs : List X)
    → f x ++ flat_map (λ y. separator ++ f y) xs ≡ joined_by separator (map f (x ∷ xs))
joined_map f separator x xs = ap (λ l. f x ++ l) (sym (flat_map-map (λ y. separator ++ y) f xs))

-- the numbers in a row, with a space between each two
abbrev pub spelled : List ℕ → List ℕ
spelled ns = joined_by (codes " ") (map decimal ns)

-- what stands between the numbers in a row and the next one
abbrev pub gap : List ℕ → List ℕ
gap [] = []
gap (n ∷ ns) = codes " "

spelled_push : (ns : List ℕ) (n : ℕ) → spelled ns ++ (gap ns ++ decimal n) ≡ spelled (ns ++ n ∷ [])
spelled_push [] n = sym (append-nil (decimal n))
spelled_push (m ∷ ns) n =
    flat_map_more (λ y. codes " " ++ y) (decimal m) (map decimal ns) (decimal n)
    ∙ ap (λ l. decimal m ++ flat_map (λ y. codes " " ++ y) l) (sym (map_push decimal ns n))

gap_push : (ns : List ℕ) (n : ℕ) → codes " " ≡ gap (ns ++ n ∷ [])
gap_push [] n = refl
gap_push (m ∷ ns) n = refl

spots_more : (n group : ℕ) → spots_below (n + 1) group ≡ spots_below n group ++ cond (holds group n) (n ∷ []) []
spots_more n group = simp map-id at (filter_of_map_range_with_len_more (holds group) (λ x. x) 0 n n (omega arith))

spots_held : (n group : ℕ) → holds group n ≡ true → spots_below n group ++ n ∷ [] ≡ spots_below (n + 1) group
spots_held n group held = sym (spots_more n group ∙ ap (λ b. spots_below n group ++ cond b (n ∷ []) []) held)

pub spots_same : (n group : ℕ) → holds group n ≡ false → spots_below n group ≡ spots_below (n + 1) group
spots_same n group held = sym (spots_more n group ∙ ap (λ b. spots_below n group ++ cond b (n ∷ []) []) held ∙ append-nil (spots_below n group))

pub spelled_more : (n group : ℕ) → holds group n ≡ true
    → spelled (spots_below n group) ++ (gap (spots_below n group) ++ decimal n) ≡ spelled (spots_below (n + 1) group)
spelled_more n group held = spelled_push (spots_below n group) n ∙ ap spelled (spots_held n group held)

pub gap_more : (n group : ℕ) → holds group n ≡ true → codes " " ≡ gap (spots_below (n + 1) group)
gap_more n group held = gap_push (spots_below n group) n ∙ ap gap (spots_held n group held)
