-- What setting an amount makes of a list of prices in which no group stands twice.
use Rattle.std.proofs.Common.{◌≡◌, ℕ, zero, suc, ◌<◌, Bool, true, false, cond, not, ◌||◌, eqb, ltb, List, [], ◌∷◌, ◌++◌, map, length, get_or, set, is_some, Some, None, filter, sym, refl, ap, ◌∙◌, subst, arith}
use mathlib.Core.Path.{fun_ext}
use Rattle.std.specs.List.{remove, position}
use Rattle.std.proofs.Math.Seq.{map-set_same}
use Rattle.std.proofs.lemmas.List.{map_push}
use Rattle.std.proofs.lemmas.List.Quantifiers.{position-Some}
use Rattle.std.proofs.lemmas.Bool.{cases_Bool, or_parts, eqb-true}
use Rattle.std.proofs.lemmas.Bool.Decides.{nat_tests}
use Rattle.terms.specs.Tests.{any, repeats}
use Rattle.terms.proofs.Searches.{any_map}
use Rattle.terms.proofs.Says.{repeats_false}
use Rattle.sheet.specs.declared.prices.Price.{Price}
use Rattle.sheet.specs.Ledger.{is_for, is_zero, with_amount}
use Rattle.sheet.specs.Limits.{most_prices}
use Rattle.sheet.specs.Layout.{price_group, no_price}
use Rattle.sheet.proofs.Apart.{apart_push, repeats_apart, repeats_kept_by}

module _ {X : Type 0} (f : X → Bool) where
  -- a search finds a place just where some element passes
  pub is_some_position : (xs : List X) → is_some (position f xs) ≡ any f xs
  is_some_position [] = refl
  is_some_position (x ∷ xs) = let rest = is_some_position xs in grind (arith, nat_tests, cases_Bool (f x))

  kept_none : (xs : List X) → any f xs ≡ false → filter (λ x. not (f x)) xs ≡ xs
  kept_none [] none = refl
  kept_none (x ∷ xs) none = let (here, later) = or_parts (f x) (any f xs) none in simp (here, kept_none xs later)

  map_none : (q : X) (xs : List X) → any f xs ≡ false → map (λ x. cond (f x) q x) xs ≡ xs
  map_none q [] none = refl
  map_none q (x ∷ xs) none = let (here, later) = or_parts (f x) (any f xs) none in simp (here, map_none q xs later)

abbrev Apart : List Price → Type 0
Apart ps = repeats (map price_group ps) ≡ false

pub any_group : (g : ℕ) (ps : List Price) → any (eqb g) (map price_group ps) ≡ any (is_for g) ps
any_group g ps =
    let flip : (p : Price) → eqb g p.group ≡ is_for g p = λ p. grind (arith, nat_tests) in
    any_map (eqb g) price_group ps ∙ ap (λ f. any f ps) (fun_ext flip)

later : (p : Price) (ps : List Price) → Apart (p ∷ ps) → Apart ps
later p ps apart = (or_parts (any (eqb p.group) (map price_group ps)) (repeats (map price_group ps)) apart).1

module _ (g : ℕ) where
  -- behind the group's entry there is no other
  alone : (p : Price) (ps : List Price) → is_for g p ≡ true → Apart (p ∷ ps) → any (is_for g) ps ≡ false
  alone p ps own apart =
      sym (any_group g ps)
      ∙ subst (λ n. any (eqb n) (map price_group ps) ≡ false) (eqb-true p.group g own) (or_parts (any (eqb p.group) (map price_group ps)) (repeats (map price_group ps)) apart).0

  -- the first entry of the group stands at a place
  abbrev First : List Price → ℕ → Type 0
  First ps k =
      (k < length ps) × (is_for g (get_or ps k no_price) ≡ true) × ((j : ℕ) → j < k → is_for g (get_or ps j no_price) ≡ false)

  first_later : (p : Price) (ps : List Price) (k : ℕ) → First (p ∷ ps) (suc k) → First ps k
  first_later p ps k (l, own, before) = (omega arith, own, λ j h. before (suc j) (omega arith))

  kept_lone : (ps : List Price) (k : ℕ) → First ps k → Apart ps → filter (λ p. not (is_for g p)) ps ≡ remove ps k
  kept_lone [] k first apart = absurd (omega (arith, first.0))
  kept_lone (p ∷ ps) zero first apart = simp (first.1, kept_none (is_for g) ps (alone p ps first.1 apart))
  kept_lone (p ∷ ps) (suc k) first apart =
      let here = first.2 0 (omega arith) in
      simp (here, kept_lone ps k (first_later p ps k first) (later p ps apart))

  map_lone : (q : Price) (ps : List Price) (k : ℕ) → First ps k → Apart ps → map (λ p. cond (is_for g p) q p) ps ≡ set ps k q
  map_lone q [] k first apart = absurd (omega (arith, first.0))
  map_lone q (p ∷ ps) zero first apart = simp (first.1, map_none (is_for g) q ps (alone p ps first.1 apart))
  map_lone q (p ∷ ps) (suc k) first apart =
      let here = first.2 0 (omega arith) in
      simp (here, map_lone q ps k (first_later p ps k first) (later p ps apart))

module _ (ps : List Price) (p : Price) where
  -- the group has no entry
  module _ (none : None ≡ position (is_for p.group) ps) where
    fresh : any (is_for p.group) ps ≡ false
    fresh = sym (is_some_position (is_for p.group) ps) ∙ ap is_some (sym none)

    pub nothing_dropped : is_zero p.amount ≡ true → ps ≡ with_amount ps p.amount p.group
    nothing_dropped zero' = rw zero' (sym (kept_none (is_for p.group) ps fresh))

    pub entry_added : is_zero p.amount ≡ false → ps ++ p ∷ [] ≡ with_amount ps p.amount p.group
    entry_added some = rw (some, fresh) refl

    pub room_left : (ltb (length ps) most_prices || (any (is_for p.group) ps || is_zero p.amount)) ≡ true → is_zero p.amount ≡ false
        → length ps < most_prices
    room_left room some = grind (arith, nat_tests, fresh)

    pub apart_added : Apart ps → Apart (ps ++ p ∷ [])
    apart_added apart =
        let groups = map price_group ps in
        repeats_apart (map price_group (ps ++ p ∷ []))
        (rw map_push (apart_push groups p.group (any_group p.group ps ∙ fresh) (repeats_false groups apart)))

  -- the group has an entry at the place
  module _ (k : ℕ) (at : Some k ≡ position (is_for p.group) ps) (apart : Apart ps) where
    first : First p.group ps k
    first = position-Some (is_for p.group) ps k no_price (sym at)

    listed : any (is_for p.group) ps ≡ true
    listed = sym (is_some_position (is_for p.group) ps) ∙ ap is_some (sym at)

    pub entry_dropped : is_zero p.amount ≡ true → remove ps k ≡ with_amount ps p.amount p.group
    entry_dropped zero' = rw zero' (sym (kept_lone p.group ps k first apart))

    pub entry_changed : is_zero p.amount ≡ false → set ps k p ≡ with_amount ps p.amount p.group
    entry_changed some = rw (some, listed) (sym (map_lone p.group p ps k first apart))

    pub apart_dropped : Apart (remove ps k)
    apart_dropped = rw (← kept_lone p.group ps k first apart) (repeats_kept_by price_group (λ q. not (is_for p.group q)) ps apart)

    pub apart_changed : Apart (set ps k p)
    apart_changed =
        ap repeats (map-set_same price_group ps k p no_price (sym (eqb-true (get_or ps k no_price).group p.group first.1))) ∙ apart
