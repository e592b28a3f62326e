-- What a change of one amount leaves of the prices that every sheet keeps.
use Rattle.std.proofs.Common.{◌≡◌, ℕ, ◌<◌, ◌≤◌, Bool, false, cond, not, List, [], ◌∷◌, ◌++◌, map, length, ℤ, nat_abs, filter, refl, ◌∙◌, subst, arith}
use Rattle.std.specs.List.{AllByRecursion}
use Rattle.std.proofs.ByRecursion.{All-get_or, All-from_get_or, all_kept_by, All-map, All-weaker, All-push}
use Rattle.std.proofs.lemmas.List.{length-map, length_push, map_push}
use Rattle.std.proofs.lemmas.List.Sums.{length-filter, count_by-le-length}
use Rattle.std.proofs.lemmas.Bool.{cond_both, eqb-true, eqb-false}
use Rattle.std.proofs.lemmas.Bool.Decides.{nat_tests}
use Rattle.terms.specs.Tests.{any}
use Rattle.terms.proofs.Says.{beyond_false}
use Rattle.sheet.specs.declared.prices.Price.{Price}
use Rattle.sheet.specs.Ledger.{Ledger, spots, is_for, is_zero, with_amount, price_of}
use Rattle.sheet.specs.Limits.{most_prices}
use Rattle.sheet.specs.Layout.{price_group, no_price}
use Rattle.sheet.specs.Kept.{Apart, KeptPrice, KeptPrices}
use Rattle.sheet.proofs.Accepted.{FitPrice}
use Rattle.sheet.proofs.Apart.{apart_push, apart_kept_by}
use Rattle.sheet.proofs.PriceLists.{any_group}

-- the new price in place of the old one of its group, and any other price as it is
abbrev changed : Price → Price → Price
changed new p = cond (is_for new.group p) new p

groups_changed : (new : Price) (ps : List Price) → map price_group ps ≡ map price_group (map (changed new) ps)
groups_changed new [] = refl
groups_changed new (p ∷ ps) =
    let rest = groups_changed new ps in
    let here = cond_both (is_for new.group p) new p (λ q. p.group ≡ q.group) (eqb-true p.group new.group) (λ _. refl) in
    cc

kept_list : (n : ℕ) (ps : List Price) → length ps ≤ most_prices → AllByRecursion (KeptPrice n) ps → Apart (map price_group ps) → KeptPrices n ps
kept_list n ps short all apart = (short, λ k h. All-get_or (KeptPrice n) ps k no_price h all, apart)

module _ (n : ℕ) (ps : List Price) (old : KeptPrices n ps) where
  each : AllByRecursion (KeptPrice n) ps
  each = All-from_get_or (KeptPrice n) ps no_price old.1

  kept_filtered : (test : Price → Bool) → KeptPrices n (filter test ps)
  kept_filtered test =
      kept_list n (filter test ps) (omega (arith, length-filter test ps, count_by-le-length test ps))
      (all_kept_by test (KeptPrice n) ps each) (apart_kept_by price_group test ps old.2)

  module _ (new : Price) (kept : KeptPrice n new) where
    each_changed : AllByRecursion (λ p. KeptPrice n (changed new p)) ps
    each_changed =
        All-weaker (KeptPrice n) (λ p. KeptPrice n (changed new p))
        (λ p h. cond_both (is_for new.group p) new p (KeptPrice n) (λ _. kept) (λ _. h)) ps each

    kept_changed : KeptPrices n (map (changed new) ps)
    kept_changed =
        kept_list n (map (changed new) ps) (omega (arith, length-map ps (changed new)))
        (All-map (KeptPrice n) (changed new) ps each_changed) (subst Apart (groups_changed new ps) old.2)

    kept_pushed : length ps < most_prices → any (is_for new.group) ps ≡ false → KeptPrices n (ps ++ new ∷ [])
    kept_pushed room fresh =
        kept_list n (ps ++ new ∷ []) (omega (arith, length_push ps new)) (All-push (KeptPrice n) ps new each kept)
        (rw map_push (apart_push (map price_group ps) new.group (any_group new.group ps ∙ fresh) old.2))

    kept_set : (any (is_for new.group) ps ≡ false → length ps < most_prices)
        → KeptPrices n (cond (any (is_for new.group) ps) (map (changed new) ps) (ps ++ new ∷ []))
    kept_set room =
        cond_both (any (is_for new.group) ps) _ _ (KeptPrices n) (λ _. kept_changed) (λ fresh. kept_pushed (room fresh) fresh)

kept_new : (l : Ledger) (amount : ℤ) (group : ℕ) → FitPrice l amount group → is_zero amount ≡ false
    → KeptPrice (spots l) (price_of amount group)
kept_new l amount group fit some =
    let spot = eqb-false group 0 fit.spotted in
    let one = eqb-false (nat_abs amount) 0 some in
    (omega arith, fit.sized, (omega arith, beyond_false (spots l) group fit.on_sheet), fit.few)

pub kept_amount : (l : Ledger) (amount : ℤ) (group : ℕ) → KeptPrices (spots l) l.contents.prices → FitPrice l amount group
    → KeptPrices (spots l) (with_amount l.contents.prices amount group)
kept_amount l amount group old fit =
    let ps = l.contents.prices in
    cond_both (is_zero amount) _ _ (KeptPrices (spots l)) (λ _. kept_filtered (spots l) ps old (λ p. not (is_for group p)))
    (λ some. kept_set (spots l) ps old (price_of amount group) (kept_new l amount group fit some) (λ fresh. grind (arith, nat_tests)))
