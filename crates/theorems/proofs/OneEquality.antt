-- A spot that is judged by one equality alone.
use Rattle.std.proofs.Common.{◌≡◌, ℕ, suc, ◌+◌, ◌-◌, ◌<◌, Bool, true, false, ◌&&◌, get_or, ap, ◌∙◌, sym, subst, arith}
use Rattle.std.specs.Prelude.{◌↔◌, ◌==◌, ℤ, pos, negsuc, ◌+ℤ◌, ◌-ℤ◌, unsigned_abs}
use Rattle.std.specs.List.{AllByRecursion}
use Rattle.std.proofs.ByRecursion.{All-from_get_or}
use Rattle.std.proofs.lemmas.Int.{ints}
use Rattle.std.proofs.lemmas.Bool.{and_parts, and_from, both_ways, eqb-true}
use Rattle.std.proofs.lemmas.Bool.Decides.{nat_tests}
use Rattle.terms.specs.Groups.{tops}
use Rattle.terms.specs.Terms.{worth}
use Rattle.terms.specs.Relations.{meets}
use Rattle.terms.specs.declared.relations.Relation.{Relation}
use Rattle.terms.specs.declared.relations.Relation.TheVariants.{Equal}
use Rattle.terms.proofs.Says.{holds_beyond}
use Rattle.sheet.specs.Ledger.{LiveRule}
use Rattle.elimination.specs.Lawful.{Question, spot_count, allows, met}
use Rattle.elimination.specs.Links.{rule_scope, link_sets}
use Rattle.elimination.specs.Codes.{links_of, alive, with_spot, own_rules_met, leads_alive, cells_from}
use Rattle.theorems.specs.Equation.{OnlyEquality, cells_of, no_cells, d, r, EqualitySays}
use Rattle.theorems.proofs.Remainders.{own_says, leads_say}
use Rattle.theorems.proofs.Linear.{linear_in, linear_out}
use Rattle.theorems.proofs.Places.{cells_of_is, cells_there, length-cells_from, spots_above, link_set_of}

abs_zero : (g : ℤ) → ((unsigned_abs g == 0) ≡ true) ↔ (g ≡ pos 0)
abs_zero (pos n) = ((λ h. ap pos (eqb-true n 0 h)), (λ h. let e : n ≡ 0 = omega (arith, ints) in grind (arith, nat_tests)))
abs_zero (negsuc n) = ((λ h. absurd (omega (arith, eqb-true (suc n) 0 h))), (λ h. absurd (omega (arith, ints))))

equal_met : (relation : Relation) (bound sum g : ℤ) → relation ≡ Equal → sum -ℤ bound ≡ g → (meets relation bound sum ≡ true) ↔ (g ≡ pos 0)
equal_met relation bound sum g e same =
    subst (λ k. (meets k bound sum ≡ true) ↔ (g ≡ pos 0)) (sym e)
    (subst (λ h. ((unsigned_abs (sum -ℤ bound) == 0) ≡ true) ↔ (h ≡ pos 0)) same (abs_zero (sum -ℤ bound)))

module _ (q : Question) (i : ℕ) (rule : LiveRule) (declared : i < spot_count q.contents) (only : OnlyEquality q i rule) where
  -- no cells of higher spots look at spot i as their highest
  none_lead : (y : ℕ) → AllByRecursion (λ c. tops i c.links ≡ true → alive c y ≡ true) (cells_from q (spot_count q.contents - suc i) (suc i))
  none_lead y =
      let cs = cells_from q (spot_count q.contents - suc i) (suc i) in
      All-from_get_or (λ c. tops i c.links ≡ true → alive c y ≡ true) cs no_cells (λ j l top.
      let m = spot_count q.contents - suc i in
      let there : get_or cs j no_cells ≡ cells_of q (suc i + j) = cells_there q (suc i) m j (omega arith) in
      let off = only.not_led_to (suc i + j) (omega arith) (omega (arith, length-cells_from q m (suc i))) in
      let same : (get_or cs j no_cells).links ≡ get_or (link_sets q.contents) (suc i + j) 0 = ap links_of there ∙ sym (link_set_of q (suc i + j)) in
      absurd (both_ways (tops i (get_or cs j no_cells).links) (ap (tops i) same ∙ off) top))

  only_own : (y : ℕ) → (own_rules_met q i y ≡ true) ↔ (meets rule.relation rule.bound (worth rule.terms y) ≡ true)
  only_own y =
      let says = own_says q i y in
      let here = ap (λ r. met r y) only.live in (
        λ own. sym here ∙ says.0 own only.number only.numbered (ap (λ r. tops i (rule_scope r)) only.live ∙ only.highest),
        λ held. says.1 (λ other l top. subst (λ k. met (q.contents.rules k) y ≡ true) (sym (only.alone other l top)) (here ∙ held)),
      )

  -- a value is open exactly where the sum with it is the bound
  open_equal : (runs : Bool) (x : ℕ) (g : ℤ) → worth rule.terms (with_spot i x runs) -ℤ rule.bound ≡ g → ((cells_of q i).opens runs x ≡ true) ↔ (g ≡ pos 0)
  open_equal runs x g same =
      let m = spot_count q.contents - suc i in
      let cs = cells_from q m (suc i) in
      let y = with_spot i x runs in
      let own = only_own y in
      let met-here = equal_met rule.relation rule.bound (worth rule.terms y) g only.equality same in
      subst (λ c. (c.opens runs x ≡ true) ↔ (g ≡ pos 0)) (sym (cells_of_is q i m (spots_above (spot_count q.contents) i declared))) (
        λ open-here.
            let rest = and_parts (allows q i runs) (own_rules_met q i y && leads_alive cs i y) open-here in
            met-here.0 (own.0 (and_parts (own_rules_met q i y) (leads_alive cs i y) rest.1).0),
        λ zeroed. and_from (allows q i runs) (own_rules_met q i y && leads_alive cs i y) (only.unpinned runs)
            (and_from (own_rules_met q i y) (leads_alive cs i y) (own.1 (met-here.1 zeroed)) ((leads_say i y cs).1 (none_lead y))),
      )

pub equality_says : EqualitySays
equality_says q i rule declared only x h =
    let out = holds_beyond i x i h (omega arith) in (
      open_equal q i rule declared only false x (r rule i x) (linear_out rule i x out),
      open_equal q i rule declared only true x (d rule i x +ℤ r rule i x) (linear_in rule i x out),
    )
