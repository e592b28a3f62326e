-- Penalties are 0 exactly where rules and pins are met.
use Rattle.std.proofs.Common.{◌≡◌, ℕ, zero, suc, ◌*◌, ◌^◌, ◌<◌, Bool, true, false, not, ◌&&◌, map, ℤ, pos, negsuc, ◌+ℤ◌, ◌-ℤ◌, Some, None, Option, ap, refl, arith}
use Rattle.std.specs.Prelude.{◌↔◌, ◌==◌, ◌≤ℤ◌, int_le, unsigned_abs}
use Rattle.std.specs.List.{AllByRecursion, range_with_len}
use Rattle.std.proofs.lemmas.Int.{ints}
use Rattle.std.proofs.lemmas.Bool.{and_parts, and_from, not_from_false, lt-leb}
use Rattle.std.proofs.lemmas.Bool.Decides.{nat_tests}
use Rattle.terms.specs.Groups.{holds, beyond}
use Rattle.terms.specs.Relations.{meets}
use Rattle.terms.specs.Terms.{worth}
use Rattle.terms.specs.declared.relations.Relation.{Relation}
use Rattle.terms.specs.declared.relations.Relation.TheVariants.{Equal, AtMost, AtLeast}
use Rattle.sheet.specs.Ledger.{LiveRule}
use Rattle.sheet.specs.Limits.{most_spots, rule_numbers}
use Rattle.elimination.specs.Lawful.{Question, spot_count, every, allows, met}
use Rattle.elimination.proofs.Locality.{every_says}
use Rattle.theorems.specs.Equation.{Summand, excess, penalty, rule_penalty, of_rule, of_pin, penalties, bit, PenaltiesSay, SlackSays, WholeSays}
use Rattle.theorems.proofs.Sums.{all_append, all_range, sum_zero_each}

slack : (g : ℤ) → (excess g ≡ 0) ↔ ((y : ℕ) × (g +ℤ pos y ≡ pos 0))
slack (pos n) = ((λ h. (0, ap pos (omega arith))), (λ s. omega (arith, ints)))
slack (negsuc n) = ((λ h. (suc n, omega (arith, ints))), (λ s. refl))

pub slack_says : SlackSays
slack_says bound sum = (slack (sum -ℤ bound), slack (bound -ℤ sum))

excess_at_most : (g : ℤ) → (excess g ≡ 0) ↔ (g ≤ℤ pos 0)
excess_at_most (pos n) = ((λ h. omega (arith, ints)), (λ h. omega (arith, ints)))
excess_at_most (negsuc n) = ((λ h. omega (arith, ints)), (λ h. refl))

-- an inequality between a and b has penalty 0 exactly where it is so
excess_le : (a b : ℤ) → (excess (a -ℤ b) ≡ 0) ↔ (int_le a b ≡ true)
excess_le a b =
    let g = excess_at_most (a -ℤ b) in (
      λ h. let l = g.0 h in grind (arith, ints),
      λ h. g.1 (grind (arith, ints)),
    )

square_zero : (n : ℕ) → (n * n ≡ 0) ↔ ((n == 0) ≡ true)
square_zero zero = ((λ h. refl), (λ h. omega arith))
square_zero (suc n) = ((λ h. absurd (omega arith)), (λ h. grind (arith, nat_tests)))

penalty_met : (relation : Relation) (bound sum : ℤ) → (penalty relation bound sum ≡ 0) ↔ (meets relation bound sum ≡ true)
penalty_met Equal bound sum = square_zero (unsigned_abs (sum -ℤ bound))
penalty_met AtMost bound sum = excess_le sum bound
penalty_met AtLeast bound sum = excess_le bound sum

rule_met : (r : Option LiveRule) (x : ℕ) → (rule_penalty r x ≡ 0) ↔ (met r x ≡ true)
rule_met None x = ((λ h. refl), (λ h. refl))
rule_met (Some r) x = penalty_met r.relation r.bound (worth r.terms x)

pin_met : (b : Bool) → (bit (not b) ≡ 0) ↔ (b ≡ true)
pin_met true = ((λ h. refl), (λ h. refl))
pin_met false = ((λ h. absurd (omega arith)), (λ h. grind arith))

pub penalties_say : PenaltiesSay
penalties_say q x = ((λ number. rule_met (q.contents.rules number) x), (λ i. pin_met (allows q i (holds x i))))

-- what holds of each penalty
pub each_penalty : (P : Summand → Type 0) (q : Question)
    → AllByRecursion P (penalties q) ↔ (((number : ℕ) → number < rule_numbers → P (of_rule q number)) × ((i : ℕ) → i < most_spots → P (of_pin q i)))
unfolding penalties
each_penalty P q =
    let both = all_append P (map (of_rule q) (range_with_len 0 rule_numbers)) (map (of_pin q) (range_with_len 0 most_spots)) in
    let rules = all_range P (of_rule q) rule_numbers 0 in
    let pins = all_range P (of_pin q) most_spots 0 in (
      λ h. let parts = both.0 h in ((λ number l. rules.0 parts.0 number (omega arith) (omega arith)), (λ i l. pins.0 parts.1 i (omega arith) (omega arith))),
      λ h. both.1 (rules.1 (λ number l m. h.0 number (omega arith)), pins.1 (λ i l m. h.1 i (omega arith))),
    )

pub whole_says : WholeSays
whole_says q x h =
    let n = spot_count q.contents in
    let rules = every rule_numbers (λ number. met (q.contents.rules number) x) in
    let pins = every most_spots (λ i. allows q i (holds x i)) in
    let says = penalties_say q x in
    let sum = sum_zero_each x (penalties q) in
    let each = each_penalty (λ f. f.value x ≡ 0) q in
    let all_rules = every_says rule_numbers (λ number. met (q.contents.rules number) x) in
    let all_pins = every_says most_spots (λ i. allows q i (holds x i)) in (
      λ nil.
          let parts = each.0 (sum.0 nil) in
          and_from (not (beyond n x)) (rules && pins) (not_from_false (beyond n x) (lt-leb (2 ^ n) x h))
          (and_from rules pins (all_rules.1 (λ number l. (says.0 number).0 (parts.0 number l))) (all_pins.1 (λ i l. (says.1 i).0 (parts.1 i l)))),
      λ lawful-here.
          let parts = and_parts rules pins (and_parts (not (beyond n x)) (rules && pins) lawful-here).1 in
          sum.1 (each.1 ((λ number l. (says.0 number).1 (all_rules.0 parts.0 number l)), (λ i l. (says.1 i).1 (all_pins.0 parts.1 i l)))),
    )
