-- An equality as a linear equation in one spot.
use Rattle.std.proofs.Common.{◌≡◌, ℕ, ◌+◌, ◌-◌, ◌^◌, Bool, true, false, cond, not, List, [], ◌∷◌, map, ap, refl, ◌∙◌, arith}
use Rattle.std.specs.Prelude.{pos, ◌+ℤ◌, ◌-ℤ◌, filter}
use Rattle.std.proofs.lemmas.Int.{ints}
use Rattle.terms.specs.Groups.{holds}
use Rattle.terms.specs.Terms.{term_worth, worth}
use Rattle.terms.specs.declared.polynomials.Term.{Term}
use Rattle.sheet.specs.Ledger.{LiveRule}
use Rattle.elimination.specs.Codes.{with_spot}
use Rattle.theorems.specs.Equation.{factor, others, d, r, LinearSays}
use Rattle.theorems.proofs.OneSpot.{inside_else, inside_in, inside_out}

abbrev lowered : ℕ → Term → Term
lowered i t = record { coefficient = t.coefficient; group = t.group - 2 ^ i }

module _ (i x : ℕ) (out : holds x i ≡ false) where
  step_in : (t : Term) (ts fs os : List Term) (b : Bool) → holds t.group i ≡ b
      → worth ts (x + 2 ^ i) ≡ worth (map (lowered i) fs) x +ℤ worth os x
      → worth (t ∷ ts) (x + 2 ^ i) ≡ worth (map (lowered i) (cond b (t ∷ fs) fs)) x +ℤ worth (cond (not b) (t ∷ os) os) x
  step_in t ts fs os true e rest =
      let here : term_worth t (x + 2 ^ i) ≡ term_worth (lowered i t) x = ap (λ b. cond b t.coefficient (pos 0)) (inside_in i t.group x out e) in
      omega (arith, ints)
  step_in t ts fs os false e rest =
      let here : term_worth t (x + 2 ^ i) ≡ term_worth t x = ap (λ b. cond b t.coefficient (pos 0)) (inside_else i t.group x out e) in
      omega (arith, ints)

  worth_in : (ts : List Term) → worth ts (x + 2 ^ i) ≡ worth (factor i ts) x +ℤ worth (others i ts) x
  worth_in [] = refl
  worth_in (t ∷ ts) =
      step_in t ts (filter (λ t. holds t.group i) ts) (others i ts) (holds t.group i) refl (worth_in ts)

  step_out : (t : Term) (ts os : List Term) (b : Bool) → holds t.group i ≡ b → worth ts x ≡ worth os x
      → worth (t ∷ ts) x ≡ worth (cond (not b) (t ∷ os) os) x
  step_out t ts os true e rest =
      let here : term_worth t x ≡ pos 0 = ap (λ b. cond b t.coefficient (pos 0)) (inside_out i t.group x out e) in omega (arith, ints)
  step_out t ts os false e rest = ap (λ z. term_worth t x +ℤ z) rest

  worth_out : (ts : List Term) → worth ts x ≡ worth (others i ts) x
  worth_out [] = refl
  worth_out (t ∷ ts) = step_out t ts (others i ts) (holds t.group i) refl (worth_out ts)

pub linear_in : (rule : LiveRule) (i x : ℕ) → holds x i ≡ false → worth rule.terms (with_spot i x true) -ℤ rule.bound ≡ d rule i x +ℤ r rule i x
linear_in rule i x out = let e = worth_in i x out rule.terms in omega (arith, ints)

pub linear_out : (rule : LiveRule) (i x : ℕ) → holds x i ≡ false → worth rule.terms (with_spot i x false) -ℤ rule.bound ≡ r rule i x
linear_out rule i x out =
    let same : x + 0 ≡ x = omega arith in
    ap (λ z. z -ℤ rule.bound) (ap (worth rule.terms) same ∙ worth_out i x out rule.terms)

pub linear_says : LinearSays
linear_says rule i x true out = linear_in rule i x out ∙ omega (arith, ints)
linear_says rule i x false out = linear_out rule i x out ∙ omega (arith, ints)
