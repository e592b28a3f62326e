-- Eliminating one spot takes u out of what is left, and puts v · w in its place.
use Rattle.std.proofs.Common.{◌≡◌, ℕ, suc, ◌+◌, ◌-◌, ◌*◌, ◌%◌, ◌^◌, ◌<◌, ◌≤◌, Bool, true, false, cond, not, ◌&&◌, List, [], ◌∷◌, ◌++◌, map, filter, refl, ap, ◌∙◌, sym, subst, pow-suc, arith}
use Rattle.std.proofs.ByRecursion.{All-weaker}
use Rattle.std.proofs.lemmas.Nat.{pow_pos, mod_below}
use Rattle.std.proofs.lemmas.Bool.{both_ways, not-true, lt-leb}
use Rattle.std.proofs.lemmas.Bool.Decides.{nat_tests}
use Rattle.terms.specs.Groups.{beyond, tops}
use Rattle.terms.proofs.Says.{holds_mod, beyond_false}
use Rattle.sheet.specs.Limits.{most_spots}
use Rattle.elimination.specs.Lawful.{Question, spot_count, allows}
use Rattle.elimination.specs.Links.{rule_scope, scopes}
use Rattle.elimination.proofs.Prefixes.{Agree}
use Rattle.elimination.proofs.LinkSets.{link_set_lower}
use Rattle.theorems.specs.Equation.{Summand, scope_of, bit, sum_at, penalties, remainder_at, remainders_from, u_at, v_at, w_at, left, StepsSay}
use Rattle.theorems.proofs.Sums.{all_append, kept, sum_same}
use Rattle.theorems.proofs.Penalties.{each_penalty}
use Rattle.theorems.proofs.Remainders.{below_pin}
use Rattle.theorems.proofs.Scopes.{Local, rule_agrees, remainders_local}
use Rattle.theorems.proofs.Places.{remainders_at}

-- the sum of the functions that look at spots below k alone
abbrev low_sum : ℕ → List Summand → ℕ → ℕ
low_sum k fs x = sum_at (filter (λ f. not (beyond k f.scope)) fs) x

-- the sum of the functions whose highest spot is k
abbrev top_sum : ℕ → List Summand → ℕ → ℕ
top_sum k fs x = sum_at (filter (λ f. tops k f.scope) fs) x

parted : (a b : Bool) (n : ℕ) → (b ≡ true → a ≡ true) → cond (not b) n 0 ≡ cond (not a) n 0 + cond (a && not b) n 0
parted true true n h = refl
parted true false n h = omega arith
parted false true n h = absurd (both_ways true (sym (h refl)) refl)
parted false false n h = omega arith

-- functions of the spots up to k look at lower spots alone, or have their highest spot there
low_and_top : (k x : ℕ) (fs : List Summand) → low_sum (suc k) fs x ≡ low_sum k fs x + top_sum k fs x
low_and_top k x [] = refl
low_and_top k x (f ∷ fs) =
    let rest = low_and_top k x fs in
    let one = kept (not (beyond (suc k) f.scope)) f (filter (λ f. not (beyond (suc k) f.scope)) fs) x in
    let two = kept (not (beyond k f.scope)) f (filter (λ f. not (beyond k f.scope)) fs) x in
    let three = kept (tops k f.scope) f (filter (λ f. tops k f.scope) fs) x in
    let here = parted (beyond k f.scope) (beyond (suc k) f.scope) (f.value x) (λ h. grind (arith, nat_tests, pow-suc 2 k)) in
    omega arith

low_append : (k x : ℕ) (fs gs : List Summand) → low_sum k (fs ++ gs) x ≡ low_sum k fs x + low_sum k gs x
low_append k x [] gs = omega arith
low_append k x (f ∷ fs) gs =
    let rest = low_append k x fs gs in
    let one = kept (not (beyond k f.scope)) f (filter (λ f. not (beyond k f.scope)) (fs ++ gs)) x in
    let two = kept (not (beyond k f.scope)) f (filter (λ f. not (beyond k f.scope)) fs) x in
    omega arith

-- one of them in the middle
low_middle : (k x : ℕ) (fs : List Summand) (f : Summand) (gs : List Summand) → beyond k f.scope ≡ false
    → low_sum k (fs ++ f ∷ gs) x ≡ low_sum k (fs ++ gs) x + f.value x
low_middle k x fs f gs low =
    let one = low_append k x fs (f ∷ gs) in
    let two = low_append k x fs gs in
    let three = kept (not (beyond k f.scope)) f (filter (λ f. not (beyond k f.scope)) gs) x in
    let here : cond (not (beyond k f.scope)) (f.value x) 0 ≡ f.value x = ap (λ b. cond (not b) (f.value x) 0) low in
    omega arith

agree_prefix : (k g y : ℕ) → beyond k g ≡ false → Agree g y (y % 2 ^ k)
agree_prefix k g y low i on = sym (holds_mod k y i (beyond_false k g low i on))

module _ (q : Question) (k m : ℕ) (few : suc k + m ≤ most_spots) (y : ℕ) (h : y < 2 ^ suc k) where
  abbrev Same : Summand → Type 0
  Same f = not (beyond k f.scope) ≡ true → f.value y ≡ f.value (y % 2 ^ k)

  low_same : low_sum k (penalties q ++ remainders_from q m (suc k)) y ≡ low_sum k (penalties q ++ remainders_from q m (suc k)) (y % 2 ^ k)
  low_same =
      let x = y % 2 ^ k in
      let fs = remainders_from q m (suc k) in
      let below = mod_below y (2 ^ k) (pow_pos k) in
      let own = (each_penalty Same q).1 (
        (λ number l t. rule_agrees (q.contents.rules number) y x (agree_prefix k (rule_scope (q.contents.rules number)) y (not-true (beyond k (rule_scope (q.contents.rules number))) t))),
        (λ i l t. ap (λ on. bit (not (allows q i on))) (sym (holds_mod k y i (below_pin k i (not-true (beyond k (2 ^ i)) t))))),
      ) in
      let later = All-weaker (Local (suc k)) Same
      (λ f loc t. loc y x h (omega (arith, pow-suc 2 k)) (agree_prefix k f.scope y (not-true (beyond k f.scope) t))) fs (remainders_local q m (suc k) few) in
      sum_same (λ g. not (beyond k g)) y x (penalties q ++ fs) ((all_append Same (penalties q) fs).1 (own, later))

  step : low_sum k (penalties q ++ remainder_at q k (remainders_from q m (suc k)) ∷ remainders_from q m (suc k)) (y % 2 ^ k) + u_at q k (remainders_from q m (suc k)) y
      ≡ low_sum (suc k) (penalties q ++ remainders_from q m (suc k)) y + (remainder_at q k (remainders_from q m (suc k))).value (y % 2 ^ k)
  step =
      let fs = remainders_from q m (suc k) in
      let f = remainder_at q k fs in
      let middle = low_middle k (y % 2 ^ k) (penalties q) f fs (lt-leb (2 ^ k) f.scope (link_set_lower (scopes q.contents) k (map scope_of fs))) in
      let parts = low_and_top k y (penalties q ++ fs) in
      let same = low_same in
      omega arith

pub steps_say : StepsSay
steps_say q proper i y l h =
    let m = spot_count q.contents - suc i in
    let x = y % 2 ^ i in
    let few : suc i + m ≤ most_spots = omega (arith, proper.0.0.0) in
    subst (λ later. left q i x + u_at q i later y ≡ low_sum (suc i) (penalties q ++ later) y + v_at q i later x * w_at q i later x)
    (sym (remainders_at q (suc i) m (omega arith)))
    (ap (λ fs. low_sum i (penalties q ++ fs) x + u_at q i (remainders_from q m (suc i)) y) (remainders_at q i (suc m) (omega arith)) ∙ step q i m few y h)
