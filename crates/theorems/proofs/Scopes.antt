-- v and w look at the spot's link set alone.
use Rattle.std.proofs.Common.{◌≡◌, ℕ, zero, suc, ◌+◌, ◌-◌, ◌*◌, ◌^◌, ◌<◌, ◌≤◌, Bool, true, false, not, List, [], ◌∷◌, ◌++◌, Some, None, Option, refl, ap, ap₂, ◌∙◌, sym, subst, pow-suc, arith}
use Rattle.std.specs.List.{AllByRecursion}
use Rattle.std.proofs.ByRecursion.{All-weaker}
use Rattle.terms.specs.Groups.{holds, tops}
use Rattle.terms.proofs.Agree.{worth_agrees}
use Rattle.sheet.specs.Ledger.{LiveRule}
use Rattle.sheet.specs.Limits.{most_spots}
use Rattle.elimination.specs.Lawful.{Question, spot_count, allows}
use Rattle.elimination.specs.Links.{rule_scope}
use Rattle.elimination.specs.Codes.{Cells, links_of, with_spot, cells_at, cells_from}
use Rattle.elimination.proofs.Prefixes.{Agree, with_below, with_top, agree_with}
use Rattle.elimination.proofs.Locality.{rule_linked, cells_linked}
use Rattle.theorems.specs.Equation.{Summand, bit, penalty, rule_penalty, penalties, u_at, v_at, w_at, remainders_from, LinksSay}
use Rattle.theorems.proofs.Sums.{all_append, sum_same}
use Rattle.theorems.proofs.Penalties.{each_penalty}
use Rattle.theorems.proofs.Remainders.{Beside, beside, tops_pin}
use Rattle.theorems.proofs.Places.{scopes_of_remainders, remainders_at, cells_of_is, link_set_of, spots_above}

pub rule_agrees : (r : Option LiveRule) (x y : ℕ) → Agree (rule_scope r) x y → rule_penalty r x ≡ rule_penalty r y
rule_agrees None x y same = refl
rule_agrees (Some r) x y same = ap (penalty r.relation r.bound) (worth_agrees r.terms x y same)

-- a function looks at its scope alone, at line-ups of the spots below k
abbrev pub Local : ℕ → Summand → Type 0
Local k f = (x y : ℕ) → x < 2 ^ k → y < 2 ^ k → Agree f.scope x y → f.value x ≡ f.value y

-- the lower spots of a group whose highest spot is k are spots of m
abbrev Linked : ℕ → ℕ → ℕ → Type 0
Linked k m g = tops k g ≡ true → (i : ℕ) → i < k → holds g i ≡ true → holds m i ≡ true

linked_too : (k m j : ℕ) (fs : List Summand) (cs : List Cells) → Beside j fs cs → AllByRecursion (λ c. Linked k m c.links) cs
    → AllByRecursion (λ f. Linked k m f.scope) fs
linked_too k m j [] [] b h = tt
linked_too k m j (f ∷ fs) (c ∷ cs) b h = (subst (Linked k m) (sym b.0) h.0, linked_too k m j fs cs b.2 h.1)
linked_too k m j [] (c ∷ cs) b h = absurd b
linked_too k m j (f ∷ fs) [] b h = absurd b

module _ (q : Question) (k : ℕ) (fs : List Summand) (cs : List Cells) (b : Beside (suc k) fs cs) (local : AllByRecursion (Local (suc k)) fs)
    (x y : ℕ) (hx : x < 2 ^ k) (hy : y < 2 ^ k) (same : Agree (cells_at q k cs).links x y) (runs : Bool) where
  abbrev Same : Summand → Type 0
  Same f = tops k f.scope ≡ true → f.value (with_spot k x runs) ≡ f.value (with_spot k y runs)

  later_same : (gs : List Summand) → AllByRecursion (Local (suc k)) gs → AllByRecursion (λ f. Linked k (cells_at q k cs).links f.scope) gs
      → AllByRecursion Same gs
  later_same [] loc linked = tt
  later_same (f ∷ gs) loc linked = (
    λ top. loc.0 (with_spot k x runs) (with_spot k y runs) (with_below k x runs hx) (with_below k y runs hy)
        (agree_with k f.scope (cells_at q k cs).links x y runs hx hy top (linked.0 top) same),
    later_same gs loc.1 linked.1,
  )

  u_agrees : u_at q k fs (with_spot k x runs) ≡ u_at q k fs (with_spot k y runs)
  u_agrees =
      let m = (cells_at q k cs).links in
      let r : ℕ → Option LiveRule = q.contents.rules in
      let at = λ (z : ℕ). with_spot k z runs in
      let own = (each_penalty Same q).1 (
        (λ number l top. rule_agrees (r number) (at x) (at y) (agree_with k (rule_scope (r number)) m x y runs hx hy top (rule_linked q k cs number l top) same)),
        (λ i l top. ap (λ on. bit (not (allows q i on)))
            (subst (λ j. holds (at x) j ≡ holds (at y) j) (sym (tops_pin k i top)) (with_top k x runs hx ∙ sym (with_top k y runs hy)))),
      ) in
      let later = later_same fs local (linked_too k m (suc k) fs cs b (cells_linked q k cs)) in
      sum_same (tops k) (at x) (at y) (penalties q ++ fs) ((all_append Same (penalties q) fs).1 (own, later))

remainder_local : (q : Question) (k : ℕ) (fs : List Summand) (cs : List Cells) → Beside (suc k) fs cs → AllByRecursion (Local (suc k)) fs
    → (x y : ℕ) → x < 2 ^ k → y < 2 ^ k → Agree (cells_at q k cs).links x y → (v_at q k fs x ≡ v_at q k fs y) × (w_at q k fs x ≡ w_at q k fs y)
remainder_local q k fs cs b local x y hx hy same = (u_agrees q k fs cs b local x y hx hy same true, u_agrees q k fs cs b local x y hx hy same false)

pub remainders_local : (q : Question) (n k : ℕ) → k + n ≤ most_spots → AllByRecursion (Local k) (remainders_from q n k)
remainders_local q zero k few = tt
remainders_local q (suc n) k few =
    let fs = remainders_from q n (suc k) in
    let cs = cells_from q n (suc k) in
    let b = beside q n (suc k) (omega arith) in
    let later = remainders_local q n (suc k) (omega arith) in (
      λ x y hx hy same.
          let linked = (beside q (suc n) k few).0 in
          let parts = remainder_local q k fs cs b later x y hx hy (subst (λ m. Agree m x y) linked same) in
          ap₂ (λ m n. m * n) parts.0 parts.1,
      All-weaker (Local (suc k)) (Local k) (λ f loc x y hx hy. loc x y (omega (arith, pow-suc 2 k)) (omega (arith, pow-suc 2 k))) fs later,
    )

pub links_say : LinksSay
links_say q proper = (
  scopes_of_remainders q (spot_count q.contents) 0,
  λ i x y l hx hy same.
      let m = spot_count q.contents - suc i in
      let e = spots_above (spot_count q.contents) i l in
      let few : suc i + m ≤ most_spots = omega (arith, proper.0.0.0) in
      let fs = remainders_from q m (suc i) in
      let cs = cells_from q m (suc i) in
      let there = subst (λ g. Agree g x y) (link_set_of q i ∙ ap links_of (cells_of_is q i m e)) same in
      subst (λ later. (v_at q i later x ≡ v_at q i later y) × (w_at q i later x ≡ w_at q i later y)) (sym (remainders_at q (suc i) m (omega arith)))
      (remainder_local q i fs cs (beside q m (suc i) few) (remainders_local q m (suc i) few) x y hx hy there),
)
