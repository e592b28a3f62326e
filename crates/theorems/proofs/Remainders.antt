-- Remainders beside cells: v and w are 0 exactly where in and out are open, and a remainder is 0 exactly where the cells are alive.
use Rattle.std.proofs.Common.{◌≡◌, ℕ, zero, suc, ◌+◌, ◌*◌, ◌^◌, ◌<◌, ◌≤◌, Bool, true, false, not, ◌&&◌, ◌||◌, List, [], ◌∷◌, map, ap, ap₂, refl, ◌∙◌, sym, subst, ◌⊎◌, inl, inr, ⊎_elim, pow-suc, pow_mono, arith}
use Rattle.std.specs.Prelude.{◌↔◌, ◌++◌, filter}
use Rattle.std.specs.List.{AllByRecursion}
use Rattle.std.proofs.lemmas.Nat.{pow_pos}
use Rattle.std.proofs.ByRecursion.{All-weaker}
use Rattle.std.proofs.lemmas.Bool.{and_parts, and_from, both_ways, cases_order, cases_lt, not_from_false, not-true, le-leb}
use Rattle.std.proofs.lemmas.Bool.Decides.{nat_tests}
use Rattle.terms.specs.Groups.{holds, beyond, tops}
use Rattle.sheet.specs.Limits.{most_spots, rule_numbers}
use Rattle.elimination.specs.Lawful.{Question, allows, met}
use Rattle.elimination.specs.Links.{rule_scope, scopes, link_set}
use Rattle.elimination.specs.Codes.{Cells, alive, with_spot, links_of, own_rules_met, leads_alive, is_open, cells_from}
use Rattle.elimination.proofs.Prefixes.{with_below, with_top}
use Rattle.elimination.proofs.Locality.{every_says}
use Rattle.elimination.proofs.Reduction.{Reduced}
use Rattle.theorems.specs.Equation.{Summand, scope_of, sum_at, penalties, u_at, v_at, w_at, remainders_from}
use Rattle.theorems.proofs.Sums.{all_append, sum_zero, ZeroWhere}
use Rattle.theorems.proofs.Penalties.{each_penalty, penalties_say}

-- ---- The scope of a pin's penalty is its spot

pin_tops : (k : ℕ) → tops k (2 ^ k) ≡ true
pin_tops k = grind (arith, nat_tests, pow-suc 2 k, pow_pos k)

pub tops_pin : (k i : ℕ) → tops k (2 ^ i) ≡ true → i ≡ k
tops_pin k i h =
    ⊎_elim (λ e. e) (⊎_elim (λ low. absurd (grind (arith, nat_tests, pow_mono low, pow-suc 2 i, pow_pos i)))
    (λ high. absurd (grind (arith, nat_tests, pow_mono high)))) (cases_order i k)

pin_below : (k i : ℕ) → i < k → beyond k (2 ^ i) ≡ false
pin_below k i l = grind (arith, nat_tests, pow_mono l, pow-suc 2 i, pow_pos i)

pub below_pin : (k i : ℕ) → beyond k (2 ^ i) ≡ false → i < k
below_pin k i h = ⊎_elim (λ l. l) (λ high. absurd (both_ways (beyond k (2 ^ i)) h (le-leb (2 ^ k) (2 ^ i) (pow_mono high)))) (cases_lt i k)

-- ---- Remainders beside cells

-- the same spots, and 0 exactly where the cells are alive, at line-ups of the spots below k
abbrev pub Beside : ℕ → List Summand → List Cells → Type 0
Beside k [] [] = Unit {0}
Beside k (f ∷ fs) (c ∷ cs) = (f.scope ≡ c.links) × ((x : ℕ) → x < 2 ^ k → (f.value x ≡ 0) ↔ (alive c x ≡ true)) × Beside k fs cs
Beside k [] (c ∷ cs) = ⊥
Beside k (f ∷ fs) [] = ⊥

same_scopes : (k : ℕ) (fs : List Summand) (cs : List Cells) → Beside k fs cs → map scope_of fs ≡ map links_of cs
same_scopes k [] [] h = refl
same_scopes k (f ∷ fs) (c ∷ cs) h = ap₂ (λ a b. a ∷ b) h.0 (same_scopes k fs cs h.2)
same_scopes k [] (c ∷ cs) h = absurd h
same_scopes k (f ∷ fs) [] h = absurd h

beside_lower : (k : ℕ) (fs : List Summand) (cs : List Cells) → Beside (suc k) fs cs → Beside k fs cs
beside_lower k [] [] h = tt
beside_lower k (f ∷ fs) (c ∷ cs) h = (h.0, (λ x l. h.1 x (omega (arith, pow-suc 2 k))), beside_lower k fs cs h.2)
beside_lower k [] (c ∷ cs) h = absurd h
beside_lower k (f ∷ fs) [] h = absurd h

guard_says : (t a : Bool) → ((not t || a) ≡ true) ↔ (t ≡ true → a ≡ true)
guard_says true a = ((λ h e. h), (λ h. h refl))
guard_says false a = ((λ h e. absurd (both_ways false refl e)), (λ h. refl))

module _ (k : ℕ) (y : ℕ) (h : y < 2 ^ k) where
  -- the remainders that pass a test are 0 exactly where the cells that do are alive
  remainders_zero : (test : ℕ → Bool) (fs : List Summand) (cs : List Cells) → Beside k fs cs
      → AllByRecursion (ZeroWhere test y) fs ↔ AllByRecursion (λ c. test c.links ≡ true → alive c y ≡ true) cs
  remainders_zero test [] [] b = ((λ h. tt), (λ h. tt))
  remainders_zero test (f ∷ fs) (c ∷ cs) b =
      let rest = remainders_zero test fs cs b.2 in (
        λ nil. ((λ t. (b.1 y h).0 (nil.0 (ap test b.0 ∙ t))), rest.0 nil.1),
        λ live. ((λ t. (b.1 y h).1 (live.0 (sym (ap test b.0) ∙ t))), rest.1 live.1),
      )
  remainders_zero test [] (c ∷ cs) b = absurd b
  remainders_zero test (f ∷ fs) [] b = absurd b

pub leads_say : (k y : ℕ) (cs : List Cells) → (leads_alive cs k y ≡ true) ↔ AllByRecursion (λ c. tops k c.links ≡ true → alive c y ≡ true) cs
leads_say k y [] = ((λ h. tt), (λ h. refl))
leads_say k y (c ∷ cs) =
    let here = guard_says (tops k c.links) (alive c y) in
    let rest = leads_say k y cs in (
      λ h. let parts = and_parts (not (tops k c.links) || alive c y) (leads_alive cs k y) h in (here.0 parts.0, rest.0 parts.1),
      λ h. and_from (not (tops k c.links) || alive c y) (leads_alive cs k y) (here.1 h.0) (rest.1 h.1),
    )

factor_zero : (m n : ℕ) → m * n ≡ 0 → (m ≡ 0) ⊎ (n ≡ 0)
factor_zero zero n h = inl refl
factor_zero (suc m) zero h = inr refl
factor_zero (suc m) (suc n) h = absurd (omega arith)

-- a product is 0 exactly where one of two values is open, each of which is so exactly where its factor is 0
product_alive : (m n : ℕ) (a b : Bool) → (n ≡ 0) ↔ (a ≡ true) → (m ≡ 0) ↔ (b ≡ true) → (m * n ≡ 0) ↔ ((a || b) ≡ true)
product_alive m n true b out in-here = let e = out.1 refl in ((λ h. refl), (λ h. ap (λ z. m * z) e ∙ omega arith))
product_alive m n false true out in-here = let e = in-here.1 refl in ((λ h. refl), (λ h. ap (λ z. z * n) e ∙ omega arith))
product_alive m n false false out in-here = ((λ h. ⊎_elim in-here.0 out.0 (factor_zero m n h)), (λ h. absurd (both_ways false refl h)))

module _ (q : Question) where
  -- the penalties that pass a test are 0 exactly where the rules and pins are met that do
  penalties_zero : (test : ℕ → Bool) (y : ℕ)
      → AllByRecursion (ZeroWhere test y) (penalties q)
      ↔ (((number : ℕ) → number < rule_numbers → test (rule_scope (q.contents.rules number)) ≡ true → met (q.contents.rules number) y ≡ true)
      × ((i : ℕ) → i < most_spots → test (2 ^ i) ≡ true → allows q i (holds y i) ≡ true))
  penalties_zero test y =
      let each = each_penalty (ZeroWhere test y) q in
      let says = penalties_say q y in (
        λ nil.
            let parts = each.0 nil in
            ((λ number l t. (says.0 number).0 (parts.0 number l t)), (λ i l t. (says.1 i).0 (parts.1 i l t))),
        λ held. each.1 ((λ number l t. (says.0 number).1 (held.0 number l t)), (λ i l t. (says.1 i).1 (held.1 i l t))),
      )

  pub own_says : (k y : ℕ) → (own_rules_met q k y ≡ true)
      ↔ ((number : ℕ) → number < rule_numbers → tops k (rule_scope (q.contents.rules number)) ≡ true → met (q.contents.rules number) y ≡ true)
  own_says k y =
      let guard = λ (number : ℕ). guard_says (tops k (rule_scope (q.contents.rules number))) (met (q.contents.rules number) y) in
      let all = every_says rule_numbers (λ number. not (tops k (rule_scope (q.contents.rules number))) || met (q.contents.rules number) y) in (
        λ met-here number l. (guard number).0 (all.0 met-here number l),
        λ each. all.1 (λ number l. (guard number).1 (each number l)),
      )

  module _ (k : ℕ) (few : k < most_spots) (fs : List Summand) (cs : List Cells) (b : Beside (suc k) fs cs) (x : ℕ) (h : x < 2 ^ k) where
    -- with spot k set to a value, u is 0 exactly where the value is open
    pub open_zero : (runs : Bool) → (u_at q k fs (with_spot k x runs) ≡ 0) ↔ (is_open q k cs runs x ≡ true)
    open_zero runs =
        let y = with_spot k x runs in
        let sum = sum_zero (tops k) y (penalties q ++ fs) in
        let both = all_append (ZeroWhere (tops k) y) (penalties q) fs in
        let own = penalties_zero (tops k) y in
        let later = remainders_zero (suc k) y (with_below k x runs h) (tops k) fs cs b in
        let rules = own_says k y in
        let leads = leads_say k y cs in
        let top = with_top k x runs h in (
          λ nil.
              let parts = both.0 (sum.0 nil) in
              let held = own.0 parts.0 in
              and_from (allows q k runs) (own_rules_met q k y && leads_alive cs k y) (sym (ap (allows q k) top) ∙ held.1 k few (pin_tops k))
              (and_from (own_rules_met q k y) (leads_alive cs k y) (rules.1 held.0) (leads.1 (later.0 parts.1))),
          λ open-here.
              let parts = and_parts (allows q k runs) (own_rules_met q k y && leads_alive cs k y) open-here in
              let rest = and_parts (own_rules_met q k y) (leads_alive cs k y) parts.1 in
              sum.1 (both.1 (
                own.1 (
                  rules.0 rest.0,
                  (λ i l t. subst (λ j. allows q j (holds y j) ≡ true) (sym (tops_pin k i t)) (ap (allows q k) top ∙ parts.0)),
                ),
                later.1 (leads.0 rest.1),
              )),
        )

  -- the remainders beside the cells of the same spots
  pub beside : (n k : ℕ) → k + n ≤ most_spots → Beside k (remainders_from q n k) (cells_from q n k)
  beside zero k l = tt
  beside (suc n) k l =
      let fs = remainders_from q n (suc k) in
      let cs = cells_from q n (suc k) in
      let later = beside n (suc k) (omega arith) in (
        ap (link_set (scopes q.contents) k) (same_scopes (suc k) fs cs later),
        λ x h.
            let open-here = open_zero k (omega arith) fs cs later x h in
            product_alive (v_at q k fs x) (w_at q k fs x) (is_open q k cs false x) (is_open q k cs true x) (open-here false) (open-here true),
        beside_lower k fs cs later,
      )

  -- what is left at k is 0 exactly where the rules, pins and cells that look at spots below k alone are met
  pub left_zero : (k : ℕ) (fs : List Summand) (cs : List Cells) → k ≤ most_spots → Beside k fs cs → (x : ℕ) → x < 2 ^ k
      → (sum_at (filter (λ f. not (beyond k f.scope)) (penalties q ++ fs)) x ≡ 0) ↔ Reduced q k cs x
  left_zero k fs cs few b x h =
      let test = λ (g : ℕ). not (beyond k g) in
      let sum = sum_zero test x (penalties q ++ fs) in
      let both = all_append (ZeroWhere test x) (penalties q) fs in
      let own = penalties_zero test x in
      let later = remainders_zero k x h test fs cs b in
      let low = λ (g : ℕ) (t : beyond k g ≡ false). not_from_false (beyond k g) t in (
        λ nil.
            let parts = both.0 (sum.0 nil) in
            let held = own.0 parts.0 in
            record {
              rules = λ number l t. held.0 number l (low (rule_scope (q.contents.rules number)) t);
              pins = λ i l. held.1 i (omega arith) (low (2 ^ i) (pin_below k i l));
              alives = All-weaker (λ c. test c.links ≡ true → alive c x ≡ true) (λ c. beyond k c.links ≡ false → alive c x ≡ true)
                  (λ c live t. live (low c.links t)) cs (later.0 parts.1);
            },
        λ red. sum.1 (both.1 (
          own.1 (
            (λ number l t. red.rules number l (not-true (beyond k (rule_scope (q.contents.rules number))) t)),
            (λ i l t. red.pins i (below_pin k i (not-true (beyond k (2 ^ i)) t))),
          ),
          later.1 (All-weaker (λ c. beyond k c.links ≡ false → alive c x ≡ true) (λ c. test c.links ≡ true → alive c x ≡ true)
              (λ c live t. live (not-true (beyond k c.links) t)) cs red.alives),
        )),
      )
