-- The table of a rule's terms over the spots that they name.
use Rattle.std.proofs.Common.{◌≡◌, ℕ, zero, suc, ◌*◌, ◌^◌, ◌<◌, ◌≤◌, Bool, true, false, cond, eqb, List, [], ◌∷◌, map, length, get_or, ℤ, pos, ◌+ℤ◌, nat_abs, None, sym, refl, ap, ◌∙◌, subst, ap₂, ⊎_elim, arith}
use borrow.Author.Differences.{ints}
use lib.IntN.{+ℤ_idl, +ℤ_idr}
use Rattle.std.specs.List.{AllByRecursion}
use Rattle.std.proofs.ByRecursion.{All-get_or, All-from_get_or}
use Rattle.std.proofs.lemmas.List.{get_or-map, get_or_past, length-map}
use Rattle.std.proofs.lemmas.List.FromFn.{length-map-range_with_len, fill_by_all}
use Rattle.std.proofs.lemmas.Bool.{cases_lt, cond-true, cond-false, cond_both, eq-eqb, ne_eqb}
use Rattle.terms.specs.declared.polynomials.Term.{Term}
use Rattle.terms.specs.Groups.{inside, size}
use Rattle.terms.specs.Limits.{most_coefficient, most_terms}
use Rattle.tables.specs.Limits.{most_entry, most_table_spots}
use Rattle.tables.specs.NormalForm.{total, HoldsSums, packed_place, HoldsCoefficients, HasTable}
use Rattle.terms.specs.Packing.{packed, packed_terms}
use Rattle.terms.specs.Refusals.{answered, unless}
use Rattle.tables.specs.Tables.{plus, as_terms, values, coefficients, table_refusal, coefficient_in, rule_table}
use Rattle.terms.specs.Terms.{group_of, worth, named, no_term}
use Rattle.tables.proofs.Accepted.{accepted}
use Rattle.tables.proofs.Conversions.{part_near}
use Rattle.tables.proofs.Entries.{get_or_tabulated, sums_inside}
use Rattle.tables.proofs.Inverse.{coefficients_values}
use Rattle.terms.proofs.Packing.{packed_below, inside_packed, packed_onto, packed_apart, inside_named}
use Rattle.tables.proofs.Totals.{total_same, total_none, total_applied, total_only}

-- ---- Sums of coefficients

-- a sum of some of the coefficients, which `test` picks, is not large
picked_near : (f : List Term → ℤ) (test : Term → Bool) → f [] ≡ pos 0
    → ((t : Term) (us : List Term) → f (t ∷ us) ≡ cond (test t) t.coefficient (pos 0) +ℤ f us)
    → (us : List Term) → AllByRecursion (λ t. nat_abs t.coefficient ≤ most_coefficient) us → nat_abs (f us) ≤ length us * most_coefficient
picked_near f test none more [] _ = rw none (omega arith)
picked_near f test none more (t ∷ us) near =
    let first = part_near (test t) most_coefficient t.coefficient near.0 in
    let rest = picked_near f test none more us near.1 in
    rw (more t us) (omega (arith, ints))

-- no coefficient stands where no packed group is
coefficient_none : (m : ℕ) (us : List Term) (g : ℕ) → ((j : ℕ) → j < length us → packed m (get_or us j no_term).group ≡ g → ⊥)
    → coefficient_in (packed_terms m us) g ≡ pos 0
coefficient_none m [] g apart = refl
coefficient_none m (t ∷ us) g apart =
    ap₂ ◌+ℤ◌ (cond-false _ t.coefficient (pos 0) (ne_eqb (packed m t.group) g (apart 0 (omega arith))))
    (coefficient_none m us g (λ j l. apart (suc j) (omega arith)))

-- where the packed groups differ, each coefficient stands at its own
coefficient_only : (m : ℕ) (us : List Term)
    → ((i j : ℕ) → i < j → j < length us → packed m (get_or us i no_term).group ≡ packed m (get_or us j no_term).group → ⊥)
    → (j : ℕ) → j < length us → coefficient_in (packed_terms m us) (packed m (get_or us j no_term).group) ≡ (get_or us j no_term).coefficient
coefficient_only m [] apart j l = absurd (omega arith)
coefficient_only m (t ∷ us) apart zero l =
    let g = packed m t.group in
    ap₂ ◌+ℤ◌ (cond-true (eqb g g) t.coefficient (pos 0) (eq-eqb g g refl))
    (coefficient_none m us g (λ j within same. apart 0 (suc j) (omega arith) (omega arith) (sym same)))
    ∙ +ℤ_idr t.coefficient
coefficient_only m (t ∷ us) apart (suc j) l =
    ap₂ ◌+ℤ◌ (cond-false _ t.coefficient (pos 0) (ne_eqb (packed m t.group) _ (apart 0 (suc j) (omega arith) l)))
    (coefficient_only m us (λ i k h within. apart (suc i) (suc k) (omega arith) (omega arith)) j (omega arith))
    ∙ +ℤ_idl (get_or us j no_term).coefficient

cond_split : (s t : Bool) (z r : ℤ) → cond s (cond t z (pos 0) +ℤ r) (pos 0) ≡ cond t (cond s z (pos 0)) (pos 0) +ℤ cond s r (pos 0)
cond_split true t z r = refl
cond_split false true z r = refl
cond_split false false z r = refl

-- the coefficients at the groups inside a packed line-up come to what the terms are worth at the line-up
total_packed : (m x : ℕ) → m < 2 ^ 32 → (us : List Term) → AllByRecursion (λ t. inside t.group m ≡ true) us
    → total (2 ^ size m) (λ h. cond (inside h (packed m x)) (coefficient_in (packed_terms m us) h) (pos 0)) ≡ worth us x
total_packed m x below [] _ =
    total_none (2 ^ size m) _ (λ h _. cond_both (inside h (packed m x)) (pos 0) (pos 0) (λ z. z ≡ pos 0) (λ _. refl) (λ _. refl))
total_packed m x below (t ∷ us) each =
    let g = packed m t.group in
    let kept : ℕ → ℤ → ℤ = λ h z. cond (inside h (packed m x)) z (pos 0) in
    let first : ℕ → ℤ = λ h. cond (eqb g h) (kept h t.coefficient) (pos 0) in
    let rest : ℕ → ℤ = λ h. kept h (coefficient_in (packed_terms m us) h) in
    let alone = total_only (2 ^ size m) g (λ h. kept h t.coefficient) (packed_below m t.group below) in
    let same = inside_packed m t.group x below each.0 in
    total_same (2 ^ size m) _ (λ h. first h +ℤ rest h)
    (λ h _. cond_split (inside h (packed m x)) (eqb g h) t.coefficient (coefficient_in (packed_terms m us) h))
    ∙ total_applied plus (2 ^ size m) first rest
    ∙ ap₂ ◌+ℤ◌ (alone ∙ ap (λ b. cond b t.coefficient (pos 0)) same) (total_packed m x below us each.1)

-- ---- The table of a rule

table_long : (ts : List Term) → length (rule_table ts) ≡ 2 ^ size (named ts)
table_long ts = length-map-range_with_len (coefficient_in (packed_terms (named ts) ts)) 0 _

table_entry : (ts : List Term) (g : ℕ) → g < 2 ^ size (named ts) → get_or (rule_table ts) g (pos 0) ≡ coefficient_in (packed_terms (named ts) ts) g
table_entry ts = get_or_tabulated _ (coefficient_in (packed_terms (named ts) ts))

module _ (ts : List Term) (below : named ts < 2 ^ 32) where
  holds_coefficients : ((i j : ℕ) → i < j → j < length (map group_of ts) → get_or (map group_of ts) i 0 ≡ get_or (map group_of ts) j 0 → ⊥)
      → HoldsCoefficients ts (rule_table ts)
  holds_coefficients apart = (table_long ts, stands, nothing)
    where
      part : (i : ℕ) → i < length ts → inside (get_or ts i no_term).group (named ts) ≡ true
      part i l = All-get_or (λ t. inside t.group (named ts) ≡ true) ts i no_term l (inside_named ts)

      places : (i j : ℕ) → i < j → j < length ts → packed_place ts i ≡ packed_place ts j → ⊥
      places i j h l same =
          let k : i < length ts = omega arith in
          let alike = packed_apart (named ts) _ _ below (part i k) (part j l) same in
          apart i j h (rw (length-map ts group_of) l) (get_or-map group_of ts i no_term 0 k ∙ alike ∙ sym (get_or-map group_of ts j no_term 0 l))

      stands : (j : ℕ) → j < length ts → get_or (rule_table ts) (packed_place ts j) (pos 0) ≡ (get_or ts j no_term).coefficient
      stands j l = table_entry ts (packed_place ts j) (packed_below (named ts) _ below) ∙ coefficient_only (named ts) ts places j l

      nothing : (g : ℕ) → ((j : ℕ) → j < length ts → packed_place ts j ≡ g → ⊥) → get_or (rule_table ts) g (pos 0) ≡ pos 0
      nothing g none =
          ⊎_elim (λ l. table_entry ts g l ∙ coefficient_none (named ts) ts g none) (λ l. get_or_past (rule_table ts) g (pos 0) (rw (table_long ts) l))
          (cases_lt g (2 ^ size (named ts)))

  -- at a packed line-up the table is worth what the terms are worth at the line-up
  worth_table : (x : ℕ) → worth (as_terms (rule_table ts)) (packed (named ts) x) ≡ worth ts x
  worth_table x =
      let kept : ℕ → ℤ → ℤ = λ h z. cond (inside h (packed (named ts) x)) z (pos 0) in
      sums_inside (rule_table ts) (packed (named ts) x)
      ∙ ap (λ n. total n (λ h. kept h (get_or (rule_table ts) h (pos 0)))) (table_long ts)
      ∙ total_same _ _ _ (λ h l. ap (kept h) (table_entry ts h l))
      ∙ total_packed (named ts) x below ts (inside_named ts)

  holds_sums : HoldsSums ts (values (rule_table ts))
  holds_sums =
      let f = worth (as_terms (rule_table ts)) in (
        length-map-range_with_len f 0 _ ∙ table_long ts,
        λ x _. get_or_tabulated _ f (packed (named ts) x) (rw (table_long ts) (packed_below (named ts) x below)) ∙ worth_table x,
      )

  module _ (vs : List ℤ) (sums : HoldsSums ts vs) where
    -- what holds of the sum at each line-up holds of each entry
    of_entries : (P : ℕ → ℤ → Type 0) → ((x : ℕ) → P (packed (named ts) x) (worth ts x)) → (c : ℕ) → c < length vs → P c (get_or vs c (pos 0))
    of_entries P each c l =
        let (x, under, same) = packed_onto (named ts) c below (rw sums.0 at l) in
        subst (λ d. P d (get_or vs d (pos 0))) same (rw (sums.1 x under) (each x))

    only_sums : vs ≡ values (rule_table ts)
    only_sums =
        let f = worth (as_terms (rule_table ts)) in
        let alike = sums.0 ∙ sym (table_long ts) in
        fill_by_all f vs _ (pos 0) alike (λ c l. of_entries (λ d z. z ≡ f d) (λ x. sym (worth_table x)) c (rw alike l))

pub has_table : (ts : List Term) → named ts < 2 ^ 32 → size (named ts) ≤ most_table_spots → length ts ≤ most_terms
    → AllByRecursion (λ t. nat_abs t.coefficient ≤ most_coefficient) ts
    → ((i j : ℕ) → i < j → j < length (map group_of ts) → get_or (map group_of ts) i 0 ≡ get_or (map group_of ts) j 0 → ⊥)
    → HasTable ts
has_table ts below few short near apart = record {
  few = few;
  coefficients = holds_coefficients ts below apart;
  accepted = ap (λ o. answered o tt) taken;
  sums = subst (HoldsSums ts) (sym (ap (λ o. unless o (rule_table ts) (values (rule_table ts))) taken)) (holds_sums ts below);
  back = λ vs sums. (
    ap (λ o. answered o tt) (sums_taken vs sums),
    ap (λ o. unless o vs (coefficients vs)) (sums_taken vs sums) ∙ restored vs sums,
  );
}
  where
    entry_near : (g : ℕ) → g < length (rule_table ts) → nat_abs (get_or (rule_table ts) g (pos 0)) ≤ most_entry
    entry_near g l =
        let sum = picked_near (λ us. coefficient_in (packed_terms (named ts) us) g) (λ t. eqb (packed (named ts) t.group) g) refl (λ _ _. refl) ts near in
        rw (table_entry ts g (rw (table_long ts) at l)) (omega arith)

    taken : table_refusal (rule_table ts) ≡ None
    taken = accepted (rule_table ts) (size (named ts)) (All-from_get_or (λ z. nat_abs z ≤ most_entry) (rule_table ts) (pos 0) entry_near) (table_long ts) few

    worth_near : (x : ℕ) → nat_abs (worth ts x) ≤ most_entry
    worth_near x = let sum = picked_near (λ us. worth us x) (λ t. inside t.group x) refl (λ _ _. refl) ts near in omega arith

    sums_taken : (vs : List ℤ) → HoldsSums ts vs → table_refusal vs ≡ None
    sums_taken vs sums =
        let each = All-from_get_or (λ z. nat_abs z ≤ most_entry) vs (pos 0) (of_entries ts below vs sums (λ _ z. nat_abs z ≤ most_entry) worth_near) in
        accepted vs (size (named ts)) each sums.0 few

    restored : (vs : List ℤ) → HoldsSums ts vs → coefficients vs ≡ rule_table ts
    restored vs sums = ap coefficients (only_sums ts below vs sums) ∙ coefficients_values (size (named ts)) (rule_table ts) (table_long ts)
