-- Contents rebuilt from records: the rules, with the prices behind them.
use Rattle.std.proofs.Common.{◌≡◌, ℕ, zero, suc, ◌+◌, ◌≤◌, false, cond, ◌&&◌, ltb, leb, List, [], ◌∷◌, ◌++◌, map, length, get_or, is_some, Some, None, Option, sum_by, sym, refl, ap, ◌∙◌, subst, ⊎_elim, le_refl, arith}
use mathlib.Core.Path.{fun_ext}
use Rattle.std.specs.Option.{option_map}
use Rattle.std.specs.List.{flat_map, range_with_len}
use Rattle.std.proofs.lemmas.Bool.{cases_lt, cond-true, cond-false, lt-ltb, le-ltb}
use Rattle.std.proofs.lemmas.Bool.Decides.{nat_tests}
use Rattle.std.proofs.lemmas.List.{append_assoc}
use Rattle.std.proofs.lemmas.List.Sums.{sum_by-cons}
use Rattle.terms.specs.Relations.{relation_number, relation_of}
use Rattle.terms.specs.declared.relations.Relation.{Relation}
use Rattle.terms.specs.declared.relations.Relation.TheVariants.{Equal, AtMost, AtLeast}
use Rattle.sheet.specs.declared.prices.Price.{Price}
use Rattle.sheet.specs.Ledger.{LiveRule, Contents, Ledger, Run, numbers, term_count, live_terms, put, live, unused, rule_of}
use Rattle.sheet.specs.Ledger.{posted}
use Rattle.sheet.specs.Limits.{place_count, rule_numbers}
use Rattle.sheet.specs.Kept.{KeptContents}
use Rattle.sheet.proofs.TermPlaces.{laid, unused_laid, taken_laid}
use Rattle.sheet_file.specs.Format.{head_of, rule_records}
use Rattle.sheet_file.specs.Records.{Record, PriceRecord}
use Rattle.sheet_file.specs.Reading.{asked, is_late}
use Rattle.sheet_file.proofs.Makes.{Makes, NoTermFirst, rule_makes}
use Rattle.sheet_file.proofs.Unrefused.{any_none, post_unrefused, fit_rule}
use Rattle.sheet_file.proofs.PricesRebuild.{draft, Rebuilds, prices_rebuild}

-- the rules numbered below n
abbrev pub rules_below : (ℕ → Option LiveRule) → ℕ → ℕ → Option LiveRule
rules_below rules n k = cond (ltb k n) (rules k) None

pub none_below : (rules : ℕ → Option LiveRule) (k : ℕ) → None ≡ rules_below rules 0 k
none_below rules k = sym (cond-false (ltb k 0) (rules k) None (le-ltb k 0 (omega arith)))

-- with the rule of the next number, or none
one_more : (rules : ℕ → Option LiveRule) (n : ℕ) (o : Option LiveRule) → rules n ≡ o → (k : ℕ)
    → put (rules_below rules n) n o k ≡ rules_below rules (n + 1) k
one_more rules n o e k = grind (arith, nat_tests)

none_more : (rules : ℕ → Option LiveRule) (n : ℕ) → rules n ≡ None → (k : ℕ) → rules_below rules n k ≡ rules_below rules (n + 1) k
none_more rules n e k = grind (arith, nat_tests)

relation_back : (r : Relation) → relation_of (relation_number r) ≡ Some r
relation_back Equal = refl
relation_back AtMost = refl
relation_back AtLeast = refl

-- no rule of this number or a higher one is live
pub not_late : (houses : List ℕ) (rules : ℕ → Option LiveRule) (n u : ℕ) (runs : ℕ → Option Run)
    → is_late (draft houses (rules_below rules n) [] u runs) n ≡ false
not_late houses rules n u runs = any_none _ numbers 0 (λ k h. at (get_or numbers k 0))
  where
    at : (k : ℕ) → (leb n k && is_some (rules_below rules n k)) ≡ false
    at k = grind (arith, nat_tests)

prices_first : (ps : List Price) → NoTermFirst (map PriceRecord ps)
prices_first [] place = refl
prices_first (p ∷ ps) place = refl

rule_first : (number : ℕ) (o : Option LiveRule) (rs : List Record) → NoTermFirst rs → NoTermFirst (rule_records number o ++ rs)
rule_first number None rs none = none
rule_first number (Some r) rs none = λ place. refl

-- all spots, and the rules numbered below n
module _ (c : Contents) (kept : KeptContents c) where
  abbrev pub held : ℕ → ℕ → (ℕ → Option Run) → Ledger
  held n u runs = draft c.houses (rules_below c.rules n) [] u runs

  abbrev pub records_under : ℕ → List Record
  records_under number = rule_records number (c.rules number)

  rules_first : (ns : List ℕ) → NoTermFirst (flat_map records_under ns ++ map PriceRecord c.prices)
  rules_first [] = prices_first c.prices
  rules_first (n ∷ ns) =
      let rest = flat_map records_under ns in
      subst NoTermFirst (sym (append_assoc (records_under n) rest (map PriceRecord c.prices)))
      (rule_first n (c.rules n) (rest ++ map PriceRecord c.prices) (rules_first ns))

  -- the sheet after one rule more
  after_rule : (n u v : ℕ) (runs : ℕ → Option Run) (r : LiveRule) → c.rules n ≡ Some r → v ≡ u + length r.terms → v ≤ place_count
      → held (n + 1) v (posted (held n u runs) (asked (head_of n r) r.terms)).runs ≡ posted (held n u runs) (asked (head_of n r) r.terms)
  after_rule n u v runs r live' more few =
      let related : Relation → LiveRule = λ q. record { relation = q; bound = r.bound; terms = r.terms } in
      let rule : rule_of (asked (head_of n r) r.terms) ≡ Some r = ap (option_map related) (relation_back r.relation) in
      let rules = fun_ext (λ k. sym (ap (λ o. put (rules_below c.rules n) n o k) rule ∙ one_more c.rules n (Some r) live' k)) in
      let places = ap laid more ∙ sym (taken_laid u (length r.terms) (omega arith)) in
      λ i. record {
        contents = record { houses = c.houses; rules = rules i; prices = [] };
        places = places i;
        runs = (posted (held n u runs) (asked (head_of n r) r.terms)).runs;
        locked = false;
      }

  rule_rebuild : (n u v : ℕ) (runs : ℕ → Option Run) (rs : List Record) → NoTermFirst rs
      → (o : Option LiveRule) → c.rules n ≡ o → v ≡ u + term_count o → v ≤ place_count
      → ((later : ℕ → Option Run) → Rebuilds c (held (n + 1) v later) rs) → Rebuilds c (held n u runs) (rule_records n o ++ rs)
  rule_rebuild n u v runs rs first None none more few next =
      let rules = fun_ext (λ k. sym (none_more c.rules n none k)) in
      let same : v ≡ u = omega arith in
      subst (λ l. Rebuilds c l rs) (λ i. draft c.houses (rules i) [] (same i) runs) (next runs)
  rule_rebuild n u v runs rs first (Some r) live' more few next =
      let l = held n u runs in
      let h = head_of n r in
      let later = next (posted l (asked h r.terms)).runs in
      let own = kept.1 n r live' in
      let free : live l n ≡ false = ap is_some (cond-false (ltb n n) (c.rules n) None (le-ltb n n (le_refl n))) in
      let room : length r.terms ≤ unused l.places = omega (arith, unused_laid u) in
      let fit = post_unrefused l (asked h r.terms) (fit_rule l n r own free room) in
      record {
        sheet = later.sheet;
        makes =
            rule_makes l later.sheet h r.terms rs refl (not_late c.houses c.rules n u runs) own.3.1 fit first
            (subst (λ m. Makes m rs later.sheet) (after_rule n u v runs r live' more few) later.makes);
        same = later.same;
        packed = later.packed;
      }

  none_above : (k : ℕ) → rule_numbers ≤ k → (o : Option LiveRule) → c.rules k ≡ o → o ≡ None
  none_above k h None e = refl
  none_above k h (Some r) e = let own = (kept.1 k r e).0 in absurd (omega arith)

  all_below : (n : ℕ) → rule_numbers ≤ n → (k : ℕ) → rules_below c.rules n k ≡ c.rules k
  all_below n h k = ⊎_elim
      (λ below. cond-true (ltb k n) (c.rules k) None (lt-ltb k n below))
      (λ above. cond-false (ltb k n) (c.rules k) None (le-ltb k n above) ∙ sym (none_above k (omega arith) (c.rules k) refl))
      (cases_lt k n)

  pub rules_rebuild : (k n u : ℕ) (runs : ℕ → Option Run) → rule_numbers ≤ n + k → live_terms c ≤ place_count
      → u + sum_by (λ number. term_count (c.rules number)) (range_with_len n k) ≡ live_terms c
      → Rebuilds c (held n u runs) (flat_map records_under (range_with_len n k) ++ map PriceRecord c.prices)
  rules_rebuild zero n u runs top few all =
      let rules = fun_ext (λ k. sym (all_below n (omega arith) k)) in
      subst (λ f. Rebuilds c (draft c.houses f [] u runs) (map PriceRecord c.prices)) rules
      (prices_rebuild c u runs (omega arith) [] c.prices kept.2 refl)
  rules_rebuild (suc k) n u runs top few all =
      let counted : ℕ → ℕ = λ number. term_count (c.rules number) in
      let next = range_with_len (n + 1) k in
      let split = sum_by-cons counted n next in
      let rest = flat_map records_under next ++ map PriceRecord c.prices in
      subst (Rebuilds c (held n u runs)) (sym (append_assoc (records_under n) (flat_map records_under next) (map PriceRecord c.prices)))
      (rule_rebuild n u (u + counted n) runs rest (rules_first next) (c.rules n) refl refl (omega arith)
      (λ later. rules_rebuild k (n + 1) (u + counted n) later (omega arith) few (omega arith)))
