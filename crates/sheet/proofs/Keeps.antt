-- Every call keeps what every sheet keeps.
use Rattle.std.proofs.Common.{◌≡◌, ℕ, zero, suc, ◌<◌, ◌≤◌, false, eqb, List, [], ◌∷◌, map, length, get_or, replicate, nat_abs, Some, None, Option, sym, refl, ap, ◌∙◌, subst, ⊎_elim, arith}
use Rattle.std.specs.Option.{option_map}
use Rattle.std.proofs.lemmas.List.{length-replicate, length_push, get_or-replicate, get_or_past}
use Rattle.std.proofs.lemmas.Option.{none-some}
use Rattle.std.proofs.lemmas.Bool.{cases_lt, cond_both, eqb-true, eqb-false, ltb-false, or_parts, true≢false, false≢true}
use Rattle.terms.specs.Groups.{beyond}
use Rattle.terms.specs.Limits.{most_coefficient, relation_count}
use Rattle.terms.specs.Refusals.{unless}
use Rattle.terms.specs.Relations.{relation_number, relation_of}
use Rattle.terms.specs.Terms.{group_of, blank, unfit, no_term}
use Rattle.terms.specs.Tests.{is_empty}
use Rattle.terms.specs.declared.polynomials.Term.{Term}
use Rattle.terms.specs.declared.refusals.Refusal.{Refusal}
use Rattle.terms.specs.declared.relations.Relation.{Relation}
use Rattle.terms.specs.declared.relations.Relation.TheVariants.{Equal, AtMost, AtLeast}
use Rattle.terms.proofs.Says.{any_false, repeats_false, beyond_false}
use Rattle.sheet.specs.declared.prices.Price.{Price}
use Rattle.sheet.specs.Ledger.{Ledger, LiveRule, empty, Run, Posting, put, new_places, empty_ledger, spots, is_used, next_unused, taken, rule_of}
use Rattle.sheet.specs.Ledger.{Call, Declares, Posts, Prices, Withdraws, Locks, Unlocks, refusal, allowed, done, step}
use Rattle.sheet.specs.Ledger.{declared, posted, withdrawn}
use Rattle.sheet.specs.Limits.{place_count}
use Rattle.sheet.specs.Layout.{no_price}
use Rattle.sheet.specs.Kept.{Spotted, KeptTerm, KeptRule, KeptPrices, UsedFirst, LiesIn, KeptRun, KeptPlaces, Kept}
use Rattle.sheet.proofs.Accepted.{FitDeclare, FitPost, fit_declare, fit_post, fit_price}
use Rattle.sheet.proofs.Apart.{apart_push}
use Rattle.sheet.proofs.PricesKept.{kept_amount}
use Rattle.sheet.proofs.Runs.{before_next, length_taken, used_taken, taken_first, still_used, run_used, run_kept, runs_put, apart_put}

no_rule : (n number : ℕ) (r : LiveRule) → None ≡ Some r → KeptRule n number r
no_rule n number r e = absurd (none-some r e)

all_empty : (n k : ℕ) → get_or (replicate n empty) k empty ≡ empty
all_empty n k =
    let size = length-replicate n empty in
    ⊎_elim (get_or-replicate n k empty empty) (λ past. get_or_past (replicate n empty) k empty (omega arith)) (cases_lt k n)

-- of places that are all empty, none is used
none_first : (n : ℕ) → UsedFirst (replicate n empty)
none_first n j k below on = absurd (false≢true (sym (ap is_used (all_empty n k)) ∙ on))

-- a new sheet
pub kept_empty : Kept empty_ledger
unfolding new_places
kept_empty = (
  (
    (omega arith, λ i j below within. absurd (omega arith)),
    no_rule 0,
    (omega arith, λ k h. absurd (omega arith), λ i j below within. absurd (omega arith)),
  ),
  (length-replicate place_count empty, none_first place_count, λ number. tt, λ m n k r s e. absurd (none-some r e)),
)

-- what is kept over m spots is kept over n, which are no fewer
module _ (m n : ℕ) (more : m ≤ n) where
  wider : (g : ℕ) → Spotted m g → Spotted n g
  wider g h = (h.0, λ i on. let low = h.1 i on in omega arith)

  wider_term : (t : Term) → KeptTerm m t → KeptTerm n t
  wider_term t h = (h.0, h.1, wider t.group h.2)

  wider_rule : (number : ℕ) (r : LiveRule) → KeptRule m number r → KeptRule n number r
  wider_rule number r h =
      let ts = h.3 in
      (h.0, h.1, h.2, (ts.0, ts.1, λ k l. wider_term (get_or r.terms k no_term) (ts.2 k l), ts.3, ts.4))

  wider_prices : (ps : List Price) → KeptPrices m ps → KeptPrices n ps
  wider_prices ps h = (h.0, λ k l. let p = h.1 k l in (p.0, p.1, wider (get_or ps k no_price).group p.2, p.3), h.2)

kept_declared : (l : Ledger) (house : ℕ) → FitDeclare l house → Kept l → Kept (declared l house)
kept_declared l house fit kept =
    let (houses, rules, prices) = kept.0 in
    let m = spots l in
    let n = spots (declared l house) in
    let longer = length_push l.contents.houses house in
    let apart = apart_push l.contents.houses house fit.fresh houses.1 in
    let more : m ≤ n = omega arith in (
      ((omega arith, apart), λ k r e. wider_rule m n more k r (rules k r e), wider_prices m n more l.contents.prices prices),
      kept.1,
    )

-- the rules, with another one or none under one number
rules_put : (n number : ℕ) (rules : ℕ → Option LiveRule) (x : Option LiveRule)
    → ((k : ℕ) (r : LiveRule) → rules k ≡ Some r → KeptRule n k r) → ((r : LiveRule) → x ≡ Some r → KeptRule n number r)
    → (k : ℕ) (r : LiveRule) → put rules number x k ≡ Some r → KeptRule n k r
rules_put n number rules x old own k r =
    cond_both (eqb k number) x (rules k) (λ o. o ≡ Some r → KeptRule n k r)
    (λ h e. subst (λ j. KeptRule n j r) (sym (eqb-true k number h)) (own r e))
    (λ _. old k r)

relation_small : (r : Relation) → relation_number r < relation_count
relation_small Equal = omega arith
relation_small AtMost = omega arith
relation_small AtLeast = omega arith

-- a number below the count of relations is one's
pub relation_is : (m : ℕ) → m < relation_count → (r : Relation) × (relation_of m ≡ Some r) × (relation_number r ≡ m)
relation_is zero h = (Equal, refl, refl)
relation_is (suc zero) h = (AtMost, refl, refl)
relation_is (suc (suc zero)) h = (AtLeast, refl, refl)
relation_is (suc (suc (suc m))) h = absurd (omega arith)

pub some_terms : (ts : List Term) → is_empty ts ≡ false → 0 < length ts
some_terms [] h = absurd (true≢false h)
some_terms (t ∷ ts) h = omega arith

-- the rule of a posting, if the relation of its number is q
abbrev ruled : Posting → Relation → LiveRule
ruled p q = record { relation = q; bound = p.bound; terms = p.terms }

module _ (l : Ledger) (p : Posting) (fit : FitPost l p) where
  kept_term : (k : ℕ) → k < length p.terms → KeptTerm (spots l) (get_or p.terms k no_term)
  kept_term k h =
      let t = get_or p.terms k no_term in
      let on = any_false (λ t. beyond (spots l) t.group) p.terms fit.on_sheet k no_term h in
      let spot = eqb-false t.group 0 (any_false blank p.terms fit.spotted k no_term h) in
      let (some, most) = or_parts (eqb (nat_abs t.coefficient) 0) _ (any_false unfit p.terms fit.sized k no_term h) in
      let one = eqb-false (nat_abs t.coefficient) 0 some in
      (omega arith, ltb-false most_coefficient (nat_abs t.coefficient) most, (omega arith, beyond_false (spots l) t.group on))

  kept_rule : (o : Option Relation) (r : LiveRule) → option_map (ruled p) o ≡ Some r → KeptRule (spots l) p.number r
  kept_rule None r e = no_rule (spots l) p.number r e
  kept_rule (Some q) r e =
      let same : ruled p q ≡ r = cc in
      let apart = repeats_false (map group_of p.terms) fit.apart in
      subst (KeptRule (spots l) p.number) same
      (fit.numbered, relation_small q, fit.bounded, (some_terms p.terms fit.some, fit.short, kept_term, apart, fit.few))

  -- the run of the new rule
  abbrev new_run : Run
  new_run = record { from = next_unused l.places; count = length p.terms }

  new_run_kept : KeptRun (taken (length p.terms) l.places) (rule_of p) (Some new_run)
  new_run_kept =
      let (q, e, _) = relation_is p.relation fit.related in
      subst (λ o. KeptRun (taken (length p.terms) l.places) (option_map (ruled p) o) (Some new_run)) (sym e)
      (refl, λ k on. used_taken (length p.terms) l.places fit.room k on.1)

  -- it begins where no used place is left
  new_run_clear : KeptPlaces l → (m k : ℕ) (r s : Run) → Some new_run ≡ Some r → l.runs m ≡ Some s → LiesIn r k → LiesIn s k → ⊥
  new_run_clear (size, first, runs, apart) m k r s e old on in_old =
      let low = before_next l.places first k (run_used l.places (l.contents.rules m) (l.runs m) (runs m) s old k in_old) in
      let same : r ≡ new_run = cc in
      let high = subst (λ r. LiesIn r k) same on in
      absurd (omega arith)

  places_posted : KeptPlaces l → KeptPlaces (posted l p)
  places_posted kept =
      let (size, first, runs, apart) = kept in
      let n = length p.terms in
      let ps = l.places in
      let still = still_used n ps fit.room first in
      let stay = λ (k : ℕ). run_kept ps (taken n ps) still (l.contents.rules k) (l.runs k) (runs k) in (
        length_taken n ps fit.room ∙ size,
        taken_first n ps fit.room first,
        runs_put (taken n ps) (rule_of p) (Some new_run) new_run_kept l.contents.rules l.runs p.number stay,
        apart_put l.runs apart p.number (Some new_run) (new_run_clear kept),
      )

  kept_posted : Kept l → Kept (posted l p)
  kept_posted kept =
      let (houses, rules, prices) = kept.0 in
      let after = rules_put (spots l) p.number l.contents.rules (rule_of p) rules (kept_rule (relation_of p.relation)) in
      ((houses, after, prices), places_posted kept.1)

places_withdrawn : (l : Ledger) (number : ℕ) → KeptPlaces l → KeptPlaces (withdrawn l number)
places_withdrawn l number (size, first, runs, apart) =
    let fewer = apart_put l.runs apart number None (λ n k r s e. absurd (none-some r e)) in
    (size, first, runs_put l.places None None tt l.contents.rules l.runs number runs, fewer)

kept_withdrawn : (l : Ledger) (number : ℕ) → Kept l → Kept (withdrawn l number)
kept_withdrawn l number kept =
    let (houses, rules, prices) = kept.0 in
    ((houses, rules_put (spots l) number l.contents.rules None rules (no_rule (spots l) number), prices), places_withdrawn l number kept.1)

kept_done : (l : Ledger) (c : Call) → refusal l c ≡ None → Kept l → Kept (done l c)
kept_done l (Declares house) e k = kept_declared l house (fit_declare l house e) k
kept_done l (Posts p) e k = kept_posted l p (fit_post l p e) k
kept_done l (Prices amount group) e k = ((k.0.0, k.0.1, kept_amount l amount group k.0.2 (fit_price l amount group e)), k.1)
kept_done l (Withdraws number) e k = kept_withdrawn l number k
kept_done l Locks e k = k
kept_done l Unlocks e k = k

kept_made : (l : Ledger) (c : Call) → Kept l → (o : Option Refusal) → refusal l c ≡ o → Kept (unless o l (done l c))
kept_made l c k None e = kept_done l c e k
kept_made l c k (Some x) e = k

pub kept_step : (l : Ledger) (c : Call) → Kept l → Kept (step l c)
kept_step l c k = cond_both (allowed l.locked c) _ _ Kept (λ _. kept_made l c k (refusal l c) refl) (λ _. k)
