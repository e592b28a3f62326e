-- Calls that no row of refusal fits.
use Rattle.std.proofs.Common.{◌≡◌, ℕ, suc, ◌<◌, ◌≤◌, Bool, false, eqb, ltb, leb, List, [], ◌∷◌, ◌++◌, map, length, get_or, nat_abs, None, sym, refl, ◌∙◌, arith}
use Rattle.std.proofs.lemmas.List.{get_or_append_left, get_or_at, length-append}
use Rattle.std.proofs.lemmas.Bool.{or_from, and_left, lt-leb, le-ltb, ne_eqb, false_from_ne_true}
use Rattle.terms.specs.Groups.{beyond, size}
use Rattle.terms.specs.Limits.{most_terms, most_named, most_bound, most_coefficient, relation_count}
use Rattle.terms.specs.Refusals.{uppermost}
use Rattle.terms.specs.Relations.{relation_number}
use Rattle.terms.specs.Terms.{group_of, named, blank, unfit, no_term}
use Rattle.terms.specs.Tests.{any, repeats, is_empty}
use Rattle.terms.specs.declared.polynomials.Term.{Term}
use Rattle.terms.proofs.Says.{beyond_says}
use Rattle.terms.proofs.Uppermost.{none_fits}
use Rattle.sheet.specs.declared.prices.Price.{Price}
use Rattle.sheet.specs.Limits.{most_spots, rule_numbers, most_prices, most_amount}
use Rattle.sheet.specs.Kept.{Apart, Spotted, KeptTerm, KeptTerms, KeptRule, KeptPrice}
use Rattle.sheet.specs.Ledger.{Ledger, LiveRule, Posting, posting, Declares, Posts, Prices, spots, live, unused, is_for, is_zero, refusal, declare_rows, post_rows}
use Rattle.sheet.specs.Ledger as ledgers
use Rattle.sheet.proofs.Accepted.{FitDeclare, FitPost}
use Rattle.sheet.proofs.Apart.{repeats_apart}
use Rattle.sheet_file.specs.Reading.{price_record_rows}

pub declare_unrefused : (l : Ledger) (house : ℕ) → FitDeclare l house → refusal l (Declares house) ≡ None
declare_unrefused l house fit = none_fits (declare_rows l house) (lt-leb most_spots (spots l) fit.room, (fit.fresh, tt))

pub post_unrefused : (l : Ledger) (p : Posting) → FitPost l p → refusal l (Posts p) ≡ None
post_unrefused l p fit =
    let ts = p.terms in
    let bound = le-ltb most_bound (nat_abs p.bound) fit.bounded in
    let numbers = or_from _ _ (lt-leb rule_numbers p.number fit.numbered) (lt-leb relation_count p.relation fit.related) in
    let twice = or_from (live l p.number) (repeats (map group_of ts)) fit.fresh fit.apart in
    let blanks = or_from (is_empty ts) (any blank ts) fit.some fit.spotted in
    let range = or_from (any unfit ts) _ fit.sized (or_from _ _ bound numbers) in
    let crowd = or_from _ _ (le-ltb most_terms (length ts) fit.short) (le-ltb most_named (size (named ts)) fit.few) in
    none_fits (post_rows l p) (fit.on_sheet, (le-ltb (unused l.places) (length ts) fit.room, (twice, (blanks, (range, (crowd, tt))))))

-- every element fails the test
pub any_none : {X : Type 0} (f : X → Bool) (xs : List X) (d : X) → ((k : ℕ) → k < length xs → f (get_or xs k d) ≡ false) → any f xs ≡ false
any_none f [] d h = refl
any_none f (x ∷ xs) d h = or_from (f x) (any f xs) (h 0 (omega arith)) (any_none f xs d (λ k l. h (suc k) (omega arith)))

-- a number that stands behind others in a list without doubles is none of them
pub fresh_behind : (xs : List ℕ) (x : ℕ) (ys : List ℕ) → Apart (xs ++ x ∷ ys) → any (eqb x) xs ≡ false
fresh_behind xs x ys apart =
    let last = get_or_at xs x ys 0 (length xs) refl in
    any_none (eqb x) xs 0 (λ k h. ne_eqb x (get_or xs k 0) (λ same.
    apart k (length xs) h (omega (arith, length-append xs (x ∷ ys))) (get_or_append_left xs (x ∷ ys) 0 k h ∙ sym same ∙ sym last)))

pub spotted_on : (n g : ℕ) → Spotted n g → beyond n g ≡ false
spotted_on n g h = false_from_ne_true (beyond n g) (λ b. let (i, high, on) = (beyond_says n g).0 b in let low = h.1 i on in absurd (omega arith))

not_empty : (ts : List Term) → 0 < length ts → is_empty ts ≡ false
not_empty [] h = absurd (omega arith)
not_empty (t ∷ ts) h = refl

module _ (n : ℕ) (ts : List Term) (kept : KeptTerms n ts) where
  each : (f : Term → Bool) → ((t : Term) → KeptTerm n t → f t ≡ false) → any f ts ≡ false
  each f h = any_none f ts no_term (λ k l. h (get_or ts k no_term) (kept.2 k l))

  all_on : any (λ t. beyond n t.group) ts ≡ false
  all_on = each (λ t. beyond n t.group) (λ t h. spotted_on n t.group h.2)

  all_named : any blank ts ≡ false
  all_named = each blank (λ t h. let (some, _) = h.2 in ne_eqb t.group 0 (λ e. omega arith))

  all_sized : any unfit ts ≡ false
  all_sized = each unfit (λ t h. or_from _ _ (ne_eqb (nat_abs t.coefficient) 0 (λ e. omega arith)) (le-ltb most_coefficient (nat_abs t.coefficient) h.1))

-- a rule that a sheet keeps can be posted where its number is free and its terms have room
pub fit_rule : (l : Ledger) (number : ℕ) (r : LiveRule) → KeptRule (spots l) number r → live l number ≡ false → length r.terms ≤ unused l.places
    → FitPost l (posting number (relation_number r.relation) r.bound r.terms)
fit_rule l number r kept free room =
    let ts = r.terms in
    let terms = kept.3 in
    record {
      on_sheet = all_on (spots l) ts terms;
      room = room;
      fresh = free;
      apart = repeats_apart (map group_of ts) terms.3;
      some = not_empty ts terms.0;
      spotted = all_named (spots l) ts terms;
      sized = all_sized (spots l) ts terms;
      bounded = kept.2;
      numbered = kept.0;
      related = kept.1;
      short = terms.1;
      few = terms.4;
    }

-- a price that a sheet keeps behind others
pub record FitsBehind (l : Ledger) (p : Price) : Type 0 where
  pub room : length l.contents.prices < most_prices
  pub fresh : any (is_for p.group) l.contents.prices ≡ false
  pub kept : KeptPrice (spots l) p

module _ (l : Ledger) (p : Price) (fit : FitsBehind l p) where
  on : beyond (spots l) p.group ≡ false
  on = spotted_on (spots l) p.group fit.kept.2

  full : leb most_prices (length l.contents.prices) ≡ false
  full = lt-leb most_prices (length l.contents.prices) fit.room

  spotted : eqb p.group 0 ≡ false
  spotted = let (some, _) = fit.kept.2 in ne_eqb p.group 0 (λ e. omega arith)

  pub some_amount : is_zero p.amount ≡ false
  some_amount = let some = fit.kept.0 in ne_eqb (nat_abs p.amount) 0 (λ e. omega arith)

  sized : ltb most_amount (nat_abs p.amount) ≡ false
  sized = le-ltb most_amount (nat_abs p.amount) fit.kept.1

  few : ltb most_named (size p.group) ≡ false
  few = le-ltb most_named (size p.group) fit.kept.3

  pub price_read_unrefused : uppermost (price_record_rows l p) ≡ None
  price_read_unrefused = none_fits (price_record_rows l p) (on, (full, (fit.fresh, (spotted, (or_from _ _ some_amount sized, (few, tt))))))

  pub price_unrefused : refusal l (Prices p.amount p.group) ≡ None
  price_unrefused = none_fits (ledgers.price_rows l p.amount p.group) (on, (and_left _ _ full, (spotted, (sized, (few, tt)))))
