-- One more accepted call: the file grows at its end, and the sheet stays such that it can go on.
use Rattle.std.proofs.Common.{◌≡◌, ℕ, ◌+◌, ◌^◌, ◌<◌, ◌≤◌, Bool, true, false, not, ◌&&◌, leb, ltb, List, [], ◌∷◌, ◌++◌, map, length, is_some, Some, None, Option, count_by, sum_by, nat_abs, sym, refl, ap, ◌∙◌, subst, ⊎_elim, append_assoc, append-nil, le_refl, arith}
use Rattle.std.specs.Option.{option_map}
use Rattle.std.specs.List.{flat_map}
use Rattle.std.proofs.ByRecursion.{All-get_or, All-from_get_or, All-push}
use Rattle.std.proofs.lemmas.List.{map_push}
use Rattle.std.proofs.lemmas.List.Concat.{flat_map-append}
use Rattle.std.proofs.lemmas.Option.{none-some}
use Rattle.std.proofs.lemmas.Bool.{cases_lt, cond-true, cond-false, both_ways, not-false, and_cases, and_left, or_parts, le-leb}
use Rattle.terms.specs.Refusals.{uppermost}
use Rattle.terms.specs.Relations.{relation_number, relation_of}
use Rattle.terms.specs.Tests.{any, is_empty}
use Rattle.terms.specs.declared.polynomials.Term.{Term}
use Rattle.terms.specs.declared.relations.Relation.{Relation}
use Rattle.terms.proofs.Uppermost.{no_row, none_fits}
use Rattle.sheet.specs.declared.prices.Price.{Price}
use Rattle.sheet.specs.Limits.{rule_numbers, most_prices, most_amount}
use Rattle.sheet.specs.Ledger.{Ledger, LiveRule, Place, Posting, posting, Call, Declares, Posts, Prices, numbers, put, spots, live, is_used, unused, is_for, is_zero, price_of, term_count, live_terms, empty_ledger, Told}
use Rattle.sheet.specs.Ledger.{refusal, allowed, done, made, step, taken, rule_of, with_amount}
use Rattle.sheet.specs.Ledger as ledgers
use Rattle.sheet.specs.Kept.{Kept}
use Rattle.sheet.proofs.Accepted.{FitPost, fit_post}
use Rattle.sheet.proofs.Histories.{sound_after}
use Rattle.sheet.proofs.Keeps.{kept_empty, kept_step, relation_is, some_terms}
use Rattle.sheet.proofs.Ledgers.{made_done}
use Rattle.sheet.proofs.TermPlaces.{laid, unused_laid, used_laid, taken_laid, new_laid}
use Rattle.sheet_file.specs.Records.{Head, Record, SpotRecord, PriceRecord, record_bytes}
use Rattle.sheet_file.specs.Format.{rule_with, rule_records, sheet_records, file}
use Rattle.sheet_file.specs.Reading.{asked, is_late, price_record_rows}
use Rattle.sheet_file.specs.Laws.{Packed, HousesFit}
use Rattle.sheet_file.proofs.Numbered.{any_numbers, flat_numbers, sum_numbers, flat_no_numbers, put_here, put_other}

-- a draft that some history makes, whose first places are used, as many as terms are live
pub record Good (l : Ledger) : Type 0 where
  pub told : Told l
  pub kept : Kept l
  pub narrow : HousesFit l.contents.houses
  pub unlocked : l.locked ≡ false
  pub filled : l.places ≡ laid (live_terms l.contents)

pub packed : (l : Ledger) → Good l → Packed l
packed l good = ap (count_by is_used) good.filled ∙ used_laid (live_terms l.contents)

nothing_live : sum_by (λ _. 0) numbers ≡ 0
unfolding numbers
nothing_live = refl

pub good_empty : Good empty_ledger
good_empty = record {
  told = ∣ ([], refl) ∣₁;
  kept = kept_empty;
  narrow = λ k h. absurd (omega arith);
  unlocked = refl;
  filled = new_laid ∙ ap laid (sym nothing_live);
}

-- the sheet m is a good one, and its file is that of l with the records behind it
pub record Grows (l m : Ledger) (rs : List Record) : Type 0 where
  pub good : Good m
  pub same : file m.contents ≡ file l.contents ++ flat_map record_bytes rs

-- a call that the sheet's state has and no row refuses
pub step_done : (l : Ledger) (c : Call) → allowed l.locked c ≡ true → refusal l c ≡ None → step l c ≡ done l c
step_done l c free fits = cond-true (allowed l.locked c) (made l c) l free ∙ made_done l c fits

module _ (l : Ledger) (c : Call) (good : Good l) (free : allowed l.locked c ≡ true) (fits : refusal l c ≡ None) where
  made_so : step l c ≡ done l c
  made_so = step_done l c free fits

  grown : (rs : List Record) → HousesFit (done l c).contents.houses → (done l c).locked ≡ false → (done l c).places ≡ laid (live_terms (done l c).contents)
      → sheet_records (done l c).contents ≡ sheet_records l.contents ++ rs → Grows l (step l c) rs
  grown rs narrow draft filled more = record {
    good = record {
      told = (sound_after l (step l c) c good.told ∣ good.kept ∣₁ refl).told;
      kept = kept_step l c good.kept;
      narrow = subst (λ m. HousesFit m.contents.houses) (sym made_so) narrow;
      unlocked = ap (λ m. m.locked) made_so ∙ draft;
      filled = subst (λ m. m.places ≡ laid (live_terms m.contents)) (sym made_so) filled;
    };
    same = ap (λ m. file m.contents) made_so ∙ ap (flat_map record_bytes) more ∙ flat_map-append record_bytes (sheet_records l.contents) rs;
  }

-- ---- What comes early enough

-- no price stands, and no rule from a number on is live
pub record Early (l : Ledger) (n : ℕ) : Type 0 where
  pub no_prices : l.contents.prices ≡ []
  pub no_rules : (j : ℕ) → n ≤ j → j < rule_numbers → l.contents.rules j ≡ None

empty_is : {X : Type 0} (xs : List X) → is_empty xs ≡ true → xs ≡ []
empty_is [] h = refl
empty_is (x ∷ xs) h = cc

none_is : {X : Type 0} (o : Option X) → is_some o ≡ false → o ≡ None
none_is None h = refl
none_is (Some x) h = cc

not_both : (a b : Bool) → (a && b) ≡ false → a ≡ true → b ≡ false
not_both a b h t = ⊎_elim (λ f. absurd (both_ways a f t)) (λ f. f) (and_cases a b h)

pub early : (l : Ledger) (n : ℕ) → is_late l n ≡ false → Early l n
early l n h =
    let (priced, ruled) = or_parts (not (is_empty l.contents.prices)) (any (λ j. leb n j && live l j) numbers) h in
    record {
      no_prices = empty_is l.contents.prices (not-false (is_empty l.contents.prices) priced);
      no_rules = λ j low high.
          none_is (l.contents.rules j) (not_both (leb n j) (live l j) (any_numbers (λ j. leb n j && live l j) ruled j high) (le-leb n j low));
    }

some_is : {X : Type 0} (o : Option X) → is_some o ≡ true → (x : X) × (o ≡ Some x)
some_is None h = cc
some_is (Some x) h = (x, refl)

-- the number of every live rule is below one that does not come too late
pub rises : (l : Ledger) (n : ℕ) → Good l → is_late l n ≡ false → (j : ℕ) → live l j ≡ true → j < n
rises l n good in_time j on =
    let (r, known) = some_is (l.contents.rules j) on in
    let low = (good.kept.0.1 j r known).0 in
    ⊎_elim (λ h. h) (λ past. absurd (none-some r (sym ((early l n in_time).no_rules j past low) ∙ known))) (cases_lt j n)

-- ---- A spot

-- the records of live rules, by rising number
abbrev ruled : (ℕ → Option LiveRule) → List Record
ruled rules = flat_map (λ j. rule_records j (rules j)) numbers

spot_last : (xs ys zs : List Record) (x : Record) → ys ≡ [] → zs ≡ [] → (xs ++ x ∷ []) ++ (ys ++ zs) ≡ (xs ++ (ys ++ zs)) ++ x ∷ []
spot_last xs ys zs x p q = rw (p, q) (simp append-nil)

narrow_push : (houses : List ℕ) (house : ℕ) → HousesFit houses → house < 2 ^ 32 → HousesFit (houses ++ house ∷ [])
narrow_push houses house narrow low k h =
    All-get_or (λ n. n < 2 ^ 32) (houses ++ house ∷ []) k 0 h
    (All-push (λ n. n < 2 ^ 32) houses house (All-from_get_or (λ n. n < 2 ^ 32) houses 0 narrow) low)

pub spot_grown : (l : Ledger) (house : ℕ) → Good l → house < 2 ^ 32 → is_late l 0 ≡ false → refusal l (Declares house) ≡ None
    → Grows l (step l (Declares house)) (SpotRecord house ∷ [])
spot_grown l house good low in_time fits =
    let first = early l 0 in_time in
    let none = flat_no_numbers (λ j. rule_records j (l.contents.rules j)) (λ j h. ap (rule_records j) (first.no_rules j (omega arith) h)) in
    let prices = map PriceRecord l.contents.prices in
    grown l (Declares house) good (ap not good.unlocked) fits (SpotRecord house ∷ []) (narrow_push l.contents.houses house good.narrow low) good.unlocked good.filled
    (ap (λ xs. xs ++ (ruled l.contents.rules ++ prices)) (map_push SpotRecord l.contents.houses house)
    ∙ spot_last (map SpotRecord l.contents.houses) (ruled l.contents.rules) prices (SpotRecord house) none (ap (map PriceRecord) first.no_prices))

-- ---- A rule

rule_last : (xs ys zs new : List Record) → zs ≡ [] → xs ++ ((ys ++ new) ++ zs) ≡ (xs ++ (ys ++ zs)) ++ new
rule_last xs ys zs new p = rw p (simp (append_assoc, append-nil))

next_laid : (ps : List Place) (n m : ℕ) → ps ≡ laid n → 0 < m → m ≤ unused ps → taken m ps ≡ laid (n + m)
next_laid ps n m filled some room =
    let left = ap unused filled ∙ unused_laid n in
    ap (taken m) filled ∙ taken_laid n m (omega arith)

-- the rules after the call
abbrev with_rule : Ledger → Head → List Term → ℕ → Option LiveRule
with_rule l h ts = put l.contents.rules h.number (rule_of (asked h ts))

module _ (l : Ledger) (h : Head) (ts : List Term) where
  -- the relation of the head's number, which is its number again
  module _ (r : Relation) (known : relation_of h.relation ≡ Some r) where
    rule_put : with_rule l h ts h.number ≡ Some (record { relation = r; bound = h.bound; terms = ts })
    rule_put =
        put_here l.contents.rules h.number (rule_of (asked h ts))
        ∙ ap (option_map (λ q. record { relation = q; bound = h.bound; terms = ts })) known

    records_put : relation_number r ≡ h.relation → rule_records h.number (with_rule l h ts h.number) ≡ rule_with h ts
    records_put back =
        ap (rule_records h.number) rule_put ∙ ap (λ m. rule_with (record { number = h.number; relation = m; bound = h.bound }) ts) back

  module _ (good : Good l) (first : Early l h.number) (fit : FitPost l (asked h ts)) where
    other_rule : (j : ℕ) → (j ≡ h.number → ⊥) → with_rule l h ts j ≡ l.contents.rules j
    other_rule j other = put_other l.contents.rules h.number (rule_of (asked h ts)) j other

    records_after : ruled (with_rule l h ts) ≡ ruled l.contents.rules ++ rule_with h ts
    records_after =
        let (r, known, back) = relation_is h.relation fit.related in
        flat_numbers (λ j. rule_records j (with_rule l h ts j)) (λ j. rule_records j (l.contents.rules j)) h.number fit.numbered
        (λ j other. ap (rule_records j) (other_rule j other)) (λ j low high. ap (rule_records j) (first.no_rules j low high))
        ∙ ap (λ rs. ruled l.contents.rules ++ rs) (records_put r known back)

    terms_after : sum_by (λ j. term_count (with_rule l h ts j)) numbers ≡ live_terms l.contents + length ts
    terms_after =
        let (r, known, back) = relation_is h.relation fit.related in
        sum_numbers (λ j. term_count (with_rule l h ts j)) (λ j. term_count (l.contents.rules j)) h.number fit.numbered
        (λ j other. ap term_count (other_rule j other)) (ap term_count (first.no_rules h.number (le_refl h.number) fit.numbered))
        ∙ ap (λ o. live_terms l.contents + term_count o) (rule_put r known)

    places_after : taken (length ts) l.places ≡ laid (sum_by (λ j. term_count (with_rule l h ts j)) numbers)
    places_after =
        next_laid l.places (live_terms l.contents) (length ts) good.filled (some_terms ts fit.some) fit.room ∙ ap laid (sym terms_after)

pub rule_grown : (l : Ledger) (h : Head) (ts : List Term) → Good l → is_late l h.number ≡ false → refusal l (Posts (asked h ts)) ≡ None
    → Grows l (step l (Posts (asked h ts))) (rule_with h ts)
rule_grown l h ts good in_time fits =
    let first = early l h.number in_time in
    let fit = fit_post l (asked h ts) fits in
    let houses = map SpotRecord l.contents.houses in
    let prices = map PriceRecord l.contents.prices in
    grown l (Posts (asked h ts)) good (ap not good.unlocked) fits (rule_with h ts) good.narrow good.unlocked (places_after l h ts good first fit)
    (ap (λ rs. houses ++ (rs ++ prices)) (records_after l h ts good first fit)
    ∙ rule_last houses (ruled l.contents.rules) prices (rule_with h ts) (ap (map PriceRecord) first.no_prices))

-- ---- A price

-- a price that no row of a file's prices fits is one that its call does not refuse, and it comes last
pub record FitLast (l : Ledger) (p : Price) : Type 0 where
  pub fits : refusal l (Prices p.amount p.group) ≡ None
  pub last : with_amount l.contents.prices p.amount p.group ≡ l.contents.prices ++ p ∷ []

pub fit_last : (l : Ledger) (p : Price) → uppermost (price_record_rows l p) ≡ None → FitLast l p
fit_last l p h =
    let ps = l.contents.prices in
    let (on, (full, (fresh, (spotted, (sized, (few, _)))))) = no_row (price_record_rows l p) h in
    let (some, small) = or_parts (is_zero p.amount) (ltb most_amount (nat_abs p.amount)) sized in
    record {
      fits = none_fits (ledgers.price_rows l p.amount p.group) (on, (and_left (leb most_prices (length ps)) _ full, (spotted, (small, (few, tt)))));
      last = cond-false (is_zero p.amount) _ _ some ∙ cond-false (any (is_for p.group) ps) _ _ fresh;
    }

price_last : (xs ys zs : List Record) (x : Record) → xs ++ (ys ++ (zs ++ x ∷ [])) ≡ (xs ++ (ys ++ zs)) ++ x ∷ []
price_last xs ys zs x = simp append_assoc

pub price_grown : (l : Ledger) (p : Price) → Good l → uppermost (price_record_rows l p) ≡ None
    → Grows l (step l (Prices p.amount p.group)) (PriceRecord p ∷ [])
price_grown l p good h =
    let fit = fit_last l p h in
    let houses = map SpotRecord l.contents.houses in
    let rules = ruled l.contents.rules in
    grown l (Prices p.amount p.group) good (ap not good.unlocked) fit.fits (PriceRecord p ∷ []) good.narrow good.unlocked good.filled
    (ap (λ ps. houses ++ (rules ++ map PriceRecord ps)) fit.last
    ∙ ap (λ xs. houses ++ (rules ++ xs)) (map_push PriceRecord l.contents.prices p)
    ∙ price_last houses rules (map PriceRecord l.contents.prices) (PriceRecord p))
