-- What is known of a call that no row of refusal fits.
use Rattle.std.proofs.Common.{◌≡◌, ℕ, ◌<◌, ◌≤◌, false, not, ◌&&◌, ◌||◌, eqb, ltb, leb, map, length, ℤ, nat_abs, None}
use Rattle.std.proofs.lemmas.Bool.{ltb-false, leb-false, or_parts}
use Rattle.terms.specs.Limits.{most_terms, most_named, most_bound, relation_count}
use Rattle.terms.specs.Tests.{any, repeats, is_empty}
use Rattle.terms.specs.Groups.{beyond, size}
use Rattle.terms.specs.Terms.{group_of, named, blank, unfit}
use Rattle.terms.proofs.Uppermost.{no_row}
use Rattle.sheet.specs.Limits.{most_spots, rule_numbers, most_prices, most_amount}
use Rattle.sheet.specs.Ledger.{Ledger, Posting, Declares, Posts, Prices, spots, live, unused, is_for, is_zero, refusal}
use Rattle.sheet.specs.Ledger.{declare_rows, post_rows, price_rows}

pub record FitDeclare (l : Ledger) (house : ℕ) : Type 0 where
  pub room : spots l < most_spots
  pub fresh : any (eqb house) l.contents.houses ≡ false

pub fit_declare : (l : Ledger) (house : ℕ) → refusal l (Declares house) ≡ None → FitDeclare l house
fit_declare l house h =
    let free = no_row (declare_rows l house) h in
    record { room = leb-false most_spots (spots l) free.0; fresh = free.1.0 }

pub record FitPost (l : Ledger) (p : Posting) : Type 0 where
  pub on_sheet : any (λ t. beyond (spots l) t.group) p.terms ≡ false
  pub room : length p.terms ≤ unused l.places
  pub fresh : live l p.number ≡ false
  pub apart : repeats (map group_of p.terms) ≡ false
  pub some : is_empty p.terms ≡ false
  pub spotted : any blank p.terms ≡ false
  pub sized : any unfit p.terms ≡ false
  pub bounded : nat_abs p.bound ≤ most_bound
  pub numbered : p.number < rule_numbers
  pub related : p.relation < relation_count
  pub short : length p.terms ≤ most_terms
  pub few : size (named p.terms) ≤ most_named

pub fit_post : (l : Ledger) (p : Posting) → refusal l (Posts p) ≡ None → FitPost l p
fit_post l p h =
    let ts = p.terms in
    let free = no_row (post_rows l p) h in
    let twice = or_parts (live l p.number) (repeats (map group_of ts)) free.1.1.0 in
    let blanks = or_parts (is_empty ts) (any blank ts) free.1.1.1.0 in
    let range = or_parts (any unfit ts) (ltb most_bound (nat_abs p.bound) || (leb rule_numbers p.number || leb relation_count p.relation)) free.1.1.1.1.0 in
    let bounds = or_parts (ltb most_bound (nat_abs p.bound)) (leb rule_numbers p.number || leb relation_count p.relation) range.1 in
    let numbers = or_parts (leb rule_numbers p.number) (leb relation_count p.relation) bounds.1 in
    let crowd = or_parts (ltb most_terms (length ts)) (ltb most_named (size (named ts))) free.1.1.1.1.1.0 in
    record {
      on_sheet = free.0;
      room = ltb-false (unused l.places) (length ts) free.1.0;
      fresh = twice.0;
      apart = twice.1;
      some = blanks.0;
      spotted = blanks.1;
      sized = range.0;
      bounded = ltb-false most_bound (nat_abs p.bound) bounds.0;
      numbered = leb-false rule_numbers p.number numbers.0;
      related = leb-false relation_count p.relation numbers.1;
      short = ltb-false most_terms (length ts) crowd.0;
      few = ltb-false most_named (size (named ts)) crowd.1;
    }

pub record FitPrice (l : Ledger) (amount : ℤ) (group : ℕ) : Type 0 where
  pub on_sheet : beyond (spots l) group ≡ false
  pub room : (leb most_prices (length l.contents.prices) && (not (any (is_for group) l.contents.prices) && not (is_zero amount))) ≡ false
  pub spotted : eqb group 0 ≡ false
  pub sized : nat_abs amount ≤ most_amount
  pub few : size group ≤ most_named

pub fit_price : (l : Ledger) (amount : ℤ) (group : ℕ) → refusal l (Prices amount group) ≡ None → FitPrice l amount group
fit_price l amount group h =
    let free = no_row (price_rows l amount group) h in
    record {
      on_sheet = free.0;
      room = free.1.0;
      spotted = free.1.1.0;
      sized = ltb-false most_amount (nat_abs amount) free.1.1.1.0;
      few = ltb-false most_named (size group) free.1.1.1.1.0;
    }
