-- The ledger of a sheet: what it holds, which refusal a call meets, what a call does, and what a history of calls tells.
use Rattle.std.specs.Prelude.{◌≡◌, ℕ, ◌+◌, Bool, true, false, cond, not, ◌&&◌, ◌||◌, List, [], ◌∷◌, ◌++◌, map, length, take, drop, replicate, ℤ, is_some, Some, None, fold, count_by, filter, Option, Result, ◌==◌, nat_eq, nat_le, nat_lt, unsigned_abs}
use Rattle.std.specs.Option.{option_map}
use Rattle.std.specs.List.{prefix_len, range_with_len, sum_by}
use Rattle.terms.specs.Limits.{most_terms, most_named, most_bound, relation_count}
use Rattle.terms.specs.Refusals.{Row, row, uppermost, answered, unless, Uppermost}
use Rattle.terms.specs.Relations.{relation_of}
use Rattle.terms.specs.Tests.{any, repeats, is_empty}
use Rattle.terms.specs.Groups.{beyond, size}
use Rattle.terms.specs.Terms.{group_of, named, blank, unfit}
use Rattle.terms.specs.declared.polynomials.Term.{Term}
use Rattle.terms.specs.declared.refusals.Refusal.{Refusal}
use Rattle.terms.specs.declared.refusals.Refusal.TheVariants.{OffSheet, Full, Twice, Blank, OutOfRange, Crowded, NotLive}
use Rattle.terms.specs.declared.relations.Relation.{Relation}
use Rattle.sheet.specs.declared.prices.Price.{Price}
use Rattle.sheet.specs.Limits.{most_spots, place_count, rule_numbers, most_prices, most_amount}

-- ---- What a ledger holds

-- a live rule: the sum of its terms stands in the relation to the bound
pub record LiveRule : Type 0 where
  pub relation : Relation
  pub bound : ℤ
  pub terms : List Term

-- what line-ups are judged and rated by: the house numbers in the order of declaration, the rule that is live under each number, and the
-- prices in list order
pub record Contents : Type 0 where
  pub houses : List ℕ
  pub rules : ℕ → Option LiveRule
  pub prices : List Price

-- a place of the term table
pub data Place : Type 0 where
  empty : Place
  used : Place

-- a run of neighbouring places
pub record Run : Type 0 where
  pub from : ℕ
  pub count : ℕ

-- the contents, the places, the run of places that each live rule holds, and whether the sheet is locked
pub record Ledger : Type 0 where
  pub contents : Contents
  pub places : List Place
  pub runs : ℕ → Option Run
  pub locked : Bool

-- the rule numbers, from 0 up
unfoldable pub numbers : List ℕ
numbers = range_with_len 0 rule_numbers

-- how many terms a rule has, none where there is no rule
abbrev pub term_count : Option LiveRule → ℕ
term_count None = 0
term_count (Some r) = length r.terms

-- how many terms are live: those of all live rules together
abbrev pub live_terms : Contents → ℕ
live_terms c = sum_by (λ number. term_count (c.rules number)) numbers

-- a function with another value at one argument
abbrev pub put : {X : Type 0} → (ℕ → X) → ℕ → X → ℕ → X
put f n x k = cond (k == n) x (f k)

-- the term places of a new sheet
unfoldable pub new_places : List Place
new_places = replicate place_count empty

-- the ledger of a new sheet
abbrev pub empty_ledger : Ledger
empty_ledger = record {
  contents = record { houses = []; rules = λ _. None; prices = [] };
  places = new_places;
  runs = λ _. None;
  locked = false;
}

-- ---- The calls

-- the arguments of a post
pub record Posting : Type 0 where
  pub number : ℕ
  pub relation : ℕ
  pub bound : ℤ
  pub terms : List Term

abbrev pub posting : ℕ → ℕ → ℤ → List Term → Posting
posting number relation bound terms = record { number = number; relation = relation; bound = bound; terms = terms }

-- a call with its arguments
pub data Call : Type 0 where
  Declares : ℕ → Call
  Posts : Posting → Call
  Prices : ℤ → ℕ → Call
  Withdraws : ℕ → Call
  Locks : Call
  Unlocks : Call

-- ---- Which rows of the table of refusals fit a call, uppermost first

-- how many spots are declared
abbrev pub spots : Ledger → ℕ
spots l = length l.contents.houses

-- a rule is live under the number
abbrev pub live : Ledger → ℕ → Bool
live l n = is_some (l.contents.rules n)

abbrev pub is_used : Place → Bool
is_used empty = false
is_used used = true

-- how many places are unused
abbrev pub unused : List Place → ℕ
unused ps = count_by (λ p. not (is_used p)) ps

abbrev pub price_of : ℤ → ℕ → Price
price_of amount group = record { amount = amount; group = group }

-- the price is the group's
abbrev pub is_for : ℕ → Price → Bool
is_for g p = p.group == g

abbrev pub is_zero : ℤ → Bool
is_zero z = unsigned_abs z == 0

abbrev pub declare_rows : Ledger → ℕ → List Row
declare_rows l house =
    row (nat_le most_spots (spots l)) Full
    ∷ row (any (nat_eq house) l.contents.houses) Twice
    ∷ []

abbrev pub post_rows : Ledger → Posting → List Row
post_rows l p =
    row (any (λ t. beyond (spots l) t.group) p.terms) OffSheet
    ∷ row (nat_lt (unused l.places) (length p.terms)) Full
    ∷ row (live l p.number || repeats (map group_of p.terms)) Twice
    ∷ row (is_empty p.terms || any blank p.terms) Blank
    ∷ row (any unfit p.terms || (nat_lt most_bound (unsigned_abs p.bound) || (nat_le rule_numbers p.number || nat_le relation_count p.relation))) OutOfRange
    ∷ row (nat_lt most_terms (length p.terms) || nat_lt most_named (size (named p.terms))) Crowded
    ∷ []

abbrev pub price_rows : Ledger → ℤ → ℕ → List Row
price_rows l amount group =
    row (beyond (spots l) group) OffSheet
    ∷ row (nat_le most_prices (length l.contents.prices) && (not (any (is_for group) l.contents.prices) && not (is_zero amount))) Full
    ∷ row (group == 0) Blank
    ∷ row (nat_lt most_amount (unsigned_abs amount)) OutOfRange
    ∷ row (nat_lt most_named (size group)) Crowded
    ∷ []

abbrev pub withdraw_rows : Ledger → ℕ → List Row
withdraw_rows l number =
    row (nat_le rule_numbers number) OutOfRange
    ∷ row (not (live l number)) NotLive
    ∷ []

-- the rows that can fit a call
abbrev pub rows : Ledger → Call → List Row
rows l (Declares house) = declare_rows l house
rows l (Posts p) = post_rows l p
rows l (Prices amount group) = price_rows l amount group
rows l (Withdraws number) = withdraw_rows l number
rows l Locks = []
rows l Unlocks = []

-- the refusal of a call, where a row fits it
abbrev pub refusal : Ledger → Call → Option Refusal
refusal l c = uppermost (rows l c)

-- whatever was called before, a call is refused by the uppermost row that fits it, and exactly where one fits
abbrev pub UppermostRefuses : Type 0
UppermostRefuses = (l : Ledger) (c : Call) → Uppermost (rows l c)

-- ---- What a call does

abbrev pub with_contents : Ledger → Contents → Ledger
with_contents l c = record { contents = c; places = l.places; runs = l.runs; locked = l.locked }

-- one spot more, with the next spot number
abbrev pub declared : Ledger → ℕ → Ledger
declared l house = with_contents l (record {
  houses = l.contents.houses ++ house ∷ [];
  rules = l.contents.rules;
  prices = l.contents.prices;
})

-- the first place that is unused
abbrev pub next_unused : List Place → ℕ
next_unused ps = prefix_len is_used ps

-- the next n unused places become used
abbrev pub taken : ℕ → List Place → List Place
taken n ps = take (next_unused ps) ps ++ (replicate n used ++ drop (next_unused ps + n) ps)

-- the rule that a posting makes live
abbrev pub rule_of : Posting → Option LiveRule
rule_of p = option_map (λ r. record { relation = r; bound = p.bound; terms = p.terms }) (relation_of p.relation)

-- the rule is live, and holds the next unused places
abbrev pub posted : Ledger → Posting → Ledger
posted l p = record {
  contents = record {
    houses = l.contents.houses;
    rules = put l.contents.rules p.number (rule_of p);
    prices = l.contents.prices;
  };
  places = taken (length p.terms) l.places;
  runs = put l.runs p.number (Some (record { from = next_unused l.places; count = length p.terms }));
  locked = l.locked;
}

-- the list of prices with the amount set: 0 drops the group's entry, a listed group keeps its place, a new one comes last
abbrev pub with_amount : List Price → ℤ → ℕ → List Price
with_amount ps amount group =
    cond (is_zero amount) (filter (λ p. not (is_for group p)) ps)
    (cond (any (is_for group) ps) (map (λ p. cond (is_for group p) (price_of amount group) p) ps) (ps ++ price_of amount group ∷ []))

abbrev pub with_prices : Ledger → List Price → Ledger
with_prices l ps = with_contents l (record { houses = l.contents.houses; rules = l.contents.rules; prices = ps })

abbrev pub repriced : Ledger → ℤ → ℕ → Ledger
repriced l amount group = with_prices l (with_amount l.contents.prices amount group)

-- the rule is live no more; its places stay used
abbrev pub withdrawn : Ledger → ℕ → Ledger
withdrawn l number = record {
  contents = record { houses = l.contents.houses; rules = put l.contents.rules number None; prices = l.contents.prices };
  places = l.places;
  runs = put l.runs number None;
  locked = l.locked;
}

abbrev pub with_lock : Ledger → Bool → Ledger
with_lock l b = record { contents = l.contents; places = l.places; runs = l.runs; locked = b }

-- what a call does that no row fits
abbrev pub done : Ledger → Call → Ledger
done l (Declares house) = declared l house
done l (Posts p) = posted l p
done l (Prices amount group) = repriced l amount group
done l (Withdraws number) = withdrawn l number
done l Locks = with_lock l true
done l Unlocks = with_lock l false

-- what a call makes of the ledger: nothing where a row fits
abbrev pub made : Ledger → Call → Ledger
made l c = unless (refusal l c) l (done l c)

-- whether the build allows a call: a draft has every call but unlock, a locked sheet has unlock alone
abbrev pub allowed : Bool → Call → Bool
allowed locked (Declares house) = not locked
allowed locked (Posts p) = not locked
allowed locked (Prices amount group) = not locked
allowed locked (Withdraws number) = not locked
allowed locked Locks = not locked
allowed locked Unlocks = locked

-- what a call makes of the ledger, in either state: nothing where the state does not have the call
abbrev pub step : Ledger → Call → Ledger
step l c = cond (allowed l.locked c) (made l c) l

-- ---- What a history tells

-- the ledger that a history of calls tells, one call after the other, from a new sheet on
abbrev pub tell : List Call → Ledger
tell cs = fold step empty_ledger cs

-- some history leads to the ledger
abbrev pub Told : Ledger → Type 0
Told l = ∥ ((cs : List Call) × (tell cs ≡ l)) ∥₁

-- ---- What the calls answer

abbrev pub declare_answer : Ledger → ℕ → Result ℕ Refusal
declare_answer l house = answered (refusal l (Declares house)) (spots l)

abbrev pub post_answer : Ledger → Posting → Result (Unit {0}) Refusal
post_answer l p = answered (refusal l (Posts p)) tt

abbrev pub price_answer : Ledger → ℤ → ℕ → Result (Unit {0}) Refusal
price_answer l amount group = answered (refusal l (Prices amount group)) tt

abbrev pub withdraw_answer : Ledger → ℕ → Result (Unit {0}) Refusal
withdraw_answer l number = answered (refusal l (Withdraws number)) tt
