-- What every sheet keeps, whatever was called on it.
use Rattle.std.specs.Prelude.{◌≡◌, ℕ, ◌+◌, ◌<◌, ◌≤◌, true, List, map, length, Some, None, Option, ◌≢◌, slice_index, slice_index_or, unsigned_abs}
use Rattle.terms.specs.Limits.{most_coefficient, most_terms, most_named, most_bound, relation_count}
use Rattle.terms.specs.Groups.{holds, size}
use Rattle.terms.specs.Relations.{relation_number}
use Rattle.terms.specs.Terms.{group_of, named, no_term}
use Rattle.terms.specs.declared.polynomials.Term.{Term}
use Rattle.sheet.specs.declared.prices.Price.{Price}
use Rattle.sheet.specs.Ledger.{LiveRule, Contents, Place, empty, Run, Ledger, is_used}
use Rattle.sheet.specs.Limits.{most_spots, place_count, rule_numbers, most_prices, most_amount}
use Rattle.sheet.specs.Layout.{price_group, no_price}

-- no number stands twice
abbrev pub Apart : List ℕ → Type 0
Apart xs = (i j : ℕ) → i < j → j < length xs → slice_index xs i ≢ slice_index xs j

-- the group is not empty and names spots below n alone
abbrev pub Spotted : ℕ → ℕ → Type 0
Spotted n g = (0 < g) × ((i : ℕ) → holds g i ≡ true → i < n)

-- a term over n spots
abbrev pub KeptTerm : ℕ → Term → Type 0
KeptTerm n t = (0 < unsigned_abs t.coefficient) × (unsigned_abs t.coefficient ≤ most_coefficient) × Spotted n t.group

-- the terms of a rule over n spots: not none and not too many, their groups differing and naming few spots in all
abbrev pub KeptTerms : ℕ → List Term → Type 0
KeptTerms n ts =
    (0 < length ts) × (length ts ≤ most_terms) × ((k : ℕ) → k < length ts → KeptTerm n (slice_index_or ts k no_term)) × Apart (map group_of ts)
    × (size (named ts) ≤ most_named)

-- a rule over n spots that is live under a number
abbrev pub KeptRule : ℕ → ℕ → LiveRule → Type 0
KeptRule n number r =
    (number < rule_numbers) × (relation_number r.relation < relation_count) × (unsigned_abs r.bound ≤ most_bound) × KeptTerms n r.terms

-- a price over n spots
abbrev pub KeptPrice : ℕ → Price → Type 0
KeptPrice n p = (0 < unsigned_abs p.amount) × (unsigned_abs p.amount ≤ most_amount) × Spotted n p.group × (size p.group ≤ most_named)

-- the house numbers differ
abbrev pub KeptHouses : List ℕ → Type 0
KeptHouses houses = (length houses ≤ most_spots) × Apart houses

-- every rule that is live
abbrev pub KeptRules : Contents → Type 0
KeptRules c = (number : ℕ) (r : LiveRule) → c.rules number ≡ Some r → KeptRule (length c.houses) number r

-- the prices, whose groups differ
abbrev pub KeptPrices : ℕ → List Price → Type 0
KeptPrices n ps =
    (length ps ≤ most_prices) × ((k : ℕ) → k < length ps → KeptPrice n (slice_index_or ps k no_price)) × Apart (map price_group ps)

-- what every sheet keeps of spots, rules and prices
abbrev pub KeptContents : Contents → Type 0
KeptContents c = KeptHouses c.houses × KeptRules c × KeptPrices (length c.houses) c.prices

-- ---- The term places

-- place k is used
abbrev pub UsedAt : List Place → ℕ → Type 0
UsedAt ps k = is_used (slice_index_or ps k empty) ≡ true

-- the used places come first
abbrev pub UsedFirst : List Place → Type 0
UsedFirst ps = (j k : ℕ) → j < k → UsedAt ps k → UsedAt ps j

-- a place lies in a run
abbrev pub LiesIn : Run → ℕ → Type 0
LiesIn run k = (run.from ≤ k) × (k < run.from + run.count)

-- a live rule has a run of used places, as long as its terms, and a number that is not live has none
abbrev pub KeptRun : List Place → Option LiveRule → Option Run → Type 0
KeptRun ps None None = Unit {0}
KeptRun ps None (Some run) = ⊥
KeptRun ps (Some r) None = ⊥
KeptRun ps (Some r) (Some run) = (run.count ≡ length r.terms) × ((k : ℕ) → LiesIn run k → UsedAt ps k)

-- no place lies in the runs of two rules
abbrev pub RunsApart : (ℕ → Option Run) → Type 0
RunsApart runs = (m n k : ℕ) (r s : Run) → runs m ≡ Some r → runs n ≡ Some s → LiesIn r k → LiesIn s k → m ≡ n

-- what every sheet keeps of its term places: there are 512, the used ones first; each live rule has a run of them, and the runs lie apart
abbrev pub KeptPlaces : Ledger → Type 0
KeptPlaces l =
    (length l.places ≡ place_count) × UsedFirst l.places × ((number : ℕ) → KeptRun l.places (l.contents.rules number) (l.runs number)) × RunsApart l.runs

-- what every sheet keeps
abbrev pub Kept : Ledger → Type 0
Kept l = KeptContents l.contents × KeptPlaces l
