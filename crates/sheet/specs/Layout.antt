-- How a book lays out a sheet: the places of terms, and the rules as they lie in them.
use Rattle.std.specs.Prelude.{◌≡◌, ℕ, ◌+◌, ◌<◌, ◌≤◌, cond, List, get_or, pos, Some, None, Option, ◌==◌, nat_le, slice_index_or}
use Rattle.terms.specs.Terms.{no_term}
use Rattle.terms.specs.declared.polynomials.Term.{Term}
use Rattle.sheet.specs.declared.book.Placed.{Placed}
use Rattle.sheet.specs.declared.prices.Price.{Price}
use Rattle.sheet.specs.Ledger.{Place, empty, used, price_of}
use Rattle.sheet.specs.Limits.{place_count}

-- a place is empty where it holds no spot
abbrev pub place_of : Term → Place
place_of t = cond (t.group == 0) empty used

-- the first n of the places are used, and the others are empty
abbrev pub FirstUsed : List Term → ℕ → Type 0
FirstUsed table n = (k : ℕ) → k < place_count → ((get_or table k no_term).group == 0) ≡ nat_le n k

-- every rule lies within the first n places
abbrev pub Within : List (Option Placed) → ℕ → Type 0
Within rules n = (k : ℕ) (r : Placed) → slice_index_or rules k None ≡ Some r → r.run.start + r.run.count ≤ n

abbrev pub price_group : Price → ℕ
price_group p = p.group

abbrev pub no_price : Price
no_price = price_of (pos 0) 0
