-- The table of refusals: each case's number and word, its row, and which row answers.
use Rattle.std.specs.Prelude.{◌≡◌, ℕ, ◌<◌, ◌≤◌, Bool, true, false, cond, List, [], ◌∷◌, length, Some, None, Ok, Err, codes, Option, Result, MatchOption, slice_index_or}
use Rattle.std.specs.List.{HoldsAt}
use Rattle.terms.specs.declared.refusals.Refusal.{Refusal}
use Rattle.terms.specs.declared.refusals.Refusal.TheVariants.{OffSheet, Full, Twice, Blank, OutOfRange, Crowded, NotLive, TooWide, Short, NoLineUp, NotListed, OddLength}

-- the number by which files and output name a refusal
abbrev pub refusal_number : Refusal → ℕ
refusal_number OffSheet = 1
refusal_number Full = 2
refusal_number Twice = 3
refusal_number Blank = 4
refusal_number OutOfRange = 5
refusal_number Crowded = 6
refusal_number NotLive = 7
refusal_number TooWide = 8
refusal_number Short = 9
refusal_number NoLineUp = 10
refusal_number NotListed = 11
refusal_number OddLength = 12

-- the bytes of a refusal's word
abbrev pub refusal_word : Refusal → List ℕ
refusal_word OffSheet = codes "off sheet"
refusal_word Full = codes "full"
refusal_word Twice = codes "twice"
refusal_word Blank = codes "blank"
refusal_word OutOfRange = codes "out of range"
refusal_word Crowded = codes "crowded"
refusal_word NotLive = codes "not live"
refusal_word TooWide = codes "too wide"
refusal_word Short = codes "short"
refusal_word NoLineUp = codes "no line-up"
refusal_word NotListed = codes "not listed"
refusal_word OddLength = codes "odd length"

-- The row of the table in which a refusal stands, counted from the top. It is no number of the refusal: a row that joins the table
-- moves those below it, and changes no number.
abbrev pub stands : Refusal → ℕ
stands OffSheet = 0
stands Full = 1
stands Twice = 2
stands Blank = 3
stands OutOfRange = 4
stands Crowded = 5
stands NotLive = 6
stands TooWide = 7
stands Short = 8
stands NoLineUp = 9
stands NotListed = 10
stands OddLength = 11

-- ---- The refusal that carries more than its number: a file that cannot be read. It is a type of its own, and its entry in the table is here.

abbrev pub bad_file_number : ℕ
bad_file_number = 13

abbrev pub bad_file_word : List ℕ
bad_file_word = codes "bad file"

-- its row
abbrev pub bad_file_stands : ℕ
bad_file_stands = 12

-- ---- Which row answers

-- a row as one call meets it: whether it fits the call, and the refusal
pub record Row : Type 0 where
  pub fits : Bool
  pub refusal : Refusal

abbrev pub row : Bool → Refusal → Row
row b e = record { fits = b; refusal = e }

-- the refusal of the first row that fits, where one does
abbrev pub uppermost : List Row → Option Refusal
uppermost [] = None
uppermost (x ∷ xs) = cond x.fits (Some x.refusal) (uppermost xs)

-- a call's answer: its refusal, or else its value
abbrev pub answered : {X : Type 0} → Option Refusal → X → Result X Refusal
answered None x = Ok x
answered (Some e) x = Err e

-- what a call leaves behind: what was there where it is refused, else what it makes
abbrev pub unless : {X : Type 0} → Option Refusal → X → X → X
unless None refused accepted = accepted
unless (Some e) refused accepted = refused

-- no row fits
abbrev pub NoneFits : List Row → Type 0
NoneFits rs = (k : ℕ) (d : Row) → k < length rs → (slice_index_or rs k d).fits ≡ false

-- the refusal is that of a row that fits, and no row that fits stands above it
abbrev pub Tops : List Row → Refusal → Type 0
Tops rs e =
    ((k : ℕ) × (k < length rs) × HoldsAt (λ r. (r.fits ≡ true) × (r.refusal ≡ e)) rs k)
    × ((k : ℕ) (d : Row) → k < length rs → (slice_index_or rs k d).fits ≡ true → stands e ≤ stands (slice_index_or rs k d).refusal)

-- the answer to a list of rows is the uppermost of those that fit, as they stand in the table, and none exactly where none fits
abbrev pub Uppermost : List Row → Type 0
Uppermost rs = MatchOption (uppermost rs) (NoneFits rs) (Tops rs)
