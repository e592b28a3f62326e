-- The limits of a sheet.
use Rattle.std.specs.Prelude.{ℕ}

abbrev pub most_spots : ℕ
most_spots = 32

-- the term places
abbrev pub place_count : ℕ
place_count = 512

-- rules are numbered from 0, below this
abbrev pub rule_numbers : ℕ
rule_numbers = 64

abbrev pub most_prices : ℕ
most_prices = 128

-- the largest size of an amount
abbrev pub most_amount : ℕ
most_amount = 1000000
