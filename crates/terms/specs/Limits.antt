-- The limits of one rule.
use Rattle.std.specs.Prelude.{ℕ}

-- the largest size of a coefficient
abbrev pub most_coefficient : ℕ
most_coefficient = 1000000

-- the most terms of a rule
abbrev pub most_terms : ℕ
most_terms = 64

-- the most spots that a rule names in all, and the most of a price
abbrev pub most_named : ℕ
most_named = 10

-- the largest size of a bound
abbrev pub most_bound : ℕ
most_bound = 1000000000

-- relations are numbered from 0, below this
abbrev pub relation_count : ℕ
relation_count = 3
