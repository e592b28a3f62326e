-- The limits of a table.
use Rattle.std.specs.Prelude.{ℕ}

-- the largest size of an entry of a table that is converted
abbrev pub most_entry : ℕ
most_entry = 1000000000000000

-- the most spots that a table is over
abbrev pub most_table_spots : ℕ
most_table_spots = 10
