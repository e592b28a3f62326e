-- Words of the inner functions that convert a table: no public contract cites them.
use Rattle.std.specs.Prelude.{ℕ, ◌-◌, ◌^◌, ◌<◌, cond, List, ℤ, pos, nat_lt, slice_index_or, unsigned_abs}
use Rattle.terms.specs.Refusals.{unless}
use Rattle.tables.specs.Tables.{Operation, applied, converted, table_refusal}

-- the number is so small that the operation on two such numbers fits 64 bits
abbrev pub Near : ℤ → Type 0
Near z = unsigned_abs z < 2 ^ 62

-- the join of a table's halves: the lower half stays, and the operation is applied to each entry of the upper half with the one below it
abbrev pub joined : Operation → ℕ → List ℤ → ℕ → ℤ
joined o half xs g = cond (nat_lt g half) (slice_index_or xs g (pos 0)) (applied o (slice_index_or xs g (pos 0)) (slice_index_or xs (g - half) (pos 0)))

-- the table after a conversion
abbrev pub converted_table : Operation → List ℤ → List ℤ
converted_table o xs = unless (table_refusal xs) xs (converted o xs)
