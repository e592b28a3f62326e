-- Tables of terms and tables of values, and the conversion of each into the other.
use Rattle.std.specs.Prelude.{ℕ, zero, suc, ◌+◌, ◌^◌, Bool, cond, not, List, [], ◌∷◌, map, length, ℤ, pos, ◌+ℤ◌, ◌-ℤ◌, Option, Result, ◌==◌, bit_xor, nat_eq, nat_lt, unsigned_abs}
use Rattle.std.specs.List.{range_with_len}
use Rattle.terms.specs.declared.polynomials.Term.{Term}
use Rattle.terms.specs.declared.refusals.Refusal.{Refusal}
use Rattle.terms.specs.declared.refusals.Refusal.TheVariants.{OutOfRange, OddLength}
use Rattle.terms.specs.Groups.{size}
use Rattle.tables.specs.Limits.{most_entry, most_table_spots}
use Rattle.terms.specs.Packing.{packed_terms}
use Rattle.terms.specs.Refusals.{Row, row, uppermost, answered, unless}
use Rattle.terms.specs.Terms.{worth, named}
use Rattle.terms.specs.Tests.{any}

-- the values of a function below n
abbrev pub tabulated : ℕ → (ℕ → ℤ) → List ℤ
tabulated n f = map f (range_with_len 0 n)

-- a term table read as terms: the first entry is a coefficient for group g, the next one for group g + 1, and so on
abbrev pub terms_from : ℕ → List ℤ → List Term
terms_from g [] = []
terms_from g (c ∷ cs) = record { coefficient = c; group = g } ∷ terms_from (g + 1) cs

abbrev pub as_terms : List ℤ → List Term
as_terms cs = terms_from 0 cs

-- the value table of a term table: entry g is what the terms are worth at line-up g
abbrev pub values : List ℤ → List ℤ
values cs = tabulated (length cs) (worth (as_terms cs))

-- ---- The conversion, one way or the other

-- the operation of a conversion: plus to values, minus to terms
pub data Operation : Type 0 where
  plus : Operation
  minus : Operation

abbrev pub applied : Operation → ℤ → ℤ → ℤ
applied plus a b = a +ℤ b
applied minus a b = a -ℤ b

-- the number taken from 0 by the operation, n times over: minus turns its sign each time
abbrev pub turned : Operation → ℕ → ℤ → ℤ
turned o zero z = z
turned o (suc n) z = applied o (pos 0) (turned o n z)

-- the term, turned once for each spot in which its group and g differ
abbrev pub turned_term : Operation → ℕ → Term → Term
turned_term o g t = record { coefficient = turned o (size (bit_xor t.group g)) t.coefficient; group = t.group }

-- entry g is the sum of the entries of the groups inside g, each turned once for each spot of g that it lacks
abbrev pub converted : Operation → List ℤ → List ℤ
converted o xs = tabulated (length xs) (λ g. worth (map (turned_term o g) (as_terms xs)) g)

-- the term table of a value table: inclusion and exclusion (Möbius inversion)
abbrev pub coefficients : List ℤ → List ℤ
coefficients vs = converted minus vs

-- ---- The two calls

-- an entry beyond what a conversion takes
abbrev pub large : ℤ → Bool
large z = nat_lt most_entry (unsigned_abs z)

-- the number of line-ups of some spots, if they are few enough: a power of two
unfoldable pub is_table_length : ℕ → Bool
is_table_length n = any (λ k. nat_eq n (2 ^ k)) (range_with_len 0 (suc most_table_spots))

abbrev pub table_rows : List ℤ → List Row
table_rows xs =
    row (any large xs) OutOfRange
    ∷ row (not (is_table_length (length xs))) OddLength
    ∷ []

-- the refusal of a conversion, where a row fits the table
abbrev pub table_refusal : List ℤ → Option Refusal
table_refusal xs = uppermost (table_rows xs)

-- what either conversion answers
abbrev pub table_answer : List ℤ → Result (Unit {0}) Refusal
table_answer xs = answered (table_refusal xs) tt

-- the table after `to_values`
abbrev pub to_values_table : List ℤ → List ℤ
to_values_table xs = unless (table_refusal xs) xs (values xs)

-- the table after `to_terms`
abbrev pub to_terms_table : List ℤ → List ℤ
to_terms_table xs = unless (table_refusal xs) xs (coefficients xs)

-- ---- The table of a rule

-- the coefficient of a group in a sum of terms
abbrev pub coefficient_in : List Term → ℕ → ℤ
coefficient_in [] g = pos 0
coefficient_in (t ∷ ts) g = cond (t.group == g) t.coefficient (pos 0) +ℤ coefficient_in ts g

-- the term table of a rule's terms over the spots that they name: the groups are packed, and what no term has is 0
abbrev pub rule_table : List Term → List ℤ
rule_table ts = tabulated (2 ^ size (named ts)) (coefficient_in (packed_terms (named ts) ts))
