-- The polynomial normal form: every function of line-ups is the worth of exactly one table of terms.
use Rattle.std.specs.Prelude.{◌≡◌, ℕ, zero, suc, ◌^◌, ◌<◌, ◌≤◌, cond, List, length, get_or, ℤ, pos, ◌+ℤ◌, Ok, Decides, ◌≢◌, slice_index_or}
use Rattle.terms.specs.declared.polynomials.Term.{Term}
use Rattle.terms.specs.Groups.{inside, size}
use Rattle.tables.specs.Limits.{most_table_spots}
use Rattle.terms.specs.Packing.{packed}
use Rattle.tables.specs.Tables.{as_terms, values, is_table_length, table_answer, to_values_table, to_terms_table, rule_table}
use Rattle.terms.specs.Terms.{worth, named, no_term}

-- a table's length is that of the line-ups of few enough spots
abbrev pub LengthSays : Type 0
LengthSays = (n : ℕ) → Decides (is_table_length n) ((k : ℕ) × (k ≤ most_table_spots) × (n ≡ 2 ^ k))

-- the sum of a function's values below n
abbrev pub total : ℕ → (ℕ → ℤ) → ℤ
total zero f = pos 0
total (suc n) f = total n f +ℤ f n

-- a term table is worth, at each line-up, the sum of the entries of the groups inside it
abbrev pub SumsInside : Type 0
SumsInside = (cs : List ℤ) (g : ℕ) → worth (as_terms cs) g ≡ total (length cs) (λ h. cond (inside h g) (slice_index_or cs h (pos 0)) (pos 0))

-- the term table has the values of a function at the line-ups of k spots
abbrev pub HasValues : ℕ → (ℕ → ℤ) → List ℤ → Type 0
HasValues k f cs = (length cs ≡ 2 ^ k) × ((g : ℕ) → g < 2 ^ k → worth (as_terms cs) g ≡ f g)

-- for every function there is a term table with its values, and no other
abbrev pub IsNormalForm : Type 0
IsNormalForm = (k : ℕ) (f : ℕ → ℤ) → (cs : List ℤ) × HasValues k f cs × ((ds : List ℤ) → HasValues k f ds → ds ≡ cs)

-- term tables of one length with equal values are equal
abbrev pub Unique : Type 0
Unique = (k : ℕ) (cs ds : List ℤ) → length cs ≡ 2 ^ k → length ds ≡ 2 ^ k → values cs ≡ values ds → cs ≡ ds

-- the one term table of its length whose values are vs
abbrev pub OnlyTerms : List ℤ → List ℤ → Type 0
OnlyTerms vs cs = (values cs ≡ vs) × ((ds : List ℤ) → length ds ≡ length vs → values ds ≡ vs → ds ≡ cs)

-- one conversion undoes the other, unless one of the two refuses its table
abbrev pub Restores : (List ℤ → List ℤ) → (List ℤ → List ℤ) → List ℤ → Type 0
Restores first second xs = table_answer xs ≡ Ok tt → table_answer (first xs) ≡ Ok tt → second (first xs) ≡ xs

-- ---- Rules

-- the value table holds, at each line-up of the spots that the terms name, packed in order, what the terms are worth
abbrev pub HoldsSums : List Term → List ℤ → Type 0
HoldsSums ts vs = (length vs ≡ 2 ^ size (named ts)) × ((x : ℕ) → x < 2 ^ 32 → slice_index_or vs (packed (named ts) x) (pos 0) ≡ worth ts x)

-- where a term table over the spots that the terms name holds the term at place j
abbrev pub packed_place : List Term → ℕ → ℕ
packed_place ts j = packed (named ts) (get_or ts j no_term).group

-- each coefficient stands where its packed group is, and no other entry differs from 0
abbrev pub HoldsCoefficients : List Term → List ℤ → Type 0
HoldsCoefficients ts cs =
    (length cs ≡ 2 ^ size (named ts))
    × ((j : ℕ) → j < length ts → slice_index_or cs (packed_place ts j) (pos 0) ≡ (get_or ts j no_term).coefficient)
    × ((g : ℕ) → ((j : ℕ) → j < length ts → packed_place ts j ≢ g) → slice_index_or cs g (pos 0) ≡ pos 0)

-- The terms and their table over the spots that they name, which are few: the table holds the coefficients; `to_values` makes of it the
-- sums at all line-ups; and of any table of those sums `to_terms` makes that table again.
pub record HasTable (ts : List Term) : Type 0 where
  pub few : size (named ts) ≤ most_table_spots
  pub coefficients : HoldsCoefficients ts (rule_table ts)
  pub accepted : table_answer (rule_table ts) ≡ Ok tt
  pub sums : HoldsSums ts (to_values_table (rule_table ts))
  pub back : (vs : List ℤ) → HoldsSums ts vs → (table_answer vs ≡ Ok tt) × (to_terms_table vs ≡ rule_table ts)
