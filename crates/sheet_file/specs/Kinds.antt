-- The kinds of record that a sheet file has, each with its number and the length of its body.
use Rattle.std.specs.Prelude.{ℕ, zero, suc, Some, None, Option}
use Rattle.sheet_file.specs.declared.kinds.Kind.{Kind}
use Rattle.sheet_file.specs.declared.kinds.Kind.TheVariants.{Spot, Rule, Term, Price}

-- the number by which a record's first byte names its kind
abbrev pub kind_number : Kind → ℕ
kind_number Spot = 1
kind_number Rule = 2
kind_number Term = 3
kind_number Price = 4

-- the kind with this number, where there is one
abbrev pub kind_of : ℕ → Option Kind
kind_of zero = None
kind_of (suc zero) = Some Spot
kind_of (suc (suc zero)) = Some Rule
kind_of (suc (suc (suc zero))) = Some Term
kind_of (suc (suc (suc (suc zero)))) = Some Price
kind_of (suc (suc (suc (suc (suc n))))) = None

-- how many bytes stand behind the byte of the kind
abbrev pub body_length : Kind → ℕ
body_length Spot = 4
body_length Rule = 6
body_length Term = 8
body_length Price = 8
