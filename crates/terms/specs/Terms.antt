-- Terms, what they are worth at a line-up, and what makes a list of them unfit for a rule.
use Rattle.std.specs.Prelude.{ℕ, Bool, cond, ◌||◌, List, [], ◌∷◌, map, ℤ, pos, ◌+ℤ◌, ◌==◌, nat_lt, unsigned_abs}
use Rattle.terms.specs.declared.polynomials.Term.{Term}
use Rattle.terms.specs.Groups.{inside, union}
use Rattle.terms.specs.Limits.{most_coefficient}

abbrev pub group_of : Term → ℕ
group_of t = t.group

-- a term is worth its coefficient in a line-up in which its whole group runs, else 0
abbrev pub term_worth : Term → ℕ → ℤ
term_worth t x = cond (inside t.group x) t.coefficient (pos 0)

-- what terms are worth at a line-up: the value of the polynomial that is their sum
abbrev pub worth : List Term → ℕ → ℤ
worth [] x = pos 0
worth (t ∷ ts) x = term_worth t x +ℤ worth ts x

-- the group of the spots that some term names
abbrev pub named : List Term → ℕ
named ts = union (map group_of ts)

-- a term without spots
abbrev pub blank : Term → Bool
blank t = t.group == 0

-- a coefficient that is 0 or too large
abbrev pub unfit : Term → Bool
unfit t = unsigned_abs t.coefficient == 0 || nat_lt most_coefficient (unsigned_abs t.coefficient)

-- what an empty place of a table holds: a term of a rule names at least one spot
abbrev pub no_term : Term
no_term = record { coefficient = pos 0; group = 0 }
