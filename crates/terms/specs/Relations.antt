-- The relations between the sum of a rule's terms and its bound, and their numbers.
use Rattle.std.specs.Prelude.{◌≡◌, ℕ, zero, suc, ◌≤◌, Bool, List, ℤ, ◌-ℤ◌, Some, None, Option, Result, MatchResult, codes, ◌==◌, int_le, unsigned_abs}
use Rattle.std.specs.Option.{ok_or}
use Rattle.terms.specs.Limits.{relation_count}
use Rattle.terms.specs.declared.refusals.Refusal.{Refusal}
use Rattle.terms.specs.declared.refusals.Refusal.TheVariants.{OutOfRange}
use Rattle.terms.specs.declared.relations.Relation.{Relation}
use Rattle.terms.specs.declared.relations.Relation.TheVariants.{Equal, AtMost, AtLeast}

-- the number by which calls and files name a relation
abbrev pub relation_number : Relation → ℕ
relation_number Equal = 0
relation_number AtMost = 1
relation_number AtLeast = 2

-- the relation with this number, where there is one
abbrev pub relation_of : ℕ → Option Relation
relation_of zero = Some Equal
relation_of (suc zero) = Some AtMost
relation_of (suc (suc zero)) = Some AtLeast
relation_of (suc (suc (suc n))) = None

-- a number as a relation: the relation with this number, from which it is read back, or out of range where there is none
pub record IsRelationOf (number : ℕ) (r : Result Relation Refusal) : Type 0 where
  pub value : r ≡ ok_or (relation_of number) OutOfRange
  pub back : MatchResult r (λ relation. relation_number relation ≡ number) (λ _. relation_count ≤ number)

-- the bytes of a relation's word
abbrev pub relation_word : Relation → List ℕ
relation_word Equal = codes "equal to"
relation_word AtMost = codes "at most"
relation_word AtLeast = codes "at least"

-- the sum of a rule's terms stands in the relation to the rule's bound
abbrev pub meets : Relation → ℤ → ℤ → Bool
meets Equal bound sum = unsigned_abs (sum -ℤ bound) == 0
meets AtMost bound sum = int_le sum bound
meets AtLeast bound sum = int_le bound sum
