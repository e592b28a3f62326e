-- What a run of `next` answers, each call given the answer of the call before, and how line-ups are ordered.
use Rattle.std.specs.Prelude.{◌≡◌, ℕ, zero, suc, ◌%◌, ◌^◌, ◌<◌, ◌≤◌, ◌↔◌, true, false, List, [], ◌∷◌, ◌++◌, map, length, Some, None, Ok, Err, Option, Result}
use Rattle.std.specs.List.{AllPairs, Contains}
use Rattle.terms.specs.declared.refusals.Refusal.{Refusal}
use Rattle.terms.specs.Groups.{holds}
use Rattle.elimination.specs.Lawful.{line_ups}
use Rattle.elimination.specs.Links.{need}
use Rattle.solutions.specs.Walks.{instance_of, listing, first}
use Rattle.solutions.specs.Answers.{next_answer}

-- what the next call is given
abbrev pub given_on : Result (Option ℕ) Refusal → Option ℕ
given_on (Ok after) = after
given_on (Err e) = None

-- the answers of n calls, the first one given `after`
abbrev pub answers_of : List ℕ → List ℕ → ℕ → Option ℕ → List (Result (Option ℕ) Refusal)
answers_of ms bytes zero after = []
answers_of ms bytes (suc n) after = next_answer ms bytes after ∷ answers_of ms bytes n (given_on (next_answer ms bytes after))

-- from none on the answers are the line-ups that are listed, in order, each once, and then absent
abbrev pub RunsThrough : List ℕ → List ℕ → Type 0
RunsThrough ms bytes =
    need ms ≤ length bytes
    → answers_of ms bytes (suc (length (listing ms bytes))) None ≡ map (λ x. Ok (Some x)) (listing ms bytes) ++ Ok None ∷ []

-- x comes before y: at the lowest spot in which they differ, y runs it and x does not
abbrev pub Before : ℕ → ℕ → Type 0
Before x y = (i : ℕ) × (x % 2 ^ i ≡ y % 2 ^ i) × (holds x i ≡ false) × (holds y i ≡ true)

-- the line-ups of n spots are all groups of them, in order
abbrev pub InOrder : Type 0
InOrder = (n : ℕ) → ((x : ℕ) → Contains (line_ups n) x ↔ (x < 2 ^ n)) × AllPairs Before (line_ups n)

-- some line-up is always listed, and the first of them is that of no switches
abbrev pub HasFirst : List ℕ → List ℕ → Type 0
HasFirst ms bytes = first (listing ms bytes) ≡ Some (instance_of ms bytes 0)
