-- What the line-ups that are read off a choice table have to do with the lawful ones of the question that it was filled for.
use Rattle.std.specs.Prelude.{◌≡◌, ℕ, true, List, length, filter}
use Rattle.elimination.specs.Lawful.{Question, lawful, line_ups}
use Rattle.elimination.specs.Accepted.{LeftBySolve}
use Rattle.solutions.specs.Walks.{instance_of, listing}

-- The line-up of the switches is lawful; and where the switches are themselves a lawful line-up, it is that one.
abbrev pub SolvedSays : List ℕ → List ℕ → ℕ → Type 0
SolvedSays ms bytes switches =
    (q : Question) → LeftBySolve q ms bytes
    → (lawful q (instance_of ms bytes switches) ≡ true) × (lawful q switches ≡ true → instance_of ms bytes switches ≡ switches)

-- The line-ups that are listed are the lawful ones.
abbrev pub ListsLawful : List ℕ → List ℕ → Type 0
ListsLawful ms bytes = (q : Question) → LeftBySolve q ms bytes → listing ms bytes ≡ filter (lawful q) (line_ups (length ms))
