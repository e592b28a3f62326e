-- The examples of docs/ELIMINATION.md and docs/RATINGS.md: the calls that make each, and what is said of it.
use Rattle.std.specs.Prelude.{◌≡◌, ℕ, ◌+◌, ◌^◌, ◌≤◌, true, false, List, [], ◌∷◌, ◌++◌, map, ℤ, pos, negsuc, Some, None, Ok, Err, filter}
use Rattle.terms.specs.Refusals.{refusal_number}
use Rattle.terms.specs.Relations.{relation_number}
use Rattle.terms.specs.Terms.{worth}
use Rattle.terms.specs.declared.polynomials.Term.{Term}
use Rattle.terms.specs.declared.refusals.Refusal.TheVariants.{NoLineUp}
use Rattle.terms.specs.declared.relations.Relation.{Relation}
use Rattle.terms.specs.declared.relations.Relation.TheVariants.{Equal, AtMost}
use Rattle.sheet.specs.declared.cards.Pin.TheVariants.{In}
use Rattle.sheet.specs.declared.prices.Price.{Price}
use Rattle.sheet.specs.Cards.{Sets}
use Rattle.sheet.specs.Ledger.{Contents, Call, Declares, Posts, Prices, posting, price_of, put, tell}
use Rattle.elimination.specs.Lawful.{lawful, line_ups}
use Rattle.elimination.specs.Links.{link_sets}
use Rattle.elimination.specs.Codes.{codes}
use Rattle.elimination.specs.Of.{asked}
use Rattle.elimination.specs.Answers.{cells_needed, solve_answer, trial_answer}
use Rattle.solutions.specs.Walks.{listing}
use Rattle.solutions.specs.Answers.{next_answer}
use Rattle.figures.specs.Ratings.{count_operations, takings_operations, takings_first}
use Rattle.rating.specs.Answers.{rate_answer, best_answer, takings_answer}

-- ---- The words of the examples

-- the group of one spot
abbrev pub alone : ℕ → ℕ
alone spot = 2 ^ spot

-- a term
abbrev pub term : ℤ → ℕ → Term
term coefficient group = record { coefficient = coefficient; group = group }

-- the declaration of each house
abbrev pub declares : List ℕ → List Call
declares houses = map Declares houses

-- the post of rule 0
abbrev pub posts : Relation → ℤ → List Term → Call
posts relation bound terms = Posts (posting 0 (relation_number relation) bound terms)

-- the setting of each price
abbrev pub prices : List Price → List Call
prices ps = map (λ p. Prices p.amount p.group) ps

-- ---- Break A: 40 seconds, and spots of 30, 20, 10 and 10 seconds

-- the house numbers
abbrev pub break_a_houses : List ℕ
break_a_houses = 101 ∷ 102 ∷ 103 ∷ 104 ∷ []

-- how long each spot is
abbrev pub break_a_lengths : List Term
break_a_lengths = term (pos 30) (alone 0) ∷ term (pos 20) (alone 1) ∷ term (pos 10) (alone 2) ∷ term (pos 10) (alone 3) ∷ []

-- how long the break is
abbrev pub break_a_length : ℤ
break_a_length = pos 40

-- what each spot pays
abbrev pub break_a_prices : List Price
break_a_prices = price_of (pos 50) (alone 0) ∷ price_of (pos 30) (alone 1) ∷ price_of (pos 20) (alone 2) ∷ price_of (pos 10) (alone 3) ∷ []

-- the calls that book the break
abbrev pub break_a : List Call
break_a = declares break_a_houses ++ posts AtMost break_a_length break_a_lengths ∷ prices break_a_prices

-- what the calls make: no call is refused
abbrev pub break_a_contents : Contents
break_a_contents = record {
  houses = break_a_houses;
  rules = put (λ _. None) 0 (Some (record { relation = AtMost; bound = break_a_length; terms = break_a_lengths }));
  prices = break_a_prices;
}

-- its choice table with the empty card: the cell of spot 0, the two of spot 1, the four of spot 2, the eight of spot 3
abbrev pub break_a_codes : List ℕ
break_a_codes = 2 ∷ 2 ∷ 0 ∷ 2 ∷ 2 ∷ 2 ∷ 3 ∷ 2 ∷ 2 ∷ 2 ∷ 3 ∷ 2 ∷ 0 ∷ 2 ∷ 3 ∷ []

-- the line-up of spots 1, 2 and 3
abbrev pub all_but_spot_0 : ℕ
all_but_spot_0 = 14

-- A line-up without spot 0 is lawful and fills the break, yet spot 0 can run, though not beside spot 1. Behind that line-up comes the one of
-- spot 0 alone, and behind the one of spots 0 and 2 none.
pub record BreakA : Type 0 where
  pub made : (tell break_a).contents ≡ break_a_contents
  pub needed : cells_needed (asked break_a []) ≡ 15
  pub table : codes (asked break_a []) ≡ break_a_codes
  pub allowed : lawful (asked break_a []) all_but_spot_0 ≡ true
  pub filled : worth break_a_lengths all_but_spot_0 ≡ break_a_length
  pub tried : (cells : ℕ) → 15 ≤ cells → trial_answer (asked break_a []) 0 cells ≡ Ok true
  pub tried_beside : (cells : ℕ) → 15 ≤ cells → trial_answer (asked break_a (Sets 1 In ∷ [])) 0 cells ≡ Ok false
  pub next : next_answer (link_sets break_a_contents) break_a_codes (Some all_but_spot_0) ≡ Ok (Some (alone 0))
  pub last : next_answer (link_sets break_a_contents) break_a_codes (Some (alone 0 + alone 2)) ≡ Ok None

-- ---- Small sheets

-- of two spots exactly one runs
abbrev pub one_of_two : List Call
one_of_two = declares (101 ∷ 102 ∷ []) ++ posts Equal (pos 1) (term (pos 1) (alone 0) ∷ term (pos 1) (alone 1) ∷ []) ∷ []

-- of two spots both run
abbrev pub both_of_two : List Call
both_of_two = declares (101 ∷ 102 ∷ []) ++ posts Equal (pos 1) (term (pos 1) (alone 0 + alone 1) ∷ []) ∷ []

-- twice one spot is 1, which no line-up meets
abbrev pub twice_is_one : List Call
twice_is_one = declares (101 ∷ []) ++ posts Equal (pos 1) (term (pos 2) (alone 0) ∷ []) ∷ []

-- spot 0 may run or not, and spot 1 runs where it does not
abbrev pub OneOfTwo : Type 0
OneOfTwo = codes (asked one_of_two []) ≡ 2 ∷ 1 ∷ 0 ∷ []

-- spot 0 has to run, and then spot 1; the cell without spot 0 is dead
abbrev pub BothOfTwo : Type 0
BothOfTwo = codes (asked both_of_two []) ≡ 1 ∷ 3 ∷ 1 ∷ []

-- the one cell is dead, and solve answers that there is no line-up
pub record TwiceIsOne : Type 0 where
  pub table : codes (asked twice_is_one []) ≡ 3 ∷ []
  pub refused : (cells : ℕ) → 1 ≤ cells → solve_answer (asked twice_is_one []) cells ≡ Err NoLineUp
  pub number : refusal_number NoLineUp ≡ 10

-- a sheet without spots has one lawful line-up, the empty one, which its empty choice table lists
pub record NoSpots : Type 0 where
  pub solved : (cells : ℕ) → solve_answer (asked [] []) cells ≡ Ok tt
  pub table : codes (asked [] []) ≡ []
  pub allowed : filter (lawful (asked [] [])) (line_ups 0) ≡ 0 ∷ []
  pub listed : listing (link_sets (asked [] []).contents) (codes (asked [] [])) ≡ 0 ∷ []
  pub counted : (choices figures : ℕ) → rate_answer count_operations (asked [] []) choices figures ≡ Ok 1

-- three spots, and nothing that holds them to anything
abbrev pub three_free : List Call
three_free = declares (101 ∷ 102 ∷ 103 ∷ [])

-- eight line-ups are lawful
abbrev pub ThreeFree : Type 0
ThreeFree = (choices figures : ℕ) → 3 ≤ choices → 3 ≤ figures → rate_answer count_operations (asked three_free []) choices figures ≡ Ok 8

-- two spots that are worth less together
abbrev pub less_together : List Call
less_together =
    declares (101 ∷ 102 ∷ [])
    ++ prices (price_of (pos 5) (alone 0) ∷ price_of (pos 4) (alone 1) ∷ price_of (negsuc 6) (alone 0 + alone 1) ∷ [])

-- Takings are 5, and the best line-up is that of spot 0 alone. Its figure is 12: the amount of 5, and the 7 that are not lost.
pub record LessTogether : Type 0 where
  pub taken : (choices figures : ℕ) → 3 ≤ choices → 3 ≤ figures → takings_answer (asked less_together []) choices figures ≡ Ok (pos 5)
  pub best : (choices figures : ℕ) → 3 ≤ choices → 3 ≤ figures
      → best_answer takings_operations takings_first (asked less_together []) choices figures ≡ Ok (12, alone 0)

-- ---- All of them

-- every example
abbrev pub Examples : Type 0
Examples = BreakA × OneOfTwo × BothOfTwo × TwiceIsOne × NoSpots × ThreeFree × LessTogether
