-- What is promised of two histories, one of calls on a sheet and one of pins, and of the questions that are then asked.
use Rattle.std.specs.Prelude.{◌≡◌, ◌↔◌, ◌≤◌, ℕ, true, false, List, ◌++◌, map, length, drop, min, Some, Ok, Err, Result}
use Rattle.terms.specs.Groups.{beyond}
use Rattle.terms.specs.Refusals.{uppermost}
use Rattle.terms.specs.declared.refusals.Refusal.{Refusal}
use Rattle.terms.specs.declared.refusals.Refusal.TheVariants.{NoLineUp}
use Rattle.sheet.specs.Cards.{pin_call}
use Rattle.sheet.specs.History.{call}
use Rattle.elimination.specs.Lawful.{Question, spot_count, lawful}
use Rattle.elimination.specs.Links.{link_sets, too_wide}
use Rattle.elimination.specs.Codes.{codes}
use Rattle.elimination.specs.Of.{asked}
use Rattle.elimination.specs.Answers.{names_undeclared, cells_needed, first_rows}
use Rattle.elimination.specs.Verdicts.{NoneLawful}
use Rattle.solutions.specs.Walks.{instance_of}
use Rattle.figures.specs.Operations.{Operations}
use Rattle.lineup.specs.declared.histories.Histories.{Histories}
use Rattle.rating.specs.Figures.{choice_over_lawful}
use Rattle.rating.specs.Best.{IsBest}

-- the question that the histories lead to: what they tell of a new sheet and a new card by their arguments alone, refused calls included
abbrev pub told : Histories → Question
told h = asked (map call h.bookings.now) (map pin_call h.pinnings.now)

-- The premises, and the only ones: the sheet is not too wide, the card names declared spots only, and no table is below the need.
pub record Fits {F G : Type 0} (q : Question) (choices : List ℕ) (figures : List F) (ranked_figures : List G) : Type 0 where
  pub narrow : too_wide (link_sets q.contents) ≡ false
  pub declared : names_undeclared q ≡ false
  pub enough_choices : cells_needed q ≤ length choices
  pub enough_figures : cells_needed q ≤ length figures
  pub enough_ranked : cells_needed q ≤ length ranked_figures

-- some line-up is lawful
abbrev pub Possible : Question → Type 0
Possible q = (x : ℕ) × (lawful q x ≡ true)

-- solve says that there is no line-up exactly when none is lawful
abbrev pub NoneExactly : Question → Result (Unit {0}) Refusal → Type 0
NoneExactly q solved = (solved ≡ Err NoLineUp) ↔ NoneLawful q

-- otherwise solve accepts, and the choice table holds the codes, and behind them what it held
abbrev pub HoldsCodes : Question → Result (Unit {0}) Refusal → List ℕ → List ℕ → Type 0
HoldsCodes q solved before after =
    Possible q → (solved ≡ Ok tt) × (after ≡ codes q ++ drop (cells_needed q) before)

-- whatever the switches among the declared spots, instance answers the line-up that they give, which is lawful
abbrev pub InstanceLawful : Question → List ℕ → ℕ → Result ℕ Refusal → Type 0
InstanceLawful q table switches instance =
    Possible q → beyond (spot_count q.contents) switches ≡ false
    → (instance ≡ Ok (instance_of (link_sets q.contents) table switches)) × (lawful q (instance_of (link_sets q.contents) table switches) ≡ true)

-- a lawful line-up as switches gives itself
abbrev pub GivesItself : Question → ℕ → Result ℕ Refusal → Type 0
GivesItself q switches instance = lawful q switches ≡ true → instance ≡ Ok switches

-- rate answers the choice over all lawful line-ups, each once, of their figures
abbrev pub RateOverAll : {F : Type 0} → Operations F → Question → Result F Refusal → Type 0
RateOverAll {F} o q rate = Possible q → (f : F) × (rate ≡ Ok f) × (choice_over_lawful o q ≡ Some f)

-- Best answers the figure that rate answers, and a line-up: it is lawful, has that figure, and no lawful line-up's figure beats it.
abbrev pub BestOfAll : {F : Type 0} → Operations F → Question → Result F Refusal → Result (F × ℕ) Refusal → Type 0
BestOfAll {F} o q rate best = Possible q → (f : F) × (x : ℕ) × (rate ≡ Ok f) × (best ≡ Ok (f, x)) × IsBest o q f x

-- where a premise fails, as a row of the table of refusals says with tables of so many cells, the answer is the uppermost that does
abbrev pub RefusedSo : {X : Type 0} → Question → ℕ → Result X Refusal → Type 0
RefusedSo q cells answer = (e : Refusal) → uppermost (first_rows q cells) ≡ Some e → answer ≡ Err e

-- so is each answer; those that rate measure the shorter of both tables
pub record EachRefused {F G : Type 0} (q : Question) (choices figures ranked : ℕ) (solved : Result (Unit {0}) Refusal) (instance : Result ℕ Refusal)
    (rate : Result F Refusal) (ranked_rate : Result G Refusal) (best : Result (G × ℕ) Refusal) : Type 0 where
  pub solve_refused : RefusedSo q choices solved
  pub instance_refused : RefusedSo q choices instance
  pub rate_refused : RefusedSo q (min choices figures) rate
  pub ranked_rate_refused : RefusedSo q (min choices ranked) ranked_rate
  pub best_refused : RefusedSo q (min choices ranked) best

-- an answer that is asked for only where solve accepts
abbrev pub after_solve : {X : Type 0} → Result (Unit {0}) Refusal → Result X Refusal → Result X Refusal
after_solve (Ok x) answer = answer
after_solve (Err e) answer = Err e
