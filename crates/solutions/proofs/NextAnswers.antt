-- What `next` answers, told by walks.
use Rattle.std.proofs.Common.{◌≡◌, ℕ, ◌^◌, List, length, Some, None, Ok, Err, Option, Result, sym, ap, ◌∙◌, ap₂}
use Rattle.std.specs.Option.{option_map}
use Rattle.std.specs.Result.{MatchResult, IsOkAnd}
use Rattle.std.proofs.lemmas.Nat.{pow_pos}
use Rattle.std.proofs.lemmas.Bool.{eq-eqb, lt-leb}
use Rattle.terms.specs.Refusals.{uppermost, answered}
use Rattle.terms.specs.declared.refusals.Refusal.{Refusal}
use Rattle.solutions.specs.Walks.{instance_of}
use Rattle.solutions.specs.Answers.{instance_rows, next_answer}
use Rattle.solutions.specs.Turns.{turns_from}
use Rattle.solutions.proofs.Following.{first_listed, following_listed}
use Rattle.solutions.proofs.Rows.{within_rows, listed_free}

-- from none on
pub next_first : (ms bytes : List ℕ) → next_answer ms bytes None ≡ answered (uppermost (instance_rows ms bytes 0)) (Some (instance_of ms bytes 0))
next_first ms bytes = ap₂ answered (sym (within_rows ms bytes 0 (lt-leb (2 ^ length ms) 0 (pow_pos (length ms))))) (first_listed ms bytes)

-- after a line-up that is listed, by the last turn of its walk
pub next_after : (ms bytes : List ℕ) (x : ℕ) (turn : Option ℕ) → uppermost (instance_rows ms bytes x) ≡ None → instance_of ms bytes x ≡ x
    → turns_from ms bytes x 0 0 None ≡ turn → next_answer ms bytes (Some x) ≡ Ok (option_map (instance_of ms bytes) turn)
next_after ms bytes x turn free own turns =
    ap₂ answered (listed_free ms bytes x free (eq-eqb (instance_of ms bytes x) x own)) (following_listed ms bytes x own)
    ∙ ap (λ t. Ok (option_map (instance_of ms bytes) t)) turns

-- an answer whose value is put into `Some`
pub mapped_answer : (P : ℕ → Option ℕ → Type 0) → ((x : ℕ) (y : Option ℕ) → P x y → y ≡ Some x) → (refusal : Option Refusal) (x : ℕ)
    (r : Result (Option ℕ) Refusal) → MatchResult (answered refusal x) (λ y. IsOkAnd r (P y)) (λ e. r ≡ Err e) → r ≡ answered refusal (Some x)
mapped_answer P says None x (Ok y) h = ap Ok (says x y h)
mapped_answer P says None x (Err e) h = absurd h
mapped_answer P says (Some e) x r h = h
