-- A run of `next` goes through the listing.
use Rattle.std.proofs.Common.{◌≡◌, ℕ, suc, ◌^◌, ◌<◌, ◌≤◌, false, eqb, List, [], ◌∷◌, ◌++◌, map, length, Some, None, Ok, filter, sym, refl, ap, ◌∙◌, subst}
use Rattle.std.specs.List.{AllByRecursion}
use Rattle.std.proofs.lemmas.Bool.{both_ways, cond-true, cond-false, eq-eqb, ne_eqb, lt-leb, cond_both}
use Rattle.std.proofs.ByRecursion.{All-weaker}
use Rattle.terms.specs.Groups.{holds}
use Rattle.terms.specs.Refusals.{answered}
use Rattle.elimination.specs.Lawful.{line_ups}
use Rattle.elimination.specs.Links.{need}
use Rattle.solutions.specs.Walks.{listed, listing, first, following}
use Rattle.solutions.specs.Answers.{next_answer}
use Rattle.solutions.specs.Runs.{Before, given_on, answers_of, RunsThrough}
use Rattle.solutions.proofs.Rows.{short_free, within_rows, listed_free}
use Rattle.solutions.proofs.Orders.{Ordered, ordered_kept, ordered_line_ups, line_ups_below}

before_differs : (x y : ℕ) → Before x y → eqb x y ≡ false
before_differs x y (i, same, off, on) = ne_eqb x y (λ e. both_ways (holds x i) off (ap (λ v. holds v i) e ∙ on))

-- each of the line-ups after x follows the one before it in the list l, and none the last
abbrev Chain : List ℕ → ℕ → List ℕ → Type 0
Chain l x [] = following l x ≡ None
Chain l x (y ∷ ys) = (following l x ≡ Some y) × Chain l y ys

chain_past : (w : ℕ) (l : List ℕ) (x : ℕ) (xs : List ℕ) → AllByRecursion (λ y. eqb w y ≡ false) (x ∷ xs) → Chain l x xs → Chain (w ∷ l) x xs
chain_past w l x [] apart h = cond-false (eqb w x) (first l) (following l x) apart.0 ∙ h
chain_past w l x (y ∷ ys) apart h =
    (cond-false (eqb w x) (first l) (following l x) apart.0 ∙ h.0, chain_past w l y ys apart.1 h.1)

chain_whole : (x : ℕ) (xs : List ℕ) → Ordered (x ∷ xs) → Chain (x ∷ xs) x xs
chain_whole x [] h = cond-true (eqb x x) None None (eq-eqb x x refl)
chain_whole x (y ∷ ys) h = (
  cond-true (eqb x x) (Some y) (following (y ∷ ys) x) (eq-eqb x x refl),
  chain_past x (y ∷ ys) y ys (All-weaker (Before x) (λ z. eqb x z ≡ false) (before_differs x) (y ∷ ys) h.0) (chain_whole y ys h.1),
)

-- given x, next answers what follows it
abbrev Answers : List ℕ → List ℕ → ℕ → Type 0
Answers ms bytes x = next_answer ms bytes (Some x) ≡ Ok (following (listing ms bytes) x)

run_from : (ms bytes : List ℕ) (x : ℕ) (xs : List ℕ) → Chain (listing ms bytes) x xs → AllByRecursion (Answers ms bytes) (x ∷ xs)
    → answers_of ms bytes (suc (length xs)) (Some x) ≡ map (λ y. Ok (Some y)) xs ++ Ok None ∷ []
run_from ms bytes x [] chain each = ap (λ a. a ∷ []) (each.0 ∙ ap Ok chain)
run_from ms bytes x (y ∷ ys) chain each =
    ap (λ a. a ∷ answers_of ms bytes (suc (length ys)) (given_on a)) (each.0 ∙ ap Ok chain.0)
    ∙ ap (λ l. Ok (Some y) ∷ l) (run_from ms bytes y ys chain.1 each.1)

each_answered : (ms bytes : List ℕ) → need ms ≤ length bytes → (xs : List ℕ) → AllByRecursion (λ x. x < 2 ^ length ms) xs
    → AllByRecursion (Answers ms bytes) (filter (listed ms bytes) xs)
each_answered ms bytes room [] below = tt
each_answered ms bytes room (x ∷ xs) below =
    let rest = each_answered ms bytes room xs below.1 in
    cond_both (listed ms bytes x) (x ∷ filter (listed ms bytes) xs) (filter (listed ms bytes) xs) (AllByRecursion (Answers ms bytes))
    (λ own. (
      ap (λ o. answered o (following (listing ms bytes) x)) (listed_free ms bytes x (within_rows ms bytes x (lt-leb (2 ^ length ms) x below.0) ∙ short_free ms bytes room) own),
      rest,
    )) (λ e. rest)

first_answered : (ms bytes : List ℕ) → need ms ≤ length bytes → next_answer ms bytes None ≡ Ok (first (listing ms bytes))
first_answered ms bytes room =
    ap (λ o. answered o (first (listing ms bytes))) (short_free ms bytes room)

run_list : (ms bytes : List ℕ) → need ms ≤ length bytes → (l : List ℕ) → listing ms bytes ≡ l → Ordered l → AllByRecursion (Answers ms bytes) l
    → answers_of ms bytes (suc (length l)) None ≡ map (λ x. Ok (Some x)) l ++ Ok None ∷ []
run_list ms bytes room [] same order each = ap (λ a. a ∷ []) (first_answered ms bytes room ∙ ap (λ l. Ok (first l)) same)
run_list ms bytes room (x ∷ xs) same order each =
    ap (λ a. a ∷ answers_of ms bytes (suc (length xs)) (given_on a)) (first_answered ms bytes room ∙ ap (λ l. Ok (first l)) same)
    ∙ ap (λ l. Ok (Some x) ∷ l) (run_from ms bytes x xs (subst (λ l. Chain l x xs) (sym same) (chain_whole x xs order)) each)

pub runs_through : (ms bytes : List ℕ) → RunsThrough ms bytes
runs_through ms bytes room =
    run_list ms bytes room (listing ms bytes) refl (ordered_kept (listed ms bytes) (line_ups (length ms)) (ordered_line_ups (length ms)))
    (each_answered ms bytes room (line_ups (length ms)) (line_ups_below (length ms)))
