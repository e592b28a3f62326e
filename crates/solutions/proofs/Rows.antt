-- The rows of both calls: they are listed in the order of the table, and none fits a line-up that is listed.
use Rattle.std.proofs.Common.{◌≡◌, ℕ, ◌≤◌, false, true, not, ltb, List, [], ◌∷◌, ◌++◌, length, Some, None, Option, refl, ap, ◌∙◌, rules}
use Rattle.std.specs.List.{AllByRecursion}
use Rattle.std.proofs.lemmas.Bool.{cond-false, le-ltb}
use Rattle.terms.specs.Groups.{beyond}
use Rattle.terms.specs.Refusals.{Row, row, uppermost, Uppermost}
use Rattle.terms.specs.declared.refusals.Refusal.TheVariants.{OffSheet, Short, NotListed}
use Rattle.terms.proofs.Uppermost.{InOrder, no_row, uppermost_answers}
use Rattle.elimination.specs.Links.{need}
use Rattle.solutions.specs.Walks.{listed}
use Rattle.solutions.specs.Answers.{instance_rows, next_rows}

-- ---- Their order

instance_in_order : (ms bytes : List ℕ) (switches : ℕ) → InOrder (instance_rows ms bytes switches)
instance_in_order ms bytes switches = search rules

pub instance_uppermost : (ms bytes : List ℕ) (switches : ℕ) → Uppermost (instance_rows ms bytes switches)
instance_uppermost ms bytes switches = uppermost_answers (instance_rows ms bytes switches) (instance_in_order ms bytes switches)

next_in_order : (ms bytes : List ℕ) (after : Option ℕ) → InOrder (next_rows ms bytes after)
next_in_order ms bytes None = search rules
next_in_order ms bytes (Some x) = search rules

pub next_uppermost : (ms bytes : List ℕ) (after : Option ℕ) → Uppermost (next_rows ms bytes after)
next_uppermost ms bytes after = uppermost_answers (next_rows ms bytes after) (next_in_order ms bytes after)

-- ---- Where none fits

pub short_free : (ms bytes : List ℕ) → need ms ≤ length bytes → uppermost (next_rows ms bytes None) ≡ None
short_free ms bytes room = cond-false (ltb (length bytes) (need ms)) (Some Short) None (le-ltb (length bytes) (need ms) room)

-- where the switches are of the spots, only the length of the table is left to test
pub within_rows : (ms bytes : List ℕ) (switches : ℕ) → beyond (length ms) switches ≡ false
    → uppermost (instance_rows ms bytes switches) ≡ uppermost (next_rows ms bytes None)
within_rows ms bytes switches within = cond-false (beyond (length ms) switches) (Some OffSheet) (uppermost (next_rows ms bytes None)) within

past_rows : (rs ss : List Row) → AllByRecursion (λ r. r.fits ≡ false) rs → uppermost (rs ++ ss) ≡ uppermost ss
past_rows [] ss each = refl
past_rows (r ∷ rs) ss each = cond-false r.fits (Some r.refusal) (uppermost (rs ++ ss)) each.0 ∙ past_rows rs ss each.1

pub listed_free : (ms bytes : List ℕ) (x : ℕ) → uppermost (instance_rows ms bytes x) ≡ None → listed ms bytes x ≡ true
    → uppermost (next_rows ms bytes (Some x)) ≡ None
listed_free ms bytes x free own =
    past_rows (instance_rows ms bytes x) (row (not (listed ms bytes x)) NotListed ∷ []) (no_row (instance_rows ms bytes x) free)
    ∙ cond-false (not (listed ms bytes x)) (Some NotListed) None (ap not own)
