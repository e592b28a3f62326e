-- No more terms are live than there are places.
use Rattle.std.proofs.Common.{◌≡◌, ℕ, zero, suc, ◌+◌, ◌-◌, ◌<◌, ◌≤◌, ⊎_elim, Bool, true, false, cond, ◌&&◌, leb, ltb, List, [], ◌∷◌, length, min, Some, None, count_by, sum_by, Option, refl, subst, arith}
use Rattle.std.specs.List.{range_with_len}
use Rattle.std.proofs.lemmas.List.Sums.{sum_by-cons, sum_by-le-sum_by}
use Rattle.std.proofs.lemmas.Bool.{cases_Bool, and_parts, leb-true, ltb-true, false≢true, false_from_ne_true}
use Rattle.std.proofs.lemmas.Bool.Decides.{nat_tests}
use Rattle.sheet.specs.Limits.{place_count, rule_numbers}
use Rattle.sheet.specs.Ledger.{LiveRule, Place, Run, Ledger, numbers, term_count, live_terms}
use Rattle.sheet.specs.Kept.{LiesIn, KeptRun, RunsApart, UsedAt, Kept}
use Rattle.sheet.proofs.Runs.{used_within}

-- ---- Counts over numbers that follow one another

module _ (p : ℕ → Bool) where
  -- a test that no number from a on passes
  count_none : (a n : ℕ) → ((k : ℕ) → a ≤ k → p k ≡ false) → count_by p (range_with_len a n) ≡ 0
  count_none a zero none = refl
  count_none a (suc n) none =
      let count = sum_by-cons (λ k. cond (p k) 1 0) a (range_with_len (a + 1) n) in
      let rest = count_none (a + 1) n (λ k h. none k (omega arith)) in
      let here = none a (omega arith) in
      grind arith

  -- a test that one number passes at most
  module _ (one : (i j : ℕ) → p i ≡ true → p j ≡ true → i ≡ j) where
    others : (a : ℕ) → p a ≡ true → (k : ℕ) → a + 1 ≤ k → p k ≡ false
    others a here k h = false_from_ne_true (p k) (λ there. let same = one a k here there in absurd (omega arith))

    count_one : (a n : ℕ) → count_by p (range_with_len a n) ≤ 1
    count_one a zero = omega arith
    count_one a (suc n) =
        let count = sum_by-cons (λ k. cond (p k) 1 0) a (range_with_len (a + 1) n) in
        ⊎_elim
        (λ here. let rest = count_none (a + 1) n (others a here) in grind arith)
        (λ here. let rest = count_one (a + 1) n in grind arith)
        (cases_Bool (p a))

  -- a sum of terms, of which those that pass are larger by one at most
  sum_step : (f g : ℕ → ℕ) → ((k : ℕ) → g k ≤ f k + cond (p k) 1 0) → (xs : List ℕ) → sum_by g xs ≤ sum_by f xs + count_by p xs
  sum_step f g step [] = omega arith
  sum_step f g step (x ∷ xs) =
      omega (arith, step x, sum_step f g step xs, sum_by-cons f x xs, sum_by-cons g x xs, sum_by-cons (λ k. cond (p k) 1 0) x xs)

-- ---- How many of the first places lie in runs

-- how many of the first m places lie in a run
abbrev covered : ℕ → Option Run → ℕ
covered m None = 0
covered m (Some r) = min m (r.from + r.count) - r.from

-- whether a place lies in a run
abbrev lies : ℕ → Option Run → Bool
lies k None = false
lies k (Some r) = leb r.from k && ltb k (r.from + r.count)

run_there : (k : ℕ) (o : Option Run) → lies k o ≡ true → (r : Run) × (o ≡ Some r) × LiesIn r k
run_there k None on = absurd (false≢true on)
run_there k (Some r) on =
    let (low, high) = and_parts (leb r.from k) (ltb k (r.from + r.count)) on in
    (r, refl, (leb-true r.from k low, ltb-true k (r.from + r.count) high))

covered_none : (o : Option Run) → covered 0 o ≤ 0
covered_none None = omega arith
covered_none (Some r) = omega arith

covered_more : (m : ℕ) (o : Option Run) → covered (suc m) o ≤ covered m o + cond (lies m o) 1 0
covered_more m None = omega arith
covered_more m (Some r) = grind (arith, nat_tests)

sum_none : (f : ℕ → ℕ) → ((k : ℕ) → f k ≤ 0) → (xs : List ℕ) → sum_by f xs ≤ 0
sum_none f none [] = omega arith
sum_none f none (x ∷ xs) = omega (arith, none x, sum_none f none xs, sum_by-cons f x xs)

module _ (runs : ℕ → Option Run) (apart : RunsApart runs) where
  one_run : (m i j : ℕ) → lies m (runs i) ≡ true → lies m (runs j) ≡ true → i ≡ j
  one_run m i j here there =
      let (r, first, on) = run_there m (runs i) here in
      let (s, second, also) = run_there m (runs j) there in
      apart i j m r s first second on also

  -- of the first m places no more than m lie in runs, each counted in its run
  covered_apart : (a n m : ℕ) → sum_by (λ k. covered m (runs k)) (range_with_len a n) ≤ m
  covered_apart a n zero = sum_none (λ k. covered 0 (runs k)) (λ k. covered_none (runs k)) (range_with_len a n)
  covered_apart a n (suc m) =
      let test = λ (k : ℕ). lies m (runs k) in
      let one = count_one test (one_run m) a n in
      let step = sum_step test (λ k. covered m (runs k)) (λ k. covered (suc m) (runs k)) (λ k. covered_more m (runs k)) (range_with_len a n) in
      let before = covered_apart a n m in
      omega arith

-- ---- The terms of the rules

-- a run ends within the table
run_within : (ps : List Place) (r : Run) → ((k : ℕ) → LiesIn r k → UsedAt ps k) → 0 < r.count → r.from + r.count ≤ length ps
run_within ps r on some =
    let last = r.from + r.count - 1 in
    let below = used_within ps last (on last (omega arith, omega arith)) in
    omega arith

run_covered : (ps : List Place) (r : Run) → ((k : ℕ) → LiesIn r k → UsedAt ps k) → r.count ≤ covered (length ps) (Some r)
run_covered ps r on = let within = run_within ps r on in grind arith

-- every term of a rule has its place
terms_covered : (ps : List Place) (o : Option LiveRule) (q : Option Run) → KeptRun ps o q → term_count o ≤ covered (length ps) q
terms_covered ps None q kept = omega arith
terms_covered ps (Some t) None kept = absurd kept
terms_covered ps (Some t) (Some r) kept = omega (arith, kept.0, run_covered ps r kept.1)

terms_placed : (l : Ledger) → Kept l → (n : ℕ) → sum_by (λ number. term_count (l.contents.rules number)) (range_with_len 0 n) ≤ length l.places
terms_placed l kept n =
    let (size, first, runs, apart) = kept.1 in
    let whole = covered_apart l.runs apart 0 n (length l.places) in
    let each = λ (k : ℕ). terms_covered l.places (l.contents.rules k) (l.runs k) (runs k) in
    let sums = sum_by-le-sum_by (λ k. term_count (l.contents.rules k)) (λ k. covered (length l.places) (l.runs k)) (range_with_len 0 n) each in
    omega arith

-- what every sheet keeps bounds how many terms are live
pub few_terms : (l : Ledger) → Kept l → live_terms l.contents ≤ place_count
unfolding numbers
few_terms l kept = subst (λ n. live_terms l.contents ≤ n) kept.1.0 (terms_placed l kept rule_numbers)
