-- Which places are used, before a post and after it, and the runs of places that the rules hold.
use Rattle.std.proofs.Common.{◌≡◌, ℕ, ◌+◌, ◌<◌, ◌≤◌, ◌⊎◌, ⊎_elim, inl, inr, Bool, true, false, cond, not, eqb, List, [], ◌∷◌, ◌++◌, length, get_or, take, drop, replicate, Some, None, count_by, Option, sym, ap, ◌∙◌, subst, arith}
use Rattle.std.specs.List.{prefix_len}
use Rattle.std.proofs.lemmas.List.{places, length-append, length-take, length-drop, length-replicate, get_or_past}
use Rattle.std.proofs.lemmas.List.Sums.{sum_by-cons, count_by-le-length, prefix_len_passes, prefix_len_stops}
use Rattle.std.proofs.lemmas.Option.{none-some}
use Rattle.std.proofs.lemmas.Bool.{cases_Bool, cases_lt, cases_order, cond_both, eqb-true, false≢true}
use Rattle.sheet.specs.Ledger.{LiveRule, Place, empty, used, Run, put, is_used, unused, next_unused, taken}
use Rattle.sheet.specs.Kept.{UsedAt, UsedFirst, LiesIn, KeptRun, RunsApart}

-- ---- The used places

leading_count : {X : Type 0} (f : X → Bool) (xs : List X) → prefix_len f xs + count_by (λ x. not (f x)) xs ≤ length xs
leading_count f [] = omega arith
leading_count f (x ∷ xs) =
    let rest = leading_count f xs in
    let few = count_by-le-length (λ x. not (f x)) xs in
    let count = sum_by-cons (λ x. cond (not (f x)) 1 0) x xs in
    grind (arith, cases_Bool (f x))

-- a place that is used is one of the table
pub used_within : (ps : List Place) (k : ℕ) → UsedAt ps k → k < length ps
used_within ps k on =
    ⊎_elim (λ h. h) (λ past. absurd (false≢true (sym (ap is_used (get_or_past ps k empty past)) ∙ on))) (cases_lt k (length ps))

-- every place before the next unused one is used
used_before : (ps : List Place) (k : ℕ) → k < next_unused ps → UsedAt ps k
used_before ps k h = prefix_len_passes is_used ps k empty h

-- where the used places come first, no other is used
pub before_next : (ps : List Place) → UsedFirst ps → (k : ℕ) → UsedAt ps k → k < next_unused ps
before_next ps first k on =
    let u = next_unused ps in
    let within = used_within ps k on in
    let stop = λ (h : u < length ps) (here : UsedAt ps u). false≢true (sym (prefix_len_stops is_used ps empty h) ∙ here) in
    ⊎_elim
    (λ same. absurd (stop (omega arith) (subst (UsedAt ps) same on)))
    (⊎_elim (λ h. h) (λ past. absurd (stop (omega arith) (first u k past on))))
    (cases_order k u)

-- ---- A post takes the next unused places

-- the places, n of them used from u on
abbrev filled : ℕ → ℕ → List Place → List Place
filled u n ps = take u ps ++ (replicate n used ++ drop (u + n) ps)

filled_at : (u n : ℕ) (ps : List Place) (k : ℕ) → u + n ≤ length ps → u ≤ k → k < u + n → get_or (filled u n ps) k empty ≡ used
filled_at u n ps k fits low high = grind (arith, places)

filled_below : (u n : ℕ) (ps : List Place) (k : ℕ) → u + n ≤ length ps → k < u → get_or (filled u n ps) k empty ≡ get_or ps k empty
filled_below u n ps k fits low = grind (arith, places)

filled_above : (u n : ℕ) (ps : List Place) (k : ℕ) → u + n ≤ length ps → u + n ≤ k → get_or (filled u n ps) k empty ≡ get_or ps k empty
filled_above u n ps k fits high = grind (arith, places)

module _ (n : ℕ) (ps : List Place) (room : n ≤ unused ps) where
  room_left : next_unused ps + n ≤ length ps
  room_left = omega (arith, leading_count is_used ps)

  pub length_taken : length (taken n ps) ≡ length ps
  length_taken = let fits = room_left in simp (length-append, length-take, length-replicate, length-drop) (omega arith)

  pub used_taken : (k : ℕ) → k < next_unused ps + n → UsedAt (taken n ps) k
  used_taken k h =
      let u = next_unused ps in
      ⊎_elim
      (λ low. ap is_used (filled_below u n ps k room_left low) ∙ used_before ps k low)
      (λ low. ap is_used (filled_at u n ps k room_left low h))
      (cases_lt k u)

  module _ (first : UsedFirst ps) where
    taken_before : (k : ℕ) → UsedAt (taken n ps) k → k < next_unused ps + n
    taken_before k on =
        let u = next_unused ps in
        ⊎_elim
        (λ h. h)
        (λ high. let low = before_next ps first k (sym (ap is_used (filled_above u n ps k room_left high)) ∙ on) in absurd (omega arith))
        (cases_lt k (u + n))

    pub taken_first : UsedFirst (taken n ps)
    taken_first j k below on = let h = taken_before k on in used_taken j (omega arith)

    -- what was used stays used
    pub still_used : (k : ℕ) → UsedAt ps k → UsedAt (taken n ps) k
    still_used k on = let h = before_next ps first k on in used_taken k (omega arith)

-- ---- The runs of rules

-- a run holds no place but used ones
pub run_used : (ps : List Place) (o : Option LiveRule) (q : Option Run) → KeptRun ps o q → (r : Run) → q ≡ Some r → (k : ℕ) → LiesIn r k → UsedAt ps k
run_used ps o None kept r e k on = absurd (none-some r e)
run_used ps None (Some s) kept r e k on = absurd kept
run_used ps (Some t) (Some s) kept r e k on = let same : r ≡ s = cc in kept.1 k (subst (λ t. LiesIn t k) same on)

-- a run of other places, of which the same and more are used
pub run_kept : (ps qs : List Place) → ((k : ℕ) → UsedAt ps k → UsedAt qs k) → (o : Option LiveRule) (q : Option Run) → KeptRun ps o q → KeptRun qs o q
run_kept ps qs more None None kept = kept
run_kept ps qs more None (Some r) kept = kept
run_kept ps qs more (Some t) None kept = kept
run_kept ps qs more (Some t) (Some r) kept = (kept.0, λ k on. more k (kept.1 k on))

-- another rule and its run, or none, under one number
module _ (ps : List Place) (x : Option LiveRule) (r : Option Run) (own : KeptRun ps x r) where
  run_cond : (b : Bool) (y : Option LiveRule) (s : Option Run) → KeptRun ps y s → KeptRun ps (cond b x y) (cond b r s)
  run_cond true y s kept = own
  run_cond false y s kept = kept

  pub runs_put : (rules : ℕ → Option LiveRule) (runs : ℕ → Option Run) (number : ℕ) → ((k : ℕ) → KeptRun ps (rules k) (runs k))
      → (k : ℕ) → KeptRun ps (put rules number x k) (put runs number r k)
  runs_put rules runs number kept k = run_cond (eqb k number) (rules k) (runs k) (kept k)

-- another run, or none, that lies apart from all the others
module _ (runs : ℕ → Option Run) (apart : RunsApart runs) (number : ℕ) (x : Option Run)
    (clear : (n k : ℕ) (r s : Run) → x ≡ Some r → runs n ≡ Some s → LiesIn r k → LiesIn s k → ⊥) where
  held : (m : ℕ) (r : Run) → put runs number x m ≡ Some r → ((m ≡ number) × (x ≡ Some r)) ⊎ (runs m ≡ Some r)
  held m r =
      cond_both (eqb m number) x (runs m) (λ o. o ≡ Some r → ((m ≡ number) × (x ≡ Some r)) ⊎ (runs m ≡ Some r))
      (λ here e. inl (eqb-true m number here, e))
      (λ _ e. inr e)

  pub apart_put : RunsApart (put runs number x)
  apart_put m n k r s e d on also =
      ⊎_elim
      (λ new. ⊎_elim (λ same. new.0 ∙ sym same.0) (λ old. absurd (clear n k r s new.1 old on also)) (held n s d))
      (λ old. ⊎_elim (λ new. absurd (clear m k s r new.1 old also on)) (λ other. apart m n k r s old other on also) (held n s d))
      (held m r e)
