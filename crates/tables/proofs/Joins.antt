-- The two halves of a table, and the loop that joins them, entry by entry of the upper half.
use Rattle.std.proofs.Common.{◌≡◌, ℕ, ◌+◌, ◌-◌, ◌<◌, ◌≤◌, ltb, List, length, get_or, ℤ, pos, sym, ap, ◌∙◌, subst, ⊎_elim, arith}
use Rattle.std.proofs.lemmas.List.FromFn.{fill_by_all}
use Rattle.std.proofs.lemmas.Bool.{cases_lt, lt-ltb, le-ltb, cond-true, cond-false}
use Rattle.tables.specs.Conversion.{joined}
use Rattle.tables.specs.Tables.{Operation, applied, tabulated}

-- what holds of each place of either half holds of every place
pub in_halves : (P : ℕ → Type 0) (n : ℕ) → ((g : ℕ) → g < n → P g) → ((g : ℕ) → g < n → P (n + g)) → (g : ℕ) → g < n + n → P g
in_halves P n low high g l =
    ⊎_elim (low g) (λ m. let e : n + (g - n) ≡ g = omega arith in subst P e (high (g - n) (omega arith))) (cases_lt g n)

-- the join at a place of the lower half, and at one of the upper half
module _ (o : Operation) (half : ℕ) (xs : List ℤ) (g : ℕ) where
  pub joined_lower : g < half → joined o half xs g ≡ get_or xs g (pos 0)
  joined_lower l = cond-true (ltb g half) _ _ (lt-ltb g half l)

  pub joined_upper : joined o half xs (half + g) ≡ applied o (get_or xs (half + g) (pos 0)) (get_or xs g (pos 0))
  joined_upper =
      let e : half + g - half ≡ g = omega arith in
      cond-false (ltb (half + g) half) _ _ (le-ltb (half + g) half (omega arith)) ∙ ap (λ j. applied o (get_or xs (half + g) (pos 0)) (get_or xs j (pos 0))) e

-- the first i entries of the upper half are joined, and no other entry has changed
pub record Joining (o : Operation) (half i : ℕ) (old new : List ℤ) : Type 0 where
  pub size : length new ≡ half + half
  pub done : (j : ℕ) → j < i → get_or new (half + j) (pos 0) ≡ applied o (get_or old (half + j) (pos 0)) (get_or old j (pos 0))
  pub rest : (j : ℕ) → i ≤ j → get_or new (half + j) (pos 0) ≡ get_or old (half + j) (pos 0)
  pub lower : (j : ℕ) → j < half → get_or new j (pos 0) ≡ get_or old j (pos 0)

pub joining_all : (o : Operation) (half i : ℕ) (old new : List ℤ) → half ≤ i → Joining o half i old new → new ≡ tabulated (half + half) (joined o half old)
joining_all o half i old new past after =
    fill_by_all (joined o half old) new (half + half) (pos 0) after.size
    (in_halves (λ g. get_or new g (pos 0) ≡ joined o half old g) half
    (λ g l. after.lower g l ∙ sym (joined_lower o half old g l))
    (λ g l. after.done g (omega arith) ∙ sym (joined_upper o half old g)))
