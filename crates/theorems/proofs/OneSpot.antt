-- A group with one spot more, or one spot fewer.
use Rattle.std.proofs.Common.{◌≡◌, ℕ, zero, suc, ◌+◌, ◌-◌, ◌/◌, ◌^◌, true, false, ap, refl, ◌∙◌, sym, subst, ⊎_elim, pow-suc, arith}
use Rattle.std.specs.Prelude.{◌≢◌}
use Rattle.std.proofs.lemmas.Bool.{both_ways, cases_order, false_from_ne_true, leb-true}
use Rattle.std.proofs.lemmas.Bool.Decides.{nat_tests, same_from_decides, Decides-like}
use Rattle.terms.specs.Groups.{holds, inside}
use Rattle.terms.proofs.Says.{holds_half, beyond_says}
use Rattle.terms.proofs.Packing.{inside_says}

added_half : (x i : ℕ) → (x + 2 ^ suc i) / 2 ≡ x / 2 + 2 ^ i
added_half x i = omega (arith, pow-suc 2 i)

pub added_here : (i x : ℕ) → holds x i ≡ false → holds (x + 2 ^ i) i ≡ true
added_here zero x h = grind (arith, nat_tests)
added_here (suc i) x h =
    sym (holds_half (x + 2 ^ suc i) i) ∙ ap (λ y. holds y i) (added_half x i) ∙ added_here i (x / 2) (holds_half x i ∙ h)

pub added_else : (i x j : ℕ) → holds x i ≡ false → j ≢ i → holds (x + 2 ^ i) j ≡ holds x j
added_else zero x zero h ne = absurd (ne refl)
added_else zero x (suc j) h ne =
    let half : (x + 2 ^ 0) / 2 ≡ x / 2 = grind (arith, nat_tests) in
    sym (holds_half (x + 2 ^ 0) j) ∙ ap (λ y. holds y j) half ∙ holds_half x j
added_else (suc i) x zero h ne = grind (arith, nat_tests, pow-suc 2 i)
added_else (suc i) x (suc j) h ne =
    sym (holds_half (x + 2 ^ suc i) j) ∙ ap (λ y. holds y j) (added_half x i)
    ∙ added_else i (x / 2) j (holds_half x i ∙ h) (λ e. ne (ap suc e)) ∙ holds_half x j

taken_half : (g i : ℕ) → (g - 2 ^ suc i) / 2 ≡ g / 2 - 2 ^ i
taken_half g i = omega (arith, pow-suc 2 i)

pub taken_here : (i g : ℕ) → holds g i ≡ true → holds (g - 2 ^ i) i ≡ false
taken_here zero g h = grind (arith, nat_tests)
taken_here (suc i) g h =
    sym (holds_half (g - 2 ^ suc i) i) ∙ ap (λ y. holds y i) (taken_half g i) ∙ taken_here i (g / 2) (holds_half g i ∙ h)

put_back : (i g : ℕ) → holds g i ≡ true → g - 2 ^ i + 2 ^ i ≡ g
put_back i g h = omega (arith, leb-true (2 ^ i) g ((beyond_says i g).1 (i, omega arith, h)))

taken_else : (i g j : ℕ) → holds g i ≡ true → j ≢ i → holds (g - 2 ^ i) j ≡ holds g j
taken_else i g j h ne = sym (added_else i (g - 2 ^ i) j (taken_here i g h) ne) ∙ ap (λ y. holds y j) (put_back i g h)

differ : (g i j : ℕ) → holds g i ≡ false → holds g j ≡ true → j ≢ i
differ g i j out on e = both_ways (holds g j) (ap (holds g) e ∙ out) on

module _ (i g x : ℕ) (out : holds x i ≡ false) where
  -- a group without the spot
  pub inside_else : holds g i ≡ false → inside g (x + 2 ^ i) ≡ inside g x
  inside_else none =
      same_from_decides (inside g (x + 2 ^ i)) (inside g x)
      (Decides-like (inside g (x + 2 ^ i)) (λ h j on. sym (added_else i x j out (differ g i j none on)) ∙ h j on)
      (λ h j on. added_else i x j out (differ g i j none on) ∙ h j on) (inside_says g (x + 2 ^ i))) (inside_says g x)

  -- a group with the spot
  pub inside_out : holds g i ≡ true → inside g x ≡ false
  inside_out has = false_from_ne_true (inside g x) (λ h. both_ways (holds x i) out ((inside_says g x).0 h i has))

  pub inside_in : holds g i ≡ true → inside g (x + 2 ^ i) ≡ inside (g - 2 ^ i) x
  inside_in has =
      same_from_decides (inside g (x + 2 ^ i)) (inside (g - 2 ^ i) x) (inside_says g (x + 2 ^ i))
      (Decides-like (inside (g - 2 ^ i) x) back there (inside_says (g - 2 ^ i) x))
    where
      there : ((j : ℕ) → holds g j ≡ true → holds (x + 2 ^ i) j ≡ true) → (j : ℕ) → holds (g - 2 ^ i) j ≡ true → holds x j ≡ true
      there h j on =
          let ne = differ (g - 2 ^ i) i j (taken_here i g has) on in
          sym (added_else i x j out ne) ∙ h j (sym (taken_else i g j has ne) ∙ on)

      back : ((j : ℕ) → holds (g - 2 ^ i) j ≡ true → holds x j ≡ true) → (j : ℕ) → holds g j ≡ true → holds (x + 2 ^ i) j ≡ true
      back h j on =
          ⊎_elim (λ e. subst (λ k. holds (x + 2 ^ i) k ≡ true) (sym e) (added_here i x out))
          (⊎_elim (λ l. other h j on (λ e. omega arith)) (λ l. other h j on (λ e. omega arith))) (cases_order j i)
        where
          other : ((j : ℕ) → holds (g - 2 ^ i) j ≡ true → holds x j ≡ true) → (j : ℕ) → holds g j ≡ true → j ≢ i → holds (x + 2 ^ i) j ≡ true
          other h j on ne = added_else i x j out ne ∙ h j (taken_else i g j has ne ∙ on)
