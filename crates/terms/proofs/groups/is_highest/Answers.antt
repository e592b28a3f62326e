use Rattle.std.proofs.Common.{◌≡◌, ℕ, suc, ◌-◌, ◌^◌, ◌<◌, ◌≤◌, eqb, ap, ◌∙◌, ⊎_elim, arith, pow_mono}
use lib.Count.{count_leading_zeros}
use Rattle.std.proofs.lemmas.Nat.{leading_top}
use Rattle.std.proofs.lemmas.Bool.{cases_order}
use Rattle.std.proofs.lemmas.Bool.Decides.{nat_tests}
use Rattle.terms.specs.Groups.{tops}
use Rattle.terms.proofs.groups.is_highest.Goals as goal

-- a group between two powers of two has its highest spot at the lower one
between : (i j g : ℕ) → 2 ^ j ≤ g → g < 2 ^ suc j → eqb j i ≡ tops i g
between i j g low high =
    ⊎_elim (λ e. grind (arith, nat_tests, ap (λ k. 2 ^ k) e, ap (λ k. 2 ^ suc k) e))
    (⊎_elim (λ l. grind (arith, nat_tests, pow_mono {i = suc j} l)) (λ l. grind (arith, nat_tests, pow_mono {i = suc i} l))) (cases_order j i)

pub returns-then-group-ne0 : goal.returns-then-group-ne0
returns-then-group-ne0 c =
    let g = c.args.group in
    let (j, digits, low, high) = leading_top 32 g (omega arith) (omega arith) in
    let top : 31 - count_leading_zeros 32 g ≡ j = omega arith in
    ap (λ k. eqb k c.args.spot) top ∙ between c.args.spot j g low high
