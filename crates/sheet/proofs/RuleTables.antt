-- What every sheet keeps of its rules gives each rule its table of terms.
use Rattle.std.proofs.Common.{ℕ, ◌^◌, ◌<◌, ◌≤◌, List, length, get_or, nat_abs, ⊎_elim, arith, pow_mono}
use Rattle.std.proofs.ByRecursion.{All-from_get_or}
use Rattle.std.proofs.lemmas.Bool.{cases_lt, le-leb}
use Rattle.terms.specs.Limits.{most_coefficient}
use Rattle.tables.specs.NormalForm.{HasTable}
use Rattle.terms.specs.Terms.{no_term}
use Rattle.terms.specs.declared.polynomials.Term.{Term}
use Rattle.terms.proofs.Packing.{named_below}
use Rattle.tables.proofs.RuleTables.{has_table}
use Rattle.terms.proofs.Says.{beyond_says}
use Rattle.sheet.specs.Ledger.{Ledger}
use Rattle.sheet.specs.Kept.{Spotted, KeptTerms, Kept}
use Rattle.sheet.specs.RuleTables.{RulesHaveTables}

-- a group of spots below n is below 2 ^ n
spotted_below : (n g : ℕ) → Spotted n g → g < 2 ^ n
spotted_below n g (_, low) =
    ⊎_elim (λ l. l) (λ h. let (i, past, on) = (beyond_says n g).0 (le-leb (2 ^ n) g h) in absurd (omega (arith, low i on))) (cases_lt g (2 ^ n))

terms_have_table : (n : ℕ) (ts : List Term) → n ≤ 32 → KeptTerms n ts → HasTable ts
terms_have_table n ts few (_, short, each, apart, named) =
    let wide : 2 ^ n ≤ 2 ^ 32 = pow_mono few in
    let low : (k : ℕ) → k < length ts → (get_or ts k no_term).group < 2 ^ 32 = λ k l.
    let group = spotted_below n (get_or ts k no_term).group (each k l).2 in omega arith in
    has_table ts (named_below 32 ts (All-from_get_or (λ t. t.group < 2 ^ 32) ts no_term low)) named short
    (All-from_get_or (λ t. nat_abs t.coefficient ≤ most_coefficient) ts no_term (λ k l. (each k l).1)) apart

pub rules_have_tables : (l : Ledger) → Kept l → RulesHaveTables l.contents
rules_have_tables l (((few, _), rules, _), _) number r live =
    let (_, _, _, terms) = rules number r live in terms_have_table (length l.contents.houses) r.terms few terms
