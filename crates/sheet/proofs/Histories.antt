-- What a history tells, and what a sheet in its type keeps, one call further.
use Rattle.std.proofs.Common.{◌≡◌, ℕ, List, [], ◌∷◌, ◌++◌, Some, None, Option, sym, ap, ◌∙◌, subst}
use mathlib.Core.Logic.{∥∥₁_elim, ∥∥₁_map}
use denote.Struct.Props.{props}
use Rattle.std.proofs.lemmas.List.Sums.{fold_push}
use Rattle.sheet.specs.Ledger.{Ledger, Contents, LiveRule, Place, Run, Call, step, empty_ledger, Told}
use Rattle.terms.specs.declared.polynomials.Term.{Term}
use Rattle.sheet.specs.declared.prices.Price.{Price}
use Rattle.sheet.specs.Kept.{Apart, Spotted, KeptTerms, KeptRules, KeptPrices, KeptRun, Kept}
use Rattle.sheet.proofs.Keeps.{kept_empty, kept_step}

-- what is kept is kept in one way
apart_prop : (xs : List ℕ) → IsProp (Apart xs)
apart_prop xs = hlevel props

spotted_prop : (n g : ℕ) → IsProp (Spotted n g)
spotted_prop n g = hlevel props

terms_prop : (n : ℕ) (ts : List Term) → IsProp (KeptTerms n ts)
terms_prop n ts = hlevel props

rules_prop : (c : Contents) → IsProp (KeptRules c)
rules_prop c = hlevel props

prices_prop : (n : ℕ) (ps : List Price) → IsProp (KeptPrices n ps)
prices_prop n ps = hlevel props

run_prop : (ps : List Place) (o : Option LiveRule) (q : Option Run) → IsProp (KeptRun ps o q)
run_prop ps None None = hlevel props
run_prop ps None (Some r) = hlevel props
run_prop ps (Some t) None = hlevel props
run_prop ps (Some t) (Some r) = hlevel props

kept_prop : (l : Ledger) → IsProp (Kept l)
kept_prop l = hlevel (props, run_prop)

pub kept_of : (l : Ledger) → ∥ Kept l ∥₁ → Kept l
kept_of l k = ∥∥₁_elim k (kept_prop l) (λ x. x)

-- what the type of a sheet says of its ledger
abbrev pub Sound : Ledger → Type 0
Sound l = record { told : Told l; kept : ∥ Kept l ∥₁ }

pub sound_new : (l : Ledger) → l ≡ empty_ledger → Sound l
sound_new l e = record { told = ∣ ([], sym e) ∣₁; kept = ∣ subst Kept (sym e) kept_empty ∣₁ }

pub told_step : (l m : Ledger) (c : Call) → Told l → m ≡ step l c → Told m
told_step l m c told e =
    ∥∥₁_map told (λ p. (p.0 ++ c ∷ [], fold_push step empty_ledger p.0 c ∙ ap (λ k. step k c) p.1 ∙ sym e))

pub kept_after : (l m : Ledger) (c : Call) → ∥ Kept l ∥₁ → m ≡ step l c → ∥ Kept m ∥₁
kept_after l m c kept e = ∥∥₁_map kept (λ x. subst Kept (sym e) (kept_step l c x))

pub sound_after : (l m : Ledger) (c : Call) → Told l → ∥ Kept l ∥₁ → m ≡ step l c → Sound m
sound_after l m c told kept e = record { told = told_step l m c told e; kept = kept_after l m c kept e }
