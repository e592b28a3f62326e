-- Which tables a conversion accepts, and what the two conversions make of each other's tables.
use Rattle.std.proofs.Common.{◌≡◌, ℕ, ◌^◌, ◌≤◌, false, not, List, length, get_or, ℤ, pos, nat_abs, Some, None, Ok, Option, sym, refl, ap, ◌∙◌, subst}
use Rattle.std.specs.List.{AllByRecursion}
use Rattle.std.proofs.ByRecursion.{All-from_get_or, All-weaker}
use Rattle.std.proofs.lemmas.List.Elements.{All-from_recursion}
use Rattle.std.proofs.lemmas.List.Folds.{list_any_none}
use Rattle.std.proofs.lemmas.Bool.{cond-false, not_from_true, not-false, le-ltb, ltb-false}
use Rattle.terms.specs.declared.refusals.Refusal.{Refusal}
use Rattle.tables.specs.Limits.{most_entry, most_table_spots}
use Rattle.tables.specs.NormalForm.{Restores, OnlyTerms}
use Rattle.terms.specs.Refusals.{answered, unless}
use Rattle.tables.specs.Tables.{minus, values, coefficients, large, is_table_length, table_rows, table_refusal, table_answer, to_values_table, to_terms_table}
use Rattle.terms.specs.Tests.{any}
use Rattle.tables.proofs.Entries.{length_converted}
use Rattle.tables.proofs.Inverse.{coefficients_values, values_coefficients, unique}
use Rattle.tables.proofs.Powers.{length_says}
use Rattle.terms.proofs.Says.{any_false}
use Rattle.terms.proofs.Uppermost.{no_row}

-- entries that are not large, as many as k spots have line-ups
pub accepted : (xs : List ℤ) (k : ℕ) → AllByRecursion (λ z. nat_abs z ≤ most_entry) xs → length xs ≡ 2 ^ k → k ≤ most_table_spots → table_refusal xs ≡ None
accepted xs k near long few =
    let small = All-weaker (λ z. nat_abs z ≤ most_entry) (λ z. large z ≡ false) (λ z. le-ltb most_entry (nat_abs z)) xs near in
    let none = list_any_none large xs (All-from_recursion _ xs small) in
    cond-false (any large xs) _ _ none ∙ cond-false (not (is_table_length (length xs))) _ None (not_from_true _ ((length_says (length xs)).1 (k, few, long)))

-- the entries of an accepted table are not large
pub small_entries : (xs : List ℤ) → table_refusal xs ≡ None → AllByRecursion (λ z. nat_abs z ≤ most_entry) xs
small_entries xs h =
    let (none, _) = no_row (table_rows xs) h in
    All-from_get_or (λ z. nat_abs z ≤ most_entry) xs (pos 0) (λ i l. ltb-false most_entry (nat_abs (get_or xs i (pos 0))) (any_false large xs none i (pos 0) l))

-- they are as many as some number of spots has line-ups
pub over_spots : (xs : List ℤ) → table_refusal xs ≡ None → (k : ℕ) × (k ≤ most_table_spots) × (length xs ≡ 2 ^ k)
over_spots xs h = let (_, (odd, _)) = no_row (table_rows xs) h in (length_says (length xs)).0 (not-false (is_table_length (length xs)) odd)

-- ---- One conversion after the other

no_refusal : (o : Option Refusal) → answered {X = Unit {0}} o tt ≡ Ok tt → o ≡ None
no_refusal None h = refl
no_refusal (Some e) h = cc

pub values_restored : (xs : List ℤ) → Restores to_values_table to_terms_table xs
values_restored xs first second =
    let taken = no_refusal (table_refusal xs) first in
    let (k, _, long) = over_spots xs taken in
    ap (λ o. unless o (to_values_table xs) (coefficients (to_values_table xs))) (no_refusal (table_refusal (to_values_table xs)) second)
    ∙ ap (λ o. coefficients (unless o xs (values xs))) taken
    ∙ coefficients_values k xs long

pub terms_restored : (xs : List ℤ) → Restores to_terms_table to_values_table xs
terms_restored xs first second =
    let taken = no_refusal (table_refusal xs) first in
    let (k, _, long) = over_spots xs taken in
    ap (λ o. unless o (to_terms_table xs) (values (to_terms_table xs))) (no_refusal (table_refusal (to_terms_table xs)) second)
    ∙ ap (λ o. values (unless o xs (coefficients xs))) taken
    ∙ values_coefficients k xs long

pub only_terms : (vs : List ℤ) → table_answer vs ≡ Ok tt → OnlyTerms vs (to_terms_table vs)
only_terms vs accepts =
    let taken = no_refusal (table_refusal vs) accepts in
    let (k, _, long) = over_spots vs taken in
    let back = values_coefficients k vs long in
    subst (OnlyTerms vs) (sym (ap (λ o. unless o vs (coefficients vs)) taken))
    (back, λ ds as_long same. unique k ds (coefficients vs) (as_long ∙ long) (length_converted minus vs ∙ long) (same ∙ sym back))
