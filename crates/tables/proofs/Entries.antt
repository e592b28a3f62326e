-- The entries of converted tables as sums over the numbers below the length.
use Rattle.std.proofs.Common.{◌≡◌, ℕ, zero, suc, ◌+◌, ◌*◌, ◌<◌, ◌≤◌, cond, List, [], ◌∷◌, map, length, get_or, ℤ, pos, ◌+ℤ◌, nat_abs, sym, refl, ap, ◌∙◌, ap₂, add-zero, zero-add, arith}
use borrow.Author.Differences.{ints}
use lib.Bits.{bit_xor}
use Rattle.std.specs.List.{AllByRecursion}
use Rattle.std.proofs.lemmas.List.FromFn.{length-map-range_with_len, get_or-map-range_with_len, fill_by_all}
use Rattle.std.proofs.ByRecursion.{All-get_or, All-from_get_or}
use Rattle.std.proofs.lemmas.List.{map-id}
use Rattle.terms.specs.Groups.{inside, size}
use Rattle.tables.specs.NormalForm.{total, SumsInside}
use Rattle.tables.specs.Tables.{Operation, plus, turned, turned_term, tabulated, terms_from, as_terms, values, converted}
use Rattle.terms.specs.Terms.{term_worth, worth}
use Rattle.terms.specs.declared.polynomials.Term.{Term}
use Rattle.tables.proofs.Totals.{total_same, total_first}
use Rattle.tables.proofs.Conversions.{entry, entry_is, entry_near}

-- ---- Lists from functions

pub get_or_tabulated : (n : ℕ) (f : ℕ → ℤ) (g : ℕ) → g < n → get_or (tabulated n f) g (pos 0) ≡ f g
get_or_tabulated n f g l = get_or-map-range_with_len f 0 n g g (pos 0) l (zero-add g)

pub tabulated_same : (n : ℕ) (f f' : ℕ → ℤ) → ((g : ℕ) → g < n → f g ≡ f' g) → tabulated n f ≡ tabulated n f'
tabulated_same n f f' e = fill_by_all f' (tabulated n f) n (pos 0) (length-map-range_with_len f 0 n) (λ g l. get_or_tabulated n f g l ∙ e g l)

-- ---- Worth as a sum

-- the term of an entry
at_group : ℕ → ℤ → Term
at_group g c = record { coefficient = c; group = g }

worth_from : (change : Term → Term) (x g : ℕ) (cs : List ℤ)
    → worth (map change (terms_from g cs)) x ≡ total (length cs) (λ h. term_worth (change (at_group (g + h) (get_or cs h (pos 0)))) x)
unfolding at_group
worth_from change x g [] = refl
worth_from change x g (c ∷ cs) =
    let part : ℕ → ℤ = λ h. term_worth (change (at_group (g + h) (get_or (c ∷ cs) h (pos 0)))) x in
    let next : (h : ℕ) → h < length cs → term_worth (change (at_group (g + 1 + h) (get_or cs h (pos 0)))) x ≡ part (suc h) =
    λ h l. let e : g + 1 + h ≡ g + suc h = omega arith in ap (λ j. term_worth (change (at_group j (get_or cs h (pos 0)))) x) e in
    ap (λ z. term_worth (change (at_group g c)) x +ℤ z) (worth_from change x (g + 1) cs ∙ total_same (length cs) _ (λ h. part (suc h)) next)
    ∙ ap (λ j. term_worth (change (at_group j c)) x +ℤ total (length cs) (λ h. part (suc h))) (sym (add-zero g))
    ∙ sym (total_first (length cs) part)

worth_entries : (change : Term → Term) (x : ℕ) (cs : List ℤ)
    → worth (map change (as_terms cs)) x ≡ total (length cs) (λ h. term_worth (change (at_group h (get_or cs h (pos 0)))) x)
worth_entries change x cs =
    worth_from change x 0 cs
    ∙ total_same (length cs) _ _ (λ h l. ap (λ j. term_worth (change (at_group j (get_or cs h (pos 0)))) x) (zero-add h))

pub sums_inside : SumsInside
unfolding at_group
sums_inside cs g = ap (λ ts. worth ts g) (sym (map-id (as_terms cs))) ∙ worth_entries (λ t. t) g cs

-- ---- Converted tables

pub converted_entries : (o : Operation) (xs : List ℤ) → converted o xs ≡ tabulated (length xs) (entry o (length xs) (λ h. get_or xs h (pos 0)))
unfolding at_group
converted_entries o xs = tabulated_same (length xs) _ _ (λ g l. worth_entries (turned_term o g) g xs ∙ sym (entry_is o (length xs) (λ h. get_or xs h (pos 0)) g))

pub length_converted : (o : Operation) (xs : List ℤ) → length (converted o xs) ≡ length xs
length_converted o xs = length-map-range_with_len _ 0 (length xs)

pub get_or_converted : (o : Operation) (xs : List ℤ) (g : ℕ) → g < length xs
    → get_or (converted o xs) g (pos 0) ≡ entry o (length xs) (λ h. get_or xs h (pos 0)) g
get_or_converted o xs g l = ap (λ ys. get_or ys g (pos 0)) (converted_entries o xs) ∙ get_or_tabulated (length xs) _ g l

pub converted_near : (o : Operation) (m : ℕ) (xs : List ℤ) → AllByRecursion (λ z. nat_abs z ≤ m) xs → AllByRecursion (λ z. nat_abs z ≤ length xs * m) (converted o xs)
converted_near o m xs near =
    All-from_get_or (λ z. nat_abs z ≤ length xs * m) (converted o xs) (pos 0) (λ g l.
    let within : g < length xs = omega (arith, length_converted o xs) in
    rw (get_or_converted o xs g within) (entry_near o (length xs) m (λ h. get_or xs h (pos 0)) g (λ h k. All-get_or (λ z. nat_abs z ≤ m) xs h (pos 0) k near)))

-- under plus nothing is turned
turned_plus : (n : ℕ) (z : ℤ) → turned plus n z ≡ z
turned_plus zero z = refl
turned_plus (suc n) z = omega (arith, ints, turned_plus n z)

worth_plus : (g : ℕ) (ts : List Term) → worth (map (turned_term plus g) ts) g ≡ worth ts g
worth_plus g [] = refl
worth_plus g (t ∷ ts) =
    ap₂ (λ c z. cond (inside t.group g) c (pos 0) +ℤ z) (turned_plus (size (bit_xor t.group g)) t.coefficient) (worth_plus g ts)

pub converted_plus : (cs : List ℤ) → converted plus cs ≡ values cs
converted_plus cs = tabulated_same (length cs) _ _ (λ g l. worth_plus g (as_terms cs))
