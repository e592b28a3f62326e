-- The two conversions undo each other, and so every function of line-ups has exactly one table of terms.
use Rattle.std.proofs.Common.{◌≡◌, ℕ, ◌^◌, ◌<◌, List, length, get_or, ℤ, pos, sym, ap, ◌∙◌, arith}
use Rattle.std.proofs.lemmas.List.{ext_get_or}
use Rattle.std.proofs.lemmas.List.FromFn.{length-map-range_with_len, fill_by_all}
use Rattle.tables.specs.NormalForm.{HasValues, IsNormalForm, Unique}
use Rattle.tables.specs.Tables.{Operation, plus, minus, tabulated, as_terms, values, converted, coefficients}
use Rattle.terms.specs.Terms.{worth}
use Rattle.tables.proofs.Conversions.{entry, entry_same, entry_back, opposite}
use Rattle.tables.proofs.Entries.{get_or_tabulated, length_converted, get_or_converted, converted_plus}

module _ (o : Operation) (k : ℕ) (xs : List ℤ) (long : length xs ≡ 2 ^ k) where
  -- entry h of the table
  given : ℕ → ℤ
  given h = get_or xs h (pos 0)

  entry_given : (h : ℕ) → h < 2 ^ k → get_or (converted o xs) h (pos 0) ≡ entry o (2 ^ k) given h
  unfolding given
  entry_given h l = get_or_converted o xs h (omega arith) ∙ ap (λ n. entry o n given h) long

  pub converted_back : converted (opposite o) (converted o xs) ≡ xs
  unfolding given
  converted_back = ext_get_or (pos 0) _ xs (length_converted (opposite o) (converted o xs) ∙ length_converted o xs) entries
    where
      entries : (g : ℕ) → g < length (converted (opposite o) (converted o xs)) → get_or (converted (opposite o) (converted o xs)) g (pos 0) ≡ get_or xs g (pos 0)
      entries g l =
          let once = length_converted o xs in
          let twice = length_converted (opposite o) (converted o xs) in
          let below : g < 2 ^ k = omega arith in
          get_or_converted (opposite o) (converted o xs) g (omega arith)
          ∙ ap (λ n. entry (opposite o) n (λ h. get_or (converted o xs) h (pos 0)) g) (once ∙ long)
          ∙ entry_same (opposite o) (2 ^ k) _ (entry o (2 ^ k) given) g entry_given
          ∙ entry_back o k given g below

-- the term table of the values of a term table
pub coefficients_values : (k : ℕ) (cs : List ℤ) → length cs ≡ 2 ^ k → coefficients (values cs) ≡ cs
coefficients_values k cs l = ap coefficients (sym (converted_plus cs)) ∙ converted_back plus k cs l

-- the values of the term table of values
pub values_coefficients : (k : ℕ) (vs : List ℤ) → length vs ≡ 2 ^ k → values (coefficients vs) ≡ vs
values_coefficients k vs l = sym (converted_plus (coefficients vs)) ∙ converted_back minus k vs l

pub unique : Unique
unique k cs ds l m e = sym (coefficients_values k cs l) ∙ ap coefficients e ∙ coefficients_values k ds m

-- a term table has the values of f exactly where f makes up its value table
values_from : (k : ℕ) (f : ℕ → ℤ) (cs : List ℤ) → HasValues k f cs → values cs ≡ tabulated (2 ^ k) f
values_from k f cs (l, e) =
    fill_by_all f (values cs) (2 ^ k) (pos 0) (length-map-range_with_len (worth (as_terms cs)) 0 (length cs) ∙ l)
    (λ g below. get_or_tabulated (length cs) (worth (as_terms cs)) g (omega arith) ∙ e g below)

has_from : (k : ℕ) (f : ℕ → ℤ) (cs : List ℤ) → length cs ≡ 2 ^ k → values cs ≡ tabulated (2 ^ k) f → HasValues k f cs
has_from k f cs l e =
    (l, λ g below. sym (get_or_tabulated (length cs) (worth (as_terms cs)) g (omega arith)) ∙ ap (λ xs. get_or xs g (pos 0)) e ∙ get_or_tabulated (2 ^ k) f g below)

pub normal_form : IsNormalForm
normal_form k f =
    let vs = tabulated (2 ^ k) f in
    let long = length-map-range_with_len f 0 (2 ^ k) in
    let restored = values_coefficients k vs long in (
      coefficients vs,
      has_from k f (coefficients vs) (length_converted minus vs ∙ long) restored,
      λ ds has. unique k ds (coefficients vs) has.0 (length_converted minus vs ∙ long) (values_from k f ds has ∙ sym restored),
    )
