-- The halves of a table that are converted one after the other, and what they make of the whole.
use Rattle.std.proofs.Common.{◌≡◌, ℕ, zero, suc, ◌+◌, ◌*◌, ◌/◌, ◌^◌, ◌<◌, ◌≤◌, List, ◌++◌, length, get_or, take, drop, ℤ, pos, nat_abs, None, sym, ap, ◌∙◌, subst, ap₂, le_of_lt, pow-suc, arith, length-append, length-drop, length-take, pow_pos, pow_mono}
use Rattle.std.specs.List.{AllByRecursion}
use Rattle.std.proofs.ByRecursion.{All-append, All-weaker, All-take, All-drop}
use Rattle.std.proofs.lemmas.List.{get_or-take, get_or-drop, get_or_append_left, get_or-append-add}
use Rattle.std.proofs.lemmas.List.FromFn.{fill_by_all}
use Rattle.tables.specs.Conversion.{Near, joined}
use Rattle.tables.specs.Limits.{most_entry, most_table_spots}
use Rattle.tables.specs.Tables.{Operation, applied, tabulated, converted, table_refusal}
use Rattle.tables.proofs.Accepted.{accepted, small_entries, over_spots}
use Rattle.tables.proofs.Conversions.{entry, entry_lower, entry_upper, entry_same, entry_single}
use Rattle.tables.proofs.Joins.{in_halves, joined_lower, joined_upper}
use Rattle.tables.proofs.Entries.{tabulated_same, length_converted, get_or_converted, converted_entries, converted_near}

-- the halves, converted and joined, are the table converted
module _ (o : Operation) (k : ℕ) (xs : List ℤ) (long : length xs ≡ 2 ^ k + 2 ^ k) where
  lower : List ℤ
  lower = converted o (take (2 ^ k) xs)

  upper : List ℤ
  upper = converted o (drop (2 ^ k) xs)

  both : List ℤ
  both = lower ++ upper

  given : ℕ → ℤ
  given h = get_or xs h (pos 0)

  length_lower : length (take (2 ^ k) xs) ≡ 2 ^ k
  length_lower = omega (arith, length-take (2 ^ k) xs)

  length_upper : length (drop (2 ^ k) xs) ≡ 2 ^ k
  length_upper = omega (arith, length-drop (2 ^ k) xs)

  length_lower_converted : length (converted o (take (2 ^ k) xs)) ≡ 2 ^ k
  length_lower_converted = length_converted o (take (2 ^ k) xs) ∙ length_lower

  length_upper_converted : length (converted o (drop (2 ^ k) xs)) ≡ 2 ^ k
  length_upper_converted = length_converted o (drop (2 ^ k) xs) ∙ length_upper

  in_lower : (g : ℕ) → g < 2 ^ k → get_or both g (pos 0) ≡ entry o (2 ^ k) given g
  unfolding lower upper both given
  in_lower g l =
      get_or_append_left lower upper (pos 0) g (omega (arith, length_lower_converted))
      ∙ get_or_converted o (take (2 ^ k) xs) g (omega (arith, length_lower))
      ∙ ap (λ n. entry o n (λ h. get_or (take (2 ^ k) xs) h (pos 0)) g) length_lower
      ∙ entry_same o (2 ^ k) _ given g (λ h m. get_or-take (2 ^ k) xs h (pos 0) m)

  in_upper : (g : ℕ) → g < 2 ^ k → get_or both (2 ^ k + g) (pos 0) ≡ entry o (2 ^ k) (λ h. given (2 ^ k + h)) g
  unfolding lower upper both given
  in_upper g l =
      ap (λ n. get_or both (n + g) (pos 0)) (sym length_lower_converted)
      ∙ get_or-append-add lower upper g (pos 0)
      ∙ get_or_converted o (drop (2 ^ k) xs) g (omega (arith, length_upper))
      ∙ ap (λ n. entry o n (λ h. get_or (drop (2 ^ k) xs) h (pos 0)) g) length_upper
      ∙ entry_same o (2 ^ k) _ (λ h. given (2 ^ k + h)) g (λ h m. get_or-drop (2 ^ k) xs h (pos 0))

  whole : (g : ℕ) → g < 2 ^ k + 2 ^ k → joined o (2 ^ k) both g ≡ entry o (2 ^ k + 2 ^ k) given g
  whole =
      in_halves (λ g. joined o (2 ^ k) both g ≡ entry o (2 ^ k + 2 ^ k) given g) (2 ^ k)
      (λ g l. joined_lower o (2 ^ k) both g l ∙ in_lower g l ∙ sym (entry_lower o given k g l))
      (λ g l. joined_upper o (2 ^ k) both g ∙ ap₂ (applied o) (in_upper g l) (in_lower g l) ∙ sym (entry_upper o given k g l))

  pub halves_joined : tabulated (2 ^ k + 2 ^ k) (joined o (2 ^ k) (converted o (take (2 ^ k) xs) ++ converted o (drop (2 ^ k) xs))) ≡ converted o xs
  unfolding lower upper both given
  halves_joined =
      tabulated_same (2 ^ k + 2 ^ k) _ _ whole
      ∙ ap (λ n. tabulated n (entry o n given)) (sym long)
      ∙ sym (converted_entries o xs)

-- a table of one entry stays as it is
pub converted_single : (o : Operation) (xs : List ℤ) → length xs ≡ 1 → xs ≡ converted o xs
converted_single o xs l =
    let given : ℕ → ℤ = λ h. get_or xs h (pos 0) in
    fill_by_all (entry o 1 given) xs 1 (pos 0) l
    (λ g below. let e : 0 ≡ g = omega arith in subst (λ j. given j ≡ entry o 1 given j) e (sym (entry_single o given)))
    ∙ ap (λ n. tabulated n (entry o n given)) (sym l)
    ∙ sym (converted_entries o xs)

-- what the conversion of a table of more than one entry owes its two calls of itself and the join, and what it makes of them
module _ (o : Operation) (xs : List ℤ) (taken : table_refusal xs ≡ None) (many : length xs ≡ 1 → ⊥) where
  -- the spots of a half
  less : (k : ℕ) × (k < most_table_spots) × (length xs ≡ 2 ^ k + 2 ^ k)
  less = let (spots, few, long) = over_spots xs taken in halved spots few long
    where
      halved : (spots : ℕ) → spots ≤ most_table_spots → length xs ≡ 2 ^ spots → (k : ℕ) × (k < most_table_spots) × (length xs ≡ 2 ^ k + 2 ^ k)
      halved zero few long = absurd (many long)
      halved (suc k) few long = (k, omega arith, omega (arith, pow-suc 2 k))

  k : ℕ
  k = less.0

  twice : length xs ≡ 2 ^ k + 2 ^ k
  unfolding k
  twice = less.2

  half_is : length xs / 2 ≡ 2 ^ k
  half_is = omega (arith, twice)

  -- there are two halves of one length, and neither is empty
  pub halves : (length xs ≡ length xs / 2 + length xs / 2) × (0 < length xs / 2)
  halves = (omega (arith, twice), omega (arith, twice, pow_pos k))

  near : AllByRecursion (λ z. nat_abs z ≤ most_entry) xs
  near = small_entries xs taken

  -- a half is accepted too, and its entries, once they are converted, can be joined
  module _ (ws : List ℤ) (long : length ws ≡ 2 ^ k) (small : AllByRecursion (λ z. nat_abs z ≤ most_entry) ws) where
    half_taken : table_refusal ws ≡ None
    unfolding k
    half_taken = accepted ws k small long (let few = less.1 in omega arith)

    half_near : AllByRecursion Near (converted o ws)
    unfolding k
    half_near =
        let bound : 2 ^ k ≤ 2 ^ most_table_spots = pow_mono (le_of_lt less.1) in
        All-weaker (λ z. nat_abs z ≤ length ws * most_entry) Near (λ z m. omega arith) (converted o ws) (converted_near o most_entry ws small)

  lower_near : AllByRecursion (λ z. nat_abs z ≤ most_entry) (take (2 ^ k) xs)
  lower_near = All-take (λ z. nat_abs z ≤ most_entry) (2 ^ k) xs near

  upper_near : AllByRecursion (λ z. nat_abs z ≤ most_entry) (drop (2 ^ k) xs)
  upper_near = All-drop (λ z. nat_abs z ≤ most_entry) (2 ^ k) xs near

  pub lower_taken : table_refusal (take (length xs / 2) xs) ≡ None
  lower_taken = rw half_is (half_taken (take (2 ^ k) xs) (length_lower o k xs twice) lower_near)

  pub upper_taken : table_refusal (drop (length xs / 2) xs) ≡ None
  upper_taken = rw half_is (half_taken (drop (2 ^ k) xs) (length_upper o k xs twice) upper_near)

  module _ (ys zs : List ℤ) (first : ys ≡ converted o (take (length xs / 2) xs)) (second : zs ≡ converted o (drop (length xs / 2) xs)) where
    both_is : ys ++ zs ≡ converted o (take (2 ^ k) xs) ++ converted o (drop (2 ^ k) xs)
    both_is = ap₂ ◌++◌ (rw half_is at first) (rw half_is at second)

    pub both_long : length (ys ++ zs) ≡ length xs / 2 + length xs / 2
    both_long =
        ap length both_is
        ∙ omega (arith, length-append (converted o (take (2 ^ k) xs)) (converted o (drop (2 ^ k) xs)), length_lower_converted o k xs twice, length_upper_converted o k xs twice, half_is)

    pub both_near : AllByRecursion Near (ys ++ zs)
    both_near =
        rw both_is
        (All-append Near (converted o (take (2 ^ k) xs)) (converted o (drop (2 ^ k) xs))
        (half_near (take (2 ^ k) xs) (length_lower o k xs twice) lower_near)
        (half_near (drop (2 ^ k) xs) (length_upper o k xs twice) upper_near))

    pub whole_is : tabulated (length xs / 2 + length xs / 2) (joined o (length xs / 2) (ys ++ zs)) ≡ converted o xs
    whole_is = ap₂ (λ h ws. tabulated (h + h) (joined o h ws)) half_is both_is ∙ halves_joined o k xs twice
