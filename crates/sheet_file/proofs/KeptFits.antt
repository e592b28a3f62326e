-- The records of contents that a sheet keeps fit their bytes.
use Rattle.std.proofs.Common.{◌≡◌, ℕ, ◌^◌, ◌<◌, ◌≤◌, List, [], ◌∷◌, ◌++◌, map, length, get_or, nat_abs, ℤ, FitsSigned, Some, None, Option, refl, pow_mono, arith}
use Rattle.std.specs.List.{flat_map, AllByRecursion}
use Rattle.std.specs.Int.{w32}
use Rattle.std.proofs.ByRecursion.{All-append, All-map, All-from_get_or}
use Rattle.std.proofs.lemmas.Bool.{leb-false}
use Rattle.std.proofs.lemmas.Int.{fits_signed_from_abs}
use Rattle.terms.specs.Limits.{most_coefficient, most_bound}
use Rattle.terms.specs.Terms.{no_term}
use Rattle.terms.specs.declared.polynomials.Term.{Term}
use Rattle.sheet.specs.declared.prices.Price.{Price}
use Rattle.sheet.specs.Ledger.{LiveRule, Contents, numbers}
use Rattle.sheet.specs.Limits.{most_spots, most_amount}
use Rattle.sheet.specs.Layout.{no_price}
use Rattle.sheet.specs.Kept.{Spotted, KeptTerm, KeptTerms, KeptPrice, KeptContents}
use Rattle.sheet_file.specs.Format.{rule_records, sheet_records}
use Rattle.sheet_file.specs.Records.{SpotRecord, TermRecord, PriceRecord}
use Rattle.sheet_file.specs.Laws.{HousesFit}
use Rattle.sheet_file.proofs.Bytes.{Fits}
use Rattle.sheet_file.proofs.Unrefused.{spotted_on}

all_flat : {X Y : Type 0} (P : Y → Type 0) (f : X → List Y) (xs : List X) → ((x : X) → AllByRecursion P (f x))
    → AllByRecursion P (flat_map f xs)
all_flat P f [] h = tt
all_flat P f (x ∷ xs) h = All-append P (f x) (flat_map f xs) (h x) (all_flat P f xs h)

-- a group of declared spots is a number of 32 bits
group_fits : (n g : ℕ) → Spotted n g → n ≤ most_spots → g < 2 ^ 32
group_fits n g h few =
    let on = leb-false (2 ^ n) g (spotted_on n g h) in
    let most : 2 ^ n ≤ 2 ^ 32 = pow_mono few in
    omega arith

signed_fits : (z : ℤ) (most : ℕ) → nat_abs z ≤ most → most < 2 ^ 31 → FitsSigned w32 z
signed_fits z most h low = fits_signed_from_abs w32 z (omega arith)

module _ (c : Contents) (kept : KeptContents c) where
  few_spots : length c.houses ≤ most_spots
  few_spots = kept.0.0

  term_in_bytes : (t : Term) → KeptTerm (length c.houses) t → Fits (TermRecord t)
  term_in_bytes t h = (signed_fits t.coefficient most_coefficient h.1 (omega arith), group_fits (length c.houses) t.group h.2 few_spots)

  price_in_bytes : (p : Price) → KeptPrice (length c.houses) p → Fits (PriceRecord p)
  price_in_bytes p h = (signed_fits p.amount most_amount h.1 (omega arith), group_fits (length c.houses) p.group h.2 few_spots)

  terms_in_bytes : (ts : List Term) → KeptTerms (length c.houses) ts → AllByRecursion Fits (map TermRecord ts)
  terms_in_bytes ts h =
      All-map Fits TermRecord ts
      (All-from_get_or (λ t. Fits (TermRecord t)) ts no_term (λ k l. term_in_bytes (get_or ts k no_term) (h.2 k l)))

  rule_in_bytes : (number : ℕ) (o : Option LiveRule) → c.rules number ≡ o → AllByRecursion Fits (rule_records number o)
  rule_in_bytes number None e = tt
  rule_in_bytes number (Some r) e =
      let own = kept.1 number r e in
      let low = own.0 in
      let related = own.1 in
      ((omega arith, omega arith, signed_fits r.bound most_bound own.2 (omega arith)), terms_in_bytes r.terms own.3)

  pub all_fit : HousesFit c.houses → AllByRecursion Fits (sheet_records c)
  all_fit narrow =
      let spots = map SpotRecord c.houses in
      let rules = flat_map (λ number. rule_records number (c.rules number)) numbers in
      let prices = map PriceRecord c.prices in
      All-append Fits spots (rules ++ prices)
      (All-map Fits SpotRecord c.houses (All-from_get_or (λ house. house < 2 ^ 32) c.houses 0 narrow))
      (All-append Fits rules prices (all_flat Fits _ numbers (λ number. rule_in_bytes number (c.rules number) refl))
      (All-map Fits PriceRecord c.prices
      (All-from_get_or (λ p. Fits (PriceRecord p)) c.prices no_price (λ k h. price_in_bytes (get_or c.prices k no_price) (kept.2.1 k h)))))
