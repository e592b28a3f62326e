-- Reading the file of contents that a sheet keeps gives these contents back.
use Rattle.std.proofs.Common.{◌≡◌, ℕ, ◌≤◌, false, List, [], ◌∷◌, ◌++◌, map, None, sum_by, sym, refl, ap, ◌∙◌, subst, arith}
use Rattle.std.specs.List.{flat_map, range_with_len}
use Rattle.std.proofs.lemmas.List.{append-nil, append_assoc, length-append}
use Rattle.sheet.specs.Ledger.{Contents, Ledger, numbers, term_count, live_terms, empty_ledger}
use Rattle.sheet.specs.Limits.{place_count, rule_numbers}
use Rattle.sheet.specs.Kept.{KeptHouses, KeptContents}
use Rattle.sheet.proofs.TermPlaces.{new_laid}
use Rattle.sheet_file.specs.Format.{rule_records, sheet_records}
use Rattle.sheet_file.specs.Laws.{HousesFit, ReadsBack}
use Rattle.sheet_file.specs.Records.{Record, SpotRecord, PriceRecord}
use Rattle.sheet_file.specs.Reading.{told}
use Rattle.sheet_file.specs.Pieces.{all_pieces, grouped}
use Rattle.sheet_file.proofs.Bytes.{placed, records_read}
use Rattle.sheet_file.proofs.Makes.{spot_makes}
use Rattle.sheet_file.proofs.Unrefused.{fresh_behind, declare_unrefused}
use Rattle.sheet_file.proofs.KeptFits.{all_fit}
use Rattle.sheet_file.proofs.PricesRebuild.{draft, Rebuilds}
use Rattle.sheet_file.proofs.RulesRebuild.{rules_below, none_below, not_late, rules_rebuild}

-- the first spots, and nothing else
module _ (c : Contents) (rs : List Record) where
  abbrev spotted : List ℕ → Ledger
  spotted houses = draft houses (rules_below c.rules 0) [] 0 (λ _. None)

  spots_rebuild : (done todo : List ℕ) → KeptHouses (done ++ todo) → Rebuilds c (spotted (done ++ todo)) rs
      → Rebuilds c (spotted done) (map SpotRecord todo ++ rs)
  spots_rebuild done [] kept next = subst (λ houses. Rebuilds c (spotted houses) rs) (append-nil done) next
  spots_rebuild done (house ∷ todo) kept next =
      let join = sym (append_assoc done (house ∷ []) todo) in
      let all = subst (λ houses. Rebuilds c (spotted houses) rs) join next in
      let later = spots_rebuild (done ++ house ∷ []) todo (subst KeptHouses join kept) all in
      let l = spotted done in
      let longer = length-append done (house ∷ todo) in
      let short = kept.0 in
      let fit = declare_unrefused l house (record { room = omega arith; fresh = fresh_behind done house todo kept.1 }) in
      record {
        sheet = later.sheet;
        makes = spot_makes l later.sheet house (map SpotRecord todo ++ rs) refl (not_late done c.rules 0 0 (λ _. None)) fit later.makes;
        same = later.same;
        packed = later.packed;
      }

numbers_are : (n : ℕ) → rule_numbers ≡ n → numbers ≡ range_with_len 0 n
unfolding numbers
numbers_are n e = ap (range_with_len 0) e

module _ (c : Contents) (kept : KeptContents c) where
  -- the sheet before any record
  abbrev blank_sheet : Ledger
  blank_sheet = spotted c [] []

  sheet_rebuilds : live_terms c ≤ place_count → (n : ℕ) → rule_numbers ≡ n → Rebuilds c blank_sheet (sheet_records c)
  sheet_rebuilds few n top =
      let all = numbers_are n top in
      let total = ap (sum_by (λ number. term_count (c.rules number))) all in
      let behind : List ℕ → List Record = λ ns. flat_map (λ number. rule_records number (c.rules number)) ns ++ map PriceRecord c.prices in
      let later = rules_rebuild c kept n 0 0 (λ _. None) (omega arith) few (omega arith) in
      spots_rebuild c (behind numbers) [] c.houses kept.0 (subst (λ ns. Rebuilds c (spotted c [] c.houses) (behind ns)) (sym all) later)

  start : empty_ledger ≡ blank_sheet
  start = λ i. record {
    contents = record { houses = []; rules = λ k. none_below c.rules k i; prices = [] };
    places = new_laid i;
    runs = λ _. None;
    locked = false;
  }

  pub reads_back : HousesFit c.houses → live_terms c ≤ place_count → ReadsBack c
  reads_back narrow few =
      let rs = sheet_records c in
      let all = sheet_rebuilds few rule_numbers refl in
      record {
        sheet = all.sheet;
        accepted =
            ap (λ ps. told empty_ledger (all_pieces (grouped ps))) (records_read 0 rs (all_fit c kept narrow))
            ∙ ap (λ l. told l (all_pieces (grouped (placed 0 rs)))) start ∙ all.makes 0;
        same = all.same;
        packed = all.packed;
      }
