-- Contents rebuilt from records, and in them the prices.
use Rattle.std.proofs.Common.{◌≡◌, ℕ, false, List, [], ◌∷◌, ◌++◌, map, length, Option, sym, refl, ◌∙◌, subst, arith}
use Rattle.std.proofs.lemmas.List.{append-nil, append_assoc, length-append, map-append, get_or_at}
use Rattle.terms.specs.Tests.{any}
use Rattle.sheet.specs.declared.prices.Price.{Price}
use Rattle.sheet.specs.Ledger.{LiveRule, Contents, Ledger, Run, live_terms, is_for, is_zero, with_amount}
use Rattle.sheet.specs.Layout.{price_group, no_price}
use Rattle.sheet.specs.Kept.{Apart, KeptPrice, KeptPrices}
use Rattle.sheet.proofs.PriceLists.{any_group}
use Rattle.sheet.proofs.TermPlaces.{laid, used_laid}
use Rattle.sheet_file.specs.Laws.{Packed}
use Rattle.sheet_file.specs.Records.{Record, PriceRecord}
use Rattle.sheet_file.proofs.Makes.{Makes, nothing_makes, price_makes}
use Rattle.sheet_file.proofs.Unrefused.{fresh_behind, FitsBehind, some_amount, price_read_unrefused, price_unrefused}

-- a draft with these contents, of whose places the first n are used
abbrev pub draft : List ℕ → (ℕ → Option LiveRule) → List Price → ℕ → (ℕ → Option Run) → Ledger
draft houses rules prices n runs = record {
  contents = record { houses = houses; rules = rules; prices = prices };
  places = laid n;
  runs = runs;
  locked = false;
}

-- reading the records onto a sheet gives one with these contents, which uses as many places as terms are live
pub record Rebuilds (c : Contents) (l : Ledger) (rs : List Record) : Type 0 where
  pub sheet : Ledger
  pub makes : Makes l rs sheet
  pub same : sheet.contents ≡ c
  pub packed : Packed sheet

-- all spots and rules, and the first prices
module _ (c : Contents) (n : ℕ) (runs : ℕ → Option Run) where
  abbrev pub priced : List Price → Ledger
  priced ps = draft c.houses c.rules ps n runs

  fits_behind : (done : List Price) (p : Price) (todo : List Price) → KeptPrices (length c.houses) (done ++ p ∷ todo) → FitsBehind (priced done) p
  fits_behind done p todo kept =
      let longer = length-append done (p ∷ todo) in
      let own = kept.1 (length done) (omega arith) in
      record {
        room = let short = kept.0 in omega arith;
        fresh =
            sym (any_group p.group done)
            ∙ fresh_behind (map price_group done) p.group (map price_group todo) (subst Apart (map-append price_group done (p ∷ todo)) kept.2);
        kept = subst (KeptPrice (length c.houses)) (get_or_at done p todo no_price (length done) refl) own;
      }

  added : (done : List Price) (p : Price) → is_zero p.amount ≡ false → any (is_for p.group) done ≡ false
      → with_amount done p.amount p.group ≡ done ++ p ∷ []
  added done p some fresh = rw (some, fresh) refl

  pub prices_rebuild : n ≡ live_terms c → (done todo : List Price) → KeptPrices (length c.houses) (done ++ todo) → done ++ todo ≡ c.prices
      → Rebuilds c (priced done) (map PriceRecord todo)
  prices_rebuild all done [] kept e = record {
    sheet = priced done;
    makes = nothing_makes (priced done);
    same = λ i. record { houses = c.houses; rules = c.rules; prices = (sym (append-nil done) ∙ e) i };
    packed = used_laid n ∙ all;
  }
  prices_rebuild all done (p ∷ todo) kept e =
      let next = sym (append_assoc done (p ∷ []) todo) in
      let later = prices_rebuild all (done ++ p ∷ []) todo (subst (KeptPrices (length c.houses)) next kept) (sym next ∙ e) in
      let l = priced done in
      let fit = fits_behind done p todo kept in
      let more = added done p (some_amount l p fit) fit.fresh in
      record {
        sheet = later.sheet;
        makes =
            price_makes l later.sheet p (map PriceRecord todo) refl (price_read_unrefused l p fit) (price_unrefused l p fit)
            (subst (λ ps. Makes (priced ps) (map PriceRecord todo) later.sheet) (sym more) later.makes);
        same = later.same;
        packed = later.packed;
      }
