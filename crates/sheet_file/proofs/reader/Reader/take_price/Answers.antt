use Rattle.std.proofs.Common.{◌≡◌, ℕ, ◌+◌, false, List, ℤ, Some, None, Err, w32, to_z, of_z, SFits, refl, sym, ap, ◌∙◌, arith, rules}
use Rattle.std.proofs.lemmas.Int.{to_z-of_z}
use Rattle.terms.specs.Refusals.{uppermost}
use Rattle.sheet.specs.declared.prices.Price.{Price}
use Rattle.sheet.specs.Ledger.{Prices, step}
use Rattle.sheet.specs.History.{draft_ledger}
use Rattle.sheet.proofs.Ledgers.{made_done}
use Rattle.sheet_file.specs.declared.kinds.Kind.TheVariants as kinds
use Rattle.sheet_file.specs.declared.reader.Reader.{Reader}
use Rattle.sheet_file.specs.Records.{PriceRecord, Whole, signed_at, unsigned_at}
use Rattle.sheet_file.specs.Pieces.{joined}
use Rattle.sheet_file.specs.Reading.{price_record_rows, is_late}
use Rattle.sheet_file.specs.ReadingSteps.{behind, rest, rest_at, told_closed, IsAt, is_cut}
use Rattle.sheet_file.proofs.Fields.{signed_kept, unsigned_kept}
use Rattle.sheet_file.proofs.Grown.{fit_last}
use Rattle.sheet_file.proofs.TooLate.{late_priced}
use Rattle.sheet_file.proofs.Rest.{rest_whole, next_inside}
use Rattle.sheet_file.proofs.Taken.{accepted, refused, price_told, price_refused}
use Rattle.sheet_file.proofs.reader.Reader.take_price.Goals as goal

-- the price that was read and kept
abbrev kept : ℤ → ℕ → Price
kept amount group = record { amount = to_z w32 (of_z w32 amount); group = group }

-- stands in its record
price_joined : (r : Reader) (body : List ℕ) (amount : ℤ) (group next : ℕ) → IsAt kinds.Price r → is_cut kinds.Price r ≡ false → next ≡ r.place + 1 + 8
    → body ≡ behind r.bytes.now r.place → amount ≡ signed_at body 0 → SFits w32 amount → group ≡ unsigned_at body 4
    → rest r ≡ joined r.place (Whole (PriceRecord (kept amount group))) (rest_at r.bytes.now next)
price_joined r body amount group next (within, is) whole far same amount_read fits group_read =
    let bs = behind r.bytes.now r.place in
    let price : record { amount = signed_at bs 0; group = unsigned_at bs 4 } ≡ kept amount group = λ i. record {
      amount = signed_kept body bs 0 same amount amount_read fits i;
      group = unsigned_kept body bs 4 same group group_read i;
    } in
    rest_whole r.bytes.now r.place kinds.Price within is next far whole
    ∙ ap (λ p. joined r.place (Whole (PriceRecord p)) (rest_at r.bytes.now next)) price

pub returns : goal.returns
returns c =
    let r = c.args.self.now in
    let bytes = r.bytes.now in
    let l = draft_ledger r.draft in
    let m = draft_ledger c.price.new.self in
    let size = c.signed_at.result in
    let (within, is) = c.requires in
    let (body, whole) = c.in_ok-body.ensures in
    let next = r.place + c.record_length.result in
    let far : next ≡ r.place + 1 + 8 = omega (arith, c.record_length.ensures) in
    let in_range : SFits w32 size = search rules in
    let p = kept size c.unsigned_at.result in
    let fits : uppermost (price_record_rows l p) ≡ None = accepted _ _ _ c.in_default.ensures in
    let after : m ≡ step l (Prices p.amount p.group) =
    c.price.ensures.after ∙ ap (λ z. step l (Prices (to_z w32 (of_z w32 z)) p.group)) (to_z-of_z w32 size in_range) in
    record {
      bytes = refl;
      further = omega arith;
      inside = next_inside bytes r.place kinds.Price within is next far whole;
      between = λ number. ap (λ k. is_late k number) (after ∙ made_done l (Prices p.amount p.group) (fit_last l p fits).fits) ∙ late_priced l p fits number;
      same =
          ap (told_closed l) (price_joined r _ size c.unsigned_at.result next c.requires whole far body c.signed_at.ensures in_range c.unsigned_at.ensures)
          ∙ price_told l r.place p (rest_at bytes next) fits
          ∙ ap (λ k. told_closed k (rest_at bytes next)) (sym after);
    }

pub returns-in-Err : goal.returns-in-Err
returns-in-Err c =
    let r = c.args.self.now in
    let l = draft_ledger r.draft in
    let (body, whole) = c.in_ok-body.ensures in
    let next = r.place + 1 + 8 in
    let p = kept c.signed_at.result c.unsigned_at.result in
    let says : uppermost (price_record_rows l p) ≡ Some c.in-Err.refusal = refused _ _ _ c.in-Err.ensures in
    ap (told_closed l) (price_joined r _ _ _ next c.requires whole refl body c.signed_at.ensures (search rules) c.unsigned_at.ensures)
    ∙ price_refused l r.place p (rest_at r.bytes.now next) c.in-Err.refusal says
    ∙ ap Err (sym c.cause.ensures)
