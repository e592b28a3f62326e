use Rattle.std.proofs.Common.{◌≡◌, ℕ, ◌+◌, false, None, refl, sym, ap, ◌∙◌, subst, arith}
use Rattle.sheet.specs.Ledger.{Declares, refusal, step}
use Rattle.sheet.proofs.Ledgers.{made_done}
use Rattle.sheet.specs.History.{draft_ledger}
use Rattle.sheet_file.specs.declared.kinds.Kind.TheVariants as kinds
use Rattle.sheet_file.specs.Records.{SpotRecord, Whole, unsigned_at}
use Rattle.sheet_file.specs.Pieces.{joined}
use Rattle.sheet_file.specs.Reading.{is_late}
use Rattle.sheet_file.specs.ReadingSteps.{behind, rest_at, told_in, told_closed, late_in, Between}
use Rattle.sheet_file.proofs.Rest.{rest_whole, next_inside}
use Rattle.sheet_file.proofs.Taken.{accepted, spot_told}
use Rattle.sheet_file.proofs.reader.Reader.take_spot.Goals as goal

pub returns : goal.returns
returns c =
    let r = c.args.self.now in
    let bytes = r.bytes.now in
    let l = draft_ledger r.draft in
    let d = c.declare.new.self in
    let house = c.unsigned_at-house.result in
    let (within, is) = c.requires.at in
    let (body, whole) = c.in_ok-body.ensures in
    let next = r.place + c.record_length.result in
    let far : next ≡ r.place + 1 + 4 = omega (arith, c.record_length.ensures) in
    let read : house ≡ unsigned_at (behind bytes r.place) 0 = c.unsigned_at-house.ensures ∙ ap (λ bs. unsigned_at bs 0) body in
    let fits : refusal l (Declares house) ≡ None = accepted (refusal l (Declares house)) _ _ c.in_default.ensures.answer in
    let after : draft_ledger d ≡ step l (Declares house) = c.declare.ensures.after in
    let never : (number : ℕ) → is_late l number ≡ false = λ number. c.requires.settled number ∙ ap (λ s. late_in s r.rule.number number) c.requires.stage in
    let still : (number : ℕ) → is_late (draft_ledger d) number ≡ false = λ number. ap (λ m. is_late m number) (after ∙ made_done l (Declares house) fits) ∙ never number in
    let g = rest_at bytes next in
    record {
      bytes = refl;
      further = omega arith;
      inside = next_inside bytes r.place kinds.Spot within is next far whole;
      between = subst (λ s. Between s (draft_ledger d) r.rule.number) (sym c.requires.stage) still;
      same =
          ap (told_closed l) (rest_whole bytes r.place kinds.Spot within is next far whole)
          ∙ ap (λ n. told_closed l (joined r.place (Whole (SpotRecord n)) g)) (sym read)
          ∙ spot_told l r.place house g (never 0) fits
          ∙ ap (λ m. told_closed m g) (sym after)
          ∙ ap (λ s. told_in s (draft_ledger d) r.rule g) (sym c.requires.stage);
    }
