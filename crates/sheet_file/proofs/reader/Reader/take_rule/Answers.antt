use Rattle.std.proofs.Common.{◌≡◌, ◌+◌, false, get_or, w32, to_z, of_z, refl, sym, ap, ◌∙◌, arith, rules}
use Rattle.sheet.specs.History.{draft_ledger}
use Rattle.sheet_file.specs.declared.kinds.Kind.TheVariants as kinds
use Rattle.sheet_file.specs.declared.reader.OpenRule.{OpenRule}
use Rattle.sheet_file.specs.Records.{Head, signed_at}
use Rattle.sheet_file.specs.Reading.{is_late}
use Rattle.sheet_file.specs.ReadingSteps.{behind, rest_at, told_closed, told_open}
use Rattle.sheet_file.proofs.Fields.{signed_kept}
use Rattle.sheet_file.proofs.Rest.{rest_whole, next_inside}
use Rattle.sheet_file.proofs.Taken.{opened, rule_opened}
use Rattle.sheet_file.proofs.reader.Reader.take_rule.Goals as goal

pub returns : goal.returns
returns c =
    let r = c.args.self.now in
    let bytes = r.bytes.now in
    let l = draft_ledger r.draft in
    let read = c.in_ok-body.body.now in
    let bs = behind bytes r.place in
    let bound = c.signed_at.result in
    let (within, is) = c.requires.at in
    let (body, whole) = c.in_ok-body.ensures in
    let next = r.place + c.record_length.result in
    let far : next ≡ r.place + 1 + 6 = omega (arith, c.record_length.ensures) in
    let g = rest_at bytes next in
    let same_bound = signed_kept read bs 2 body bound c.signed_at.ensures (search rules) in
    let early : is_late l (get_or read 0 0) ≡ false = c.requires.settled (get_or read 0 0) ∙ sym c.is_late.ensures ∙ c.if-is_late.false in
    let first : is_late l (get_or bs 0 0) ≡ false = ap (λ xs. is_late l (get_or xs 0 0)) (sym body) ∙ early in
    let head : Head = record { number = get_or bs 0 0; relation = get_or bs 1 0; bound = signed_at bs 2 } in
    let rule : OpenRule =
    record { place = r.place; number = get_or read 0 0; relation = get_or read 1 0; bound = to_z w32 (of_z w32 bound); terms = c.new.result } in
    let same_rule : opened r.place head c.new.result ≡ rule =
    λ i. record { place = r.place; number = get_or (sym body i) 0 0; relation = get_or (sym body i) 1 0; bound = same_bound i; terms = c.new.result } in
    record {
      bytes = refl;
      further = omega arith;
      inside = next_inside bytes r.place kinds.Rule within is next far whole;
      between = early;
      same =
          ap (told_closed l) (rest_whole bytes r.place kinds.Rule within is next far whole)
          ∙ rule_opened l r.place head g c.new.result first c.new.ensures
          ∙ ap (λ o. told_open l o g) same_rule;
    }
