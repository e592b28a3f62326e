use Rattle.std.proofs.Common.{◌≡◌, ◌+◌, ◌<◌, [], ◌∷◌, ◌++◌, length, w32, to_z, of_z, refl, sym, ap, ◌∙◌, arith, rules}
use Rattle.std.proofs.lemmas.Bool.{lt-leb, eqb-false}
use Rattle.terms.specs.declared.polynomials.Term.{Term}
use Rattle.sheet.specs.History.{draft_ledger}
use Rattle.sheet_file.specs.declared.kinds.Kind.TheVariants as kinds
use Rattle.sheet_file.specs.Records.{signed_at, unsigned_at}
use Rattle.sheet_file.specs.ReadingSteps.{behind, rest, rest_at, told_in, told_open}
use Rattle.sheet_file.proofs.Fields.{signed_kept, unsigned_kept}
use Rattle.sheet_file.proofs.Rest.{rest_whole, next_inside}
use Rattle.sheet_file.proofs.Taken.{with_terms, term_joined}
use Rattle.sheet_file.proofs.reader.Reader.take_term.Goals as goal

pub returns : goal.returns
returns c =
    let r = c.args.self.now in
    let bytes = r.bytes.now in
    let l = draft_ledger r.draft in
    let bs = behind bytes r.place in
    let size = c.signed_at.result in
    let had = r.rule.terms.items in
    let (within, is) = c.requires.at in
    let (body, whole) = c.in_ok-body.ensures in
    let next = r.place + c.record_length.result in
    let far : next ≡ r.place + 1 + 8 = omega (arith, c.record_length.ensures) in
    let g = rest_at bytes next in
    let same_size = signed_kept _ bs 0 body size c.signed_at.ensures (search rules) in
    let same_group = unsigned_kept _ bs 4 body c.unsigned_at.result c.unsigned_at.ensures in
    let term : Term = record { coefficient = signed_at bs 0; group = unsigned_at bs 4 } in
    let taken : Term = record { coefficient = to_z w32 (of_z w32 size); group = c.unsigned_at.result } in
    let same_term : term ≡ taken = λ i. record { coefficient = same_size i; group = same_group i } in
    let differs = eqb-false (length had) 64 (sym c.if-is_full.ensures.value) in
    let few : length had < 64 = omega (arith, differs, c.if-is_full.ensures.fits) in
    record {
      bytes = refl;
      further = omega arith;
      inside = next_inside bytes r.place kinds.Term within is next far whole;
      between = c.requires.between;
      same =
          ap (λ s. told_in s l r.rule (rest r)) c.requires.stage
          ∙ ap (told_open l r.rule) (rest_whole bytes r.place kinds.Term within is next far whole)
          ∙ term_joined l r.rule r.place g term c.push.new.self (lt-leb 64 (length had) few)
          (c.push.ensures.items ∙ ap (λ t. had ++ t ∷ []) (sym same_term)) c.push.ensures.len
          ∙ ap (λ s. told_in s l (with_terms r.rule c.push.new.self) g) (sym c.requires.stage);
    }
