use Rattle.std.proofs.Common.{◌≡◌, ◌∷◌, sym, ap, ◌∙◌, arith, w32, FitsSigned, rules}
use Rattle.std.proofs.lemmas.Int.{to_z-of_z}
use Rattle.sheet_file.specs.Records.{signed_bytes}
use Rattle.sheet_file.proofs.Written.{written_then}
use Rattle.sheet_file.proofs.writing.put_rule_head.Goals as goal

pub returns : goal.returns
returns c =
    let bound = c.args.rule.now.bound in
    let small : FitsSigned w32 bound = search rules in
    let signed : c.to_be_bytes.result ≡ signed_bytes bound = c.to_be_bytes.ensures ∙ ap signed_bytes (to_z-of_z w32 bound small) in
    written_then (omega arith) c.put-at.ensures c.put.ensures _
    (sym (λ i. c.number.ensures i ∷ (c.args.number ∷ (c.number-2.ensures.value i ∷ signed i))))
