use Rattle.std.proofs.Common.{◌≡◌, ◌∷◌, ◌++◌, sym, refl, ap, ◌∙◌, arith, w32, FitsSigned, rules}
use Rattle.std.proofs.lemmas.Int.{to_z-of_z}
use Rattle.sheet_file.specs.Records.{signed_bytes}
use Rattle.sheet_file.proofs.Written.{written_then}
use Rattle.sheet_file.proofs.writing.put_pair.Goals as goal

pub returns : goal.returns
returns c =
    let number = c.args.number in
    let small : FitsSigned w32 number = search rules in
    let signed : c.to_be_bytes.result ≡ signed_bytes number = c.to_be_bytes.ensures ∙ ap signed_bytes (to_z-of_z w32 number small) in
    written_then (omega arith) (written_then (omega arith) c.put-at.ensures c.put-at-2.ensures _ refl) c.put.ensures _
    (sym (λ i. c.number.ensures i ∷ (signed i ++ c.to_be_bytes-2.ensures i)))
