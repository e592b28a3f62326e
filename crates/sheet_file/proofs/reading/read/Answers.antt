use Rattle.std.proofs.Common.{refl, arith}
use Rattle.std.proofs.lemmas.Bool.{false≢true}
use Rattle.std.proofs.lemmas.Result.{err_from_is_err_and}
use Rattle.sheet.specs.History.{draft_ledger}
use Rattle.sheet_file.proofs.SameBytes.{read_err}
use Rattle.sheet_file.proofs.ReadLaws.{accepted_is_file, accepted_same, accepted_packed, accepted_short, refused_no_file}
use Rattle.sheet_file.proofs.SixCauses.{six_causes, prices_uppermost}
use Rattle.sheet_file.proofs.reading.read.Goals as goal

pub returns-in_err-draft-clause-accepted : goal.returns-in_err-draft-clause-accepted
returns-in_err-draft-clause-accepted c =
    let p = err_from_is_err_and c.from_residual.result c.from_residual.ensures.1 in
    rw p.1 (λ h. absurd (false≢true h), λ f. absurd (refused_no_file c.args.bytes.now _ c.in_err-draft.ensures f))

pub returns-in_err-draft-clause-refused : goal.returns-in_err-draft-clause-refused
returns-in_err-draft-clause-refused c =
    let p = err_from_is_err_and c.from_residual.result c.from_residual.ensures.1 in
    rw (p.1, p.2) (read_err c.args.bytes.now _ (λ i. let b = c.type_inv.bytes i in omega arith) c.in_err-draft.ensures)

pub returns-clause-accepted : goal.returns-clause-accepted
returns-clause-accepted c = (λ _. accepted_is_file c.args.bytes.now (draft_ledger c.in_ok-draft.field-0) (λ i. let b = c.type_inv.bytes i in omega arith) c.in_ok-draft.ensures, λ _. refl)

pub returns-clause-same_bytes : goal.returns-clause-same_bytes
returns-clause-same_bytes c = accepted_same c.args.bytes.now (draft_ledger c.in_ok-draft.field-0) (λ i. let b = c.type_inv.bytes i in omega arith) c.in_ok-draft.ensures

pub returns-clause-packed : goal.returns-clause-packed
returns-clause-packed c = accepted_packed c.args.bytes.now (draft_ledger c.in_ok-draft.field-0) (λ i. let b = c.type_inv.bytes i in omega arith) c.in_ok-draft.ensures

pub returns-clause-most : goal.returns-clause-most
returns-clause-most c = accepted_short c.args.bytes.now (draft_ledger c.in_ok-draft.field-0) (λ i. let b = c.type_inv.bytes i in omega arith) c.in_ok-draft.ensures

pub returns-in_err-draft-clause-causes : goal.returns-in_err-draft-clause-causes
returns-in_err-draft-clause-causes c =
    let p = err_from_is_err_and c.from_residual.result c.from_residual.ensures.1 in
    rw (p.1, p.2) (six_causes c.args.bytes.now _ c.in_err-draft.ensures)

pub returns-in_err-draft-clause-uppermost : goal.returns-in_err-draft-clause-uppermost
returns-in_err-draft-clause-uppermost c = prices_uppermost

pub returns-clause-uppermost : goal.returns-clause-uppermost
returns-clause-uppermost c = prices_uppermost
