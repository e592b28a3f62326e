use Rattle.std.proofs.Common.{sym, ◌∙◌, subst}
use Rattle.tables.specs.NormalForm.{OnlyTerms}
use Rattle.tables.proofs.Accepted.{terms_restored, only_terms}
use Rattle.tables.proofs.conversion.to_terms.Goals as goal

pub returns-clause-restored : goal.returns-clause-restored
returns-clause-restored c = terms_restored c.args.table.now

pub returns-clause-only : goal.returns-clause-only
returns-clause-only c h =
    subst (OnlyTerms c.args.table.now) (sym c.convert_checked.ensures.table)
    (only_terms c.args.table.now (sym c.convert_checked.ensures.answer ∙ h))
