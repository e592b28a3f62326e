use Rattle.std.proofs.Common.{ap, ◌∙◌}
use Rattle.terms.specs.Refusals.{unless}
use Rattle.tables.specs.Tables.{table_refusal}
use Rattle.tables.proofs.Accepted.{values_restored}
use Rattle.tables.proofs.Entries.{converted_plus}
use Rattle.tables.proofs.conversion.to_values.Goals as goal

pub returns-clause-table : goal.returns-clause-table
returns-clause-table c =
    let xs = c.args.table.now in c.convert_checked.ensures.table ∙ ap (unless (table_refusal xs) xs) (converted_plus xs)

pub returns-clause-restored : goal.returns-clause-restored
returns-clause-restored c = values_restored c.args.table.now
