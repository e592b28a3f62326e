use Rattle.tables.proofs.Entries.{sums_inside}
use Rattle.tables.proofs.Inverse.{unique, normal_form}
use Rattle.tables.proofs.Powers.{length_says}
use Rattle.tables.proofs.laws.tables_say_so.Goals as goal

pub returns : goal.returns
returns c = record { length = length_says; sums = sums_inside; unique = unique; normal_form = normal_form }
