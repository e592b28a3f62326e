use Rattle.sheet_file.proofs.Numbers.{stands_below}
use Rattle.sheet_file.proofs.faults.FileRefusal.number.Goals as goal

pub returns-clause-row : goal.returns-clause-row
returns-clause-row c = stands_below c.args.self
