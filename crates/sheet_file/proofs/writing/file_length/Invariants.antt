use Rattle.std.proofs.Common.{◌≡◌, ◌+◌, ◌*◌, length}
use Rattle.sheet.specs.History.{locked_ledger}
use Rattle.sheet_file.proofs.Lengths.{length_below}
use Rattle.sheet_file.proofs.writing.file_length.Given as goal

abbrev pub invariant-loop-number : goal.invariant-loop-number
invariant-loop-number l =
    let c = (locked_ledger l.sheet).contents in
    l.length ≡ 5 * length c.houses + 9 * length c.prices + length_below c l.number
