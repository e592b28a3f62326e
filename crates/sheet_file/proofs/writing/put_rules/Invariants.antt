use Rattle.std.proofs.Common.{take}
use Rattle.std.specs.List.{flat_map}
use Rattle.sheet.specs.History.{locked_ledger}
use Rattle.sheet.specs.Ledger.{numbers}
use Rattle.sheet_file.specs.WritingSteps.{Written, bytes_under}
use Rattle.sheet_file.proofs.writing.put_rules.Given as goal

abbrev pub invariant-loop-number : goal.invariant-loop-number
invariant-loop-number l =
    let c = (locked_ledger l.sheet).contents in
    Written l.at (flat_map (bytes_under c) (take l.number numbers)) l.fn.space l.space l.place
