use Rattle.std.proofs.Common.{◌≡◌, ◌-◌, ◌≤◌, length}
use Rattle.sheet.specs.History.{draft_ledger}
use Rattle.sheet_file.specs.Reading.{reading}
use Rattle.sheet_file.specs.ReadingSteps.{Between, outcome}
use Rattle.sheet_file.proofs.reading.sheet_of.Given as goal

abbrev pub invariant-loop-reader : goal.invariant-loop-reader
invariant-loop-reader l = record {
  bytes : l.reader.bytes.now ≡ l.bytes;
  inside : l.reader.place ≤ length l.bytes;
  between : Between l.reader.stage (draft_ledger l.reader.draft) l.reader.rule.number;
  told : outcome l.reader ≡ reading l.bytes;
}

abbrev pub decreases-loop-reader : goal.decreases-loop-reader
decreases-loop-reader l = length l.bytes - l.reader.place
