use Rattle.std.proofs.Common.{take}
use Rattle.sheet_file.specs.WritingSteps.{Written, spots_bytes}
use Rattle.sheet_file.proofs.writing.put_spots.Given as goal

abbrev pub invariant-loop-house : goal.invariant-loop-house
invariant-loop-house l = Written l.at (spots_bytes (take l.house-index l.houses)) l.fn.space l.space l.place
