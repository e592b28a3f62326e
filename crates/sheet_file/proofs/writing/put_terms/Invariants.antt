use Rattle.std.proofs.Common.{take}
use Rattle.sheet_file.specs.WritingSteps.{Written, terms_bytes}
use Rattle.sheet_file.proofs.writing.put_terms.Given as goal

abbrev pub invariant-loop-term : goal.invariant-loop-term
invariant-loop-term l = Written l.at (terms_bytes (take l.term-index l.terms)) l.fn.space l.space l.place
