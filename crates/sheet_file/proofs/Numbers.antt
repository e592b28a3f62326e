-- The row of a file's refusal among those of the plain ones.
use Rattle.std.proofs.Common.{arith}
use Rattle.terms.specs.declared.refusals.Refusal.TheVariants.{OffSheet, Full, Twice, Blank, OutOfRange, Crowded, NotLive, TooWide, Short, NoLineUp, NotListed, OddLength}
use Rattle.sheet_file.specs.declared.faults.FileRefusal.{FileRefusal}
use Rattle.sheet_file.specs.declared.faults.FileRefusal.TheVariants.{BadFile}
use Rattle.sheet_file.specs.Faults.{StandsBelow}

pub stands_below : (e : FileRefusal) → StandsBelow e
stands_below (BadFile place fault) OffSheet = omega arith
stands_below (BadFile place fault) Full = omega arith
stands_below (BadFile place fault) Twice = omega arith
stands_below (BadFile place fault) Blank = omega arith
stands_below (BadFile place fault) OutOfRange = omega arith
stands_below (BadFile place fault) Crowded = omega arith
stands_below (BadFile place fault) NotLive = omega arith
stands_below (BadFile place fault) TooWide = omega arith
stands_below (BadFile place fault) Short = omega arith
stands_below (BadFile place fault) NoLineUp = omega arith
stands_below (BadFile place fault) NotListed = omega arith
stands_below (BadFile place fault) OddLength = omega arith
