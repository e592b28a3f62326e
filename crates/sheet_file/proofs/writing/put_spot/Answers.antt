use Rattle.std.proofs.Common.{arith}
use Rattle.sheet_file.proofs.Written.{written_then}
use Rattle.sheet_file.proofs.writing.put_spot.Goals as goal

pub returns : goal.returns
returns c = written_then (omega arith) c.put-at.ensures c.put.ensures _ cc
