use Rattle.std.proofs.Common.{arith}
use Rattle.sheet_file.specs.Records.{SpotRecord, record_bytes}
use Rattle.sheet_file.proofs.Written.{written_none, room_for, written_more}
use Rattle.sheet_file.proofs.writing.put_spots.Goals as goal

pub loop-house-init : goal.loop-house-init
loop-house-init c = written_none c.args.at c.args.space.now

pub put_spot-place-requires : goal.put_spot-place-requires
put_spot-place-requires c =
    room_for (λ house. record_bytes (SpotRecord house)) c.args.houses.now c.loop-house.house-index 0 c.requires c.loop-house.invariant (omega arith)

pub loop-house-preserved : goal.loop-house-preserved
loop-house-preserved c =
    written_more (λ house. record_bytes (SpotRecord house)) c.args.houses.now c.loop-house.house-index 0 c.requires c.loop-house.invariant
    (omega arith) c.put_spot-place.ensures
