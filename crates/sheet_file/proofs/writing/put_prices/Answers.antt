use Rattle.std.proofs.Common.{arith}
use Rattle.sheet.specs.Layout.{no_price}
use Rattle.sheet_file.specs.Records.{PriceRecord, record_bytes}
use Rattle.sheet_file.proofs.Written.{written_none, room_for, written_more}
use Rattle.sheet_file.proofs.writing.put_prices.Goals as goal

pub loop-price-init : goal.loop-price-init
loop-price-init c = written_none c.args.at c.args.space.now

pub put_price-place-requires : goal.put_price-place-requires
put_price-place-requires c =
    room_for (λ price. record_bytes (PriceRecord price)) c.args.prices.now c.loop-price.price-index no_price c.requires c.loop-price.invariant (omega arith)

pub loop-price-preserved : goal.loop-price-preserved
loop-price-preserved c =
    written_more (λ price. record_bytes (PriceRecord price)) c.args.prices.now c.loop-price.price-index no_price c.requires c.loop-price.invariant
    (omega arith) c.put_price-place.ensures
