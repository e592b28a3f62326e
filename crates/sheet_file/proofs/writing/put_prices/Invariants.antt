use Rattle.std.proofs.Common.{take}
use Rattle.sheet_file.specs.WritingSteps.{Written, prices_bytes}
use Rattle.sheet_file.proofs.writing.put_prices.Given as goal

abbrev pub invariant-loop-price : goal.invariant-loop-price
invariant-loop-price l = Written l.at (prices_bytes (take l.price-index l.prices)) l.fn.space l.space l.place
