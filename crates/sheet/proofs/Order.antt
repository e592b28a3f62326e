-- The rows of every call are listed in the order of the table.
use Rattle.std.proofs.Common.{rules}
use Rattle.terms.proofs.Uppermost.{InOrder, uppermost_answers}
use Rattle.sheet.specs.Ledger.{Ledger, Call, Declares, Posts, Prices, Withdraws, Locks, Unlocks, rows, UppermostRefuses}

in_order : (l : Ledger) (c : Call) → InOrder (rows l c)
in_order l (Declares house) = search rules
in_order l (Posts p) = search rules
in_order l (Prices amount group) = search rules
in_order l (Withdraws number) = search rules
in_order l Locks = tt
in_order l Unlocks = tt

pub uppermost_refuses : UppermostRefuses
uppermost_refuses l c = uppermost_answers (rows l c) (in_order l c)
