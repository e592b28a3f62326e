use Rattle.std.proofs.Common.{arith}
use Rattle.terms.specs.Terms.{no_term}
use Rattle.sheet_file.specs.Records.{TermRecord, record_bytes}
use Rattle.sheet_file.proofs.Written.{written_none, room_for, written_more}
use Rattle.sheet_file.proofs.writing.put_terms.Goals as goal

pub loop-term-init : goal.loop-term-init
loop-term-init c = written_none c.args.at c.args.space.now

pub put_term-place-requires : goal.put_term-place-requires
put_term-place-requires c =
    room_for (λ term. record_bytes (TermRecord term)) c.args.terms.now c.loop-term.term-index no_term c.requires c.loop-term.invariant (omega arith)

pub loop-term-preserved : goal.loop-term-preserved
loop-term-preserved c =
    written_more (λ term. record_bytes (TermRecord term)) c.args.terms.now c.loop-term.term-index no_term c.requires c.loop-term.invariant
    (omega arith) c.put_term-place.ensures
