use Rattle.std.proofs.Common.{false, sym, ap, ◌∙◌}
use Rattle.terms.specs.Refusals.{unless}
use Rattle.sheet.specs.Ledger.{done, Posts}
use Rattle.sheet.specs.Of.{ledger, posting_of}
use Rattle.sheet.proofs.Ledgers.{made_done}
use Rattle.sheet.proofs.book.Book.post.Goals as goal

pub returns-clause-after : goal.returns-clause-after
returns-clause-after c =
    let call = Posts (posting_of c.args.posting.now) in
    c.enter.ensures ∙ sym (made_done (ledger c.args.self.now false) call (sym c.in_ok-relation.ensures.refusal))

pub returns-in_err-relation-clause-after : goal.returns-in_err-relation-clause-after
returns-in_err-relation-clause-after c =
    let l = ledger c.args.self.now false in
    ap (λ o. unless o l (done l (Posts (posting_of c.args.posting.now)))) c.in_err-relation.ensures.refusal
