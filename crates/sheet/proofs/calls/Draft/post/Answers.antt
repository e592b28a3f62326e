use Rattle.std.proofs.Common.{false, w32, to_z, of_z}
use Rattle.sheet.specs.Ledger.{Posts, posting}
use Rattle.sheet.specs.Of.{ledger}
use Rattle.sheet.proofs.Histories.{sound_after}
use Rattle.sheet.proofs.calls.Draft.post.Goals as goal

pub invariant_of-self : goal.invariant_of-self
invariant_of-self c =
    let d = c.args.self.now in
    let call = Posts (posting c.args.number c.args.relation (to_z w32 (of_z w32 c.args.bound)) c.args.terms.now) in
    sound_after (ledger d.book false) (ledger c.post.new.self false) call d.told d.kept c.post.ensures.after
