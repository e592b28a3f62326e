use Rattle.std.proofs.Common.{sym}
use Rattle.sheet.proofs.TermPlaces.{unused_places}
use Rattle.sheet.proofs.book.Places.unused.Goals as goal

pub returns : goal.returns
returns c = sym (unused_places c.args.self.now)
