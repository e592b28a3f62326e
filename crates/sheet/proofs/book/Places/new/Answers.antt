use Rattle.std.proofs.Common.{refl}
use Rattle.sheet.proofs.TermPlaces.{untouched, places_untouched}
use Rattle.sheet.proofs.book.Places.new.Goals as goal

pub invariant_of-result : goal.invariant_of-result
invariant_of-result c = record { size = untouched.size; few = untouched.few; filled = untouched.filled }

pub returns : goal.returns
returns c = record { used = refl; places = places_untouched }
