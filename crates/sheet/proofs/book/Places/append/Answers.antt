use Rattle.std.proofs.Common.{sym, refl, arith, rules}
use Rattle.std.proofs.lemmas.Slice.{overwrites}
use Rattle.sheet.specs.declared.book.Places.{Places}
use Rattle.sheet.proofs.TermPlaces.{unused_places, next_places, taken_places, appended}
use Rattle.sheet.proofs.book.Places.append.Goals as goal
use Rattle.sheet.proofs.book.Places.append.Goals.{After-copy_from_slice}

pub slice_bounds-copy_from_slice-end : goal.slice_bounds-copy_from_slice-end
slice_bounds-copy_from_slice-end c = omega (arith, unused_places c.args.self.now)

-- the places at the return
abbrev after : After-copy_from_slice → Places
after c =
    appended c.args.self.now c.args.terms.now c.copy_from_slice.new.self
    c.copy_from_slice.ensures.after c.requires.room c.requires.named

pub invariant_of-self : goal.invariant_of-self
invariant_of-self c = record { size = (after c).size; few = (after c).few; filled = (after c).filled }

pub returns : goal.returns
returns c = record {
  start = sym (next_places c.args.self.now);
  from = refl;
  count = refl;
  used = refl;
  places = taken_places c.args.self.now (after (goal.at.returns c).After-copy_from_slice) _ refl;
  written = search (rules, overwrites);
  kept = search (rules, overwrites);
}
