-- The examples, by computation. Where a table's length is open, the row that asks for room is decided by a lemma.
use Rattle.std.proofs.Common.{true, false, [], ◌∷◌, min, pos, refl, ap, arith}
use Rattle.std.proofs.lemmas.Bool.{le-ltb}
use lib.Count.{ones}
use Rattle.terms.specs.Packing.{digits_at, digits_onto}
use Rattle.terms.specs.Refusals.{row, uppermost, answered}
use Rattle.terms.specs.declared.refusals.Refusal.TheVariants.{Short, NoLineUp}
use Rattle.sheet.specs.Ledger.{new_places}
use Rattle.elimination.specs.Lawful.{every}
use Rattle.elimination.specs.Links.{rule_scopes}
use Rattle.theorems.specs.Examples.{Examples, BreakA, OneOfTwo, BothOfTwo, TwiceIsOne, NoSpots, ThreeFree, LessTogether}

break_a_so : BreakA
unfolding new_places ones rule_scopes every digits_onto digits_at
break_a_so = record {
  made = refl;
  needed = refl;
  table = refl;
  allowed = refl;
  filled = refl;
  tried = λ cells h. ap (λ b. answered (uppermost (row b Short ∷ [])) true) (le-ltb cells 15 h);
  tried_beside = λ cells h. ap (λ b. answered (uppermost (row b Short ∷ [])) false) (le-ltb cells 15 h);
  next = refl;
  last = refl;
}

one_of_two_so : OneOfTwo
unfolding new_places ones rule_scopes every digits_onto
one_of_two_so = refl

both_of_two_so : BothOfTwo
unfolding new_places ones rule_scopes every digits_onto
both_of_two_so = refl

twice_is_one_so : TwiceIsOne
unfolding new_places ones rule_scopes every digits_onto
twice_is_one_so = record {
  table = refl;
  refused = λ cells h. ap (λ b. answered (uppermost (row b Short ∷ row true NoLineUp ∷ [])) tt) (le-ltb cells 1 h);
  number = refl;
}

no_spots_so : NoSpots
unfolding every
no_spots_so = record {
  solved = λ cells. ap (λ b. answered (uppermost (row b Short ∷ [])) tt) (le-ltb cells 0 (omega arith));
  table = refl;
  allowed = refl;
  listed = refl;
  counted = λ choices figures. ap (λ b. answered (uppermost (row b Short ∷ [])) 1) (le-ltb (min choices figures) 0 (omega arith));
}

three_free_so : ThreeFree
unfolding new_places ones rule_scopes every digits_onto digits_at
three_free_so choices figures h k = ap (λ b. answered (uppermost (row b Short ∷ [])) 8) (le-ltb (min choices figures) 3 (omega arith))

less_together_so : LessTogether
unfolding new_places ones rule_scopes every digits_onto digits_at
less_together_so = record {
  taken = λ choices figures h k. ap (λ b. answered (uppermost (row b Short ∷ [])) (pos 5)) (le-ltb (min choices figures) 3 (omega arith));
  best = λ choices figures h k. ap (λ b. answered (uppermost (row b Short ∷ [])) (12, 1)) (le-ltb (min choices figures) 3 (omega arith));
}

pub examples : Examples
examples = (break_a_so, one_of_two_so, both_of_two_so, twice_is_one_so, no_spots_so, three_free_so, less_together_so)
