use Rattle.terms.proofs.Says.{repeats_says, beyond_says, tops_says, union_says, size_says}
use Rattle.terms.proofs.Packing.{inside_says, packed_says, unpacked_says}
use Rattle.terms.proofs.laws.groups_say_so.Goals as goal

pub returns : goal.returns
returns c = record {
  repeats = repeats_says;
  beyond = beyond_says;
  highest = tops_says;
  inside = inside_says;
  union = union_says;
  size = size_says;
  packed = packed_says;
  unpacked = unpacked_says;
}
