-- What the tests of lists and groups mean, said without the tests.
use Rattle.std.specs.Prelude.{◌≡◌, ℕ, zero, suc, ◌+◌, ◌%◌, ◌^◌, ◌<◌, ◌≤◌, Bool, true, cond, List, length, ℤ, ◌≤ℤ◌, Decides, slice_index}
use Rattle.std.specs.List.{HoldsAt}
use Rattle.terms.specs.Tests.{any, repeats}
use Rattle.terms.specs.Groups.{holds, beyond, tops, inside, size, union}
use Rattle.terms.specs.Packing.{packed, unpacked}
use Rattle.terms.specs.Relations.{meets}
use Rattle.terms.specs.declared.relations.Relation.TheVariants.{Equal, AtMost, AtLeast}

-- `any` tells whether some place of the list holds an element that passes
abbrev pub AnySays : Type 0 → Type 0
AnySays X = (f : X → Bool) (xs : List X) → Decides (any f xs) ((k : ℕ) × (k < length xs) × HoldsAt (λ x. f x ≡ true) xs k)

-- `repeats` tells whether two places hold the same number
abbrev pub RepeatsSays : Type 0
RepeatsSays = (xs : List ℕ) → Decides (repeats xs) ((i : ℕ) × (j : ℕ) × (i < j) × (j < length xs) × (slice_index xs i ≡ slice_index xs j))

-- `beyond` tells whether the group holds a spot numbered n or more
abbrev pub BeyondSays : Type 0
BeyondSays = (n g : ℕ) → Decides (beyond n g) ((i : ℕ) × (n ≤ i) × (holds g i ≡ true))

-- `tops` tells whether i is a spot of the group, and no spot of it is numbered higher
abbrev pub TopsSays : Type 0
TopsSays = (i g : ℕ) → Decides (tops i g) ((holds g i ≡ true) × ((j : ℕ) → holds g j ≡ true → j ≤ i))

-- `inside` tells whether each spot of the group runs in the line-up
abbrev pub InsideSays : Type 0
InsideSays = (g x : ℕ) → Decides (inside g x) ((i : ℕ) → holds g i ≡ true → holds x i ≡ true)

-- the union holds what some group of the list holds
abbrev pub UnionSays : Type 0
UnionSays = (gs : List ℕ) (i : ℕ) → holds (union gs) i ≡ any (λ g. holds g i) gs

-- how many of the numbers below n pass
abbrev pub passing : ℕ → (ℕ → Bool) → ℕ
passing zero f = 0
passing (suc n) f = cond (f n) 1 0 + passing n f

-- a group is as large as the number of spots that it holds
abbrev pub SizeSays : Type 0
SizeSays = (n g : ℕ) → g < 2 ^ n → size g ≡ passing n (holds g)

-- a packed group has as many places as m has spots, and spot i of m stands at the place that counts the spots of m below it
abbrev pub PackedSays : Type 0
PackedSays =
    (m g : ℕ) → m < 2 ^ 32 → (packed m g < 2 ^ size m) × ((i : ℕ) → holds m i ≡ true → holds (packed m g) (size (m % 2 ^ i)) ≡ holds g i)

-- the number of a packed group unpacks to a group of spots of m that packs to that number
abbrev pub UnpackedSays : Type 0
UnpackedSays = (m c : ℕ) → m < 2 ^ 32 → c < 2 ^ size m → (inside (unpacked m c) m ≡ true) × (packed m (unpacked m c) ≡ c)

-- `meets` tells whether the sum is the bound, is at most the bound, or is at least the bound
abbrev pub MeetsSays : Type 0
MeetsSays =
    (bound sum : ℤ)
    → Decides (meets Equal bound sum) (sum ≡ bound)
    × Decides (meets AtMost bound sum) (sum ≤ℤ bound)
    × Decides (meets AtLeast bound sum) (bound ≤ℤ sum)
