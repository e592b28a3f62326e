-- Groups of spots as numbers: bit i stands for spot i.
use Rattle.std.specs.Prelude.{ℕ, suc, ◌/◌, ◌%◌, ◌^◌, Bool, not, ◌&&◌, List, fold, ◌==◌, bit_and, bit_or, count_ones, nat_le}

-- the group holds spot i
abbrev pub holds : ℕ → ℕ → Bool
holds g i = (g / 2 ^ i) % 2 == 1

-- the group holds a spot whose number is n or more
abbrev pub beyond : ℕ → ℕ → Bool
beyond n g = nat_le (2 ^ n) g

-- the highest spot of the group is i
abbrev pub tops : ℕ → ℕ → Bool
tops i g = beyond i g && not (beyond (suc i) g)

-- each spot of the group runs in the line-up
abbrev pub inside : ℕ → ℕ → Bool
inside g x = bit_and g x == g

-- how many spots the group holds
abbrev pub size : ℕ → ℕ
size g = count_ones g

-- the spots that some group of the list holds
abbrev pub union : List ℕ → ℕ
union gs = fold bit_or 0 gs
