-- What writing a sheet answers, and what it leaves in the space.
use Rattle.std.specs.Prelude.{ℕ, List, [], ◌∷◌, ◌++◌, length, drop, Result, nat_lt}
use Rattle.terms.specs.Refusals.{Row, row, uppermost, answered, unless}
use Rattle.terms.specs.declared.refusals.Refusal.{Refusal}
use Rattle.terms.specs.declared.refusals.Refusal.TheVariants.{Short}
use Rattle.sheet.specs.Ledger.{Contents}
use Rattle.sheet_file.specs.Format.{file}

-- the rows of the table of refusals that can fit, for a space of a length
abbrev pub write_rows : Contents → ℕ → List Row
write_rows c room = row (nat_lt room (length (file c))) Short ∷ []

-- the length of the file, or the refusal
abbrev pub write_answer : Contents → ℕ → Result ℕ Refusal
write_answer c room = answered (uppermost (write_rows c room)) (length (file c))

-- bytes written over the head of a list
abbrev pub over_head : List ℕ → List ℕ → List ℕ
over_head bytes old = bytes ++ drop (length bytes) old

-- the file, and beyond it what was there; refused, all that was there
abbrev pub written_space : Contents → List ℕ → List ℕ
written_space c old = unless (uppermost (write_rows c (length old))) old (over_head (file c) old)
