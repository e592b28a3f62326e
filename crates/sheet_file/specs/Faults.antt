-- Why a file is refused, and the numbers of it.
use Rattle.std.specs.Prelude.{ℕ, ◌<◌, List}
use Rattle.terms.specs.Refusals.{refusal_number, stands, bad_file_number, bad_file_word, bad_file_stands}
use Rattle.terms.specs.declared.refusals.Refusal.{Refusal}
use Rattle.sheet_file.specs.declared.faults.FileFault.{FileFault}
use Rattle.sheet_file.specs.declared.faults.FileFault.TheVariants.{Flaw, Cause}
use Rattle.sheet_file.specs.declared.faults.FileRefusal.{FileRefusal}
use Rattle.sheet_file.specs.declared.faults.FileRefusal.TheVariants.{BadFile}

-- the number by which output tells a fault
abbrev pub fault_number : FileFault → ℕ
fault_number Flaw = 0
fault_number (Cause e) = refusal_number e

-- the number by which output names a file's refusal
abbrev pub file_refusal_number : FileRefusal → ℕ
file_refusal_number (BadFile place fault) = bad_file_number

-- the bytes of its word
abbrev pub file_refusal_word : FileRefusal → List ℕ
file_refusal_word (BadFile place fault) = bad_file_word

-- the row of the table in which it stands
abbrev pub file_refusal_stands : FileRefusal → ℕ
file_refusal_stands (BadFile place fault) = bad_file_stands

-- the row stands below those of all plain refusals
abbrev pub StandsBelow : FileRefusal → Type 0
StandsBelow e = (plain : Refusal) → stands plain < file_refusal_stands e

-- the file itself is at fault at a place
abbrev pub flaw : ℕ → FileRefusal
flaw place = BadFile place Flaw

-- a refusal fits what the record at a place adds to the sheet
abbrev pub cause : ℕ → Refusal → FileRefusal
cause place e = BadFile place (Cause e)
