-- What the file promises, in plainer words than the reading has.
use Rattle.std.specs.Prelude.{◌≡◌, ℕ, ◌+◌, ◌^◌, ◌<◌, ◌≤◌, true, List, [], ◌++◌, length, take, drop, count_by, Ok, ◌⊎◌, slice_index}
use Rattle.std.specs.List.{flat_map}
use Rattle.terms.specs.Limits.{most_terms}
use Rattle.terms.specs.declared.polynomials.Term.{Term}
use Rattle.terms.specs.Refusals.{Uppermost}
use Rattle.terms.specs.declared.refusals.Refusal.TheVariants.{Crowded}
use Rattle.sheet.specs.declared.prices.Price.{Price}
use Rattle.sheet.specs.Ledger.{Ledger, Contents, is_used, live, live_terms, Told}
use Rattle.sheet_file.specs.declared.faults.FileFault.{FileFault}
use Rattle.sheet_file.specs.declared.faults.FileFault.TheVariants.{Flaw, Cause}
use Rattle.sheet_file.specs.declared.faults.FileRefusal.{FileRefusal}
use Rattle.sheet_file.specs.declared.faults.FileRefusal.TheVariants.{BadFile}
use Rattle.sheet_file.specs.declared.kinds.Kind.TheVariants as kinds
use Rattle.sheet_file.specs.Kinds.{kind_of}
use Rattle.sheet_file.specs.Records.{Head, TermRecord, record_bytes, Found, Whole, Cut, found}
use Rattle.sheet_file.specs.Faults.{fault_number}
use Rattle.sheet_file.specs.Format.{rule_with, file}
use Rattle.sheet_file.specs.Reading.{price_record_rows, reading}

-- as many places are used as terms are live
abbrev pub Packed : Ledger → Type 0
Packed l = count_by is_used l.places ≡ live_terms l.contents

-- the same contents: reading the file of these is accepted, and gives these spots, these live rules with their terms in order, and these prices,
-- with all unused places back
pub record ReadsBack (c : Contents) : Type 0 where
  pub sheet : Ledger
  pub accepted : reading (file c) ≡ Ok sheet
  pub same : sheet.contents ≡ c
  pub packed : Packed sheet

-- house numbers are numbers of 32 bits: the calls take no others, and a ledger alone has no bound for them
abbrev pub HousesFit : List ℕ → Type 0
HousesFit houses = (k : ℕ) → k < length houses → slice_index houses k < 2 ^ 32

-- the ledger of a sheet that some history of calls makes
pub record IsSheet (l : Ledger) : Type 0 where
  pub told : Told l
  pub narrow : HousesFit l.contents.houses

-- the bytes are the file of a sheet
pub record IsFile (bytes : List ℕ) : Type 0 where
  pub sheet : Ledger
  pub made : IsSheet sheet
  pub same : file sheet.contents ≡ bytes

-- what stands at a place of a file
abbrev pub found_at : List ℕ → ℕ → Found
found_at bytes place = found (kind_of (slice_index bytes place)) (drop (place + 1) bytes)

-- the bytes are the file of a sheet, followed by the head of one rule more, whose number rises, and by some of its terms
pub record IsFileWithRule (bytes : List ℕ) (terms : List Term) : Type 0 where
  pub sheet : Ledger
  pub made : IsSheet sheet
  pub no_prices : sheet.contents.prices ≡ []
  pub head : Head
  pub rises : (number : ℕ) → live sheet number ≡ true → number < head.number
  pub few : length terms ≤ most_terms
  pub same : file sheet.contents ++ flat_map record_bytes (rule_with head terms) ≡ bytes

-- the terms of an open rule end in a fault: a cut term, or a whole one beyond the most that a rule has
abbrev pub TermFault : Found → List Term → FileFault → Type 0
TermFault here terms fault =
    ((here ≡ Cut kinds.Term) × (fault ≡ Flaw))
    ⊎ ((term : Term) × (here ≡ Whole (TermRecord term)) × (length terms ≡ most_terms) × (fault ≡ Cause Crowded))

-- a fault is told at a place of the file, and the bytes before it are a file; or, only where it is that of a rule's term, a file and a rule's beginning
pub record FaultAt (bytes : List ℕ) (place : ℕ) (fault : FileFault) : Type 0 where
  pub inside : place < length bytes
  pub before : IsFile (take place bytes) ⊎ ((terms : List Term) × IsFileWithRule (take place bytes) terms × TermFault (found_at bytes place) terms fault)

-- no fault is missed: where one is told, all before it is without fault
abbrev pub FaultShown : List ℕ → FileRefusal → Type 0
FaultShown bytes (BadFile place fault) = FaultAt bytes place fault

-- a fault is told as 0, or as one of the six refusals that a record can meet
abbrev pub ToldAsSix : FileRefusal → Type 0
ToldAsSix (BadFile place fault) = fault_number fault ≤ 6

-- whatever stands before it, a price is refused by the uppermost row that fits it, and exactly where one fits
abbrev pub PricesUppermost : Type 0
PricesUppermost = (l : Ledger) (p : Price) → Uppermost (price_record_rows l p)
