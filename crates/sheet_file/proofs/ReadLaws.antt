-- What is promised of reading any bytes, from its two halves: what was written is read back, and what is accepted is what was written.
use Rattle.std.proofs.Common.{◌≡◌, ℕ, ◌≤◌, List, [], ◌∷◌, length, Ok, Err, fold, subst}
use mathlib.Core.Logic.{∥∥₁_map}
use Rattle.sheet.specs.Ledger.{Ledger, Call, step, empty_ledger, Told}
use Rattle.sheet.specs.Kept.{Kept}
use Rattle.sheet.proofs.Keeps.{kept_empty, kept_step}
use Rattle.sheet.proofs.Histories.{kept_of}
use Rattle.sheet.proofs.LiveTerms.{few_terms}
use Rattle.sheet_file.specs.declared.faults.FileRefusal.{FileRefusal}
use Rattle.sheet_file.specs.Format.{file, most_file}
use Rattle.sheet_file.specs.Reading.{reading}
use Rattle.sheet_file.specs.Laws.{Packed, ReadsBack, HousesFit, IsFile}
use Rattle.sheet_file.proofs.Lengths.{file_short}
use Rattle.sheet_file.proofs.SameContents.{reads_back}
use Rattle.sheet_file.proofs.Wholes.{IsBytes}
use Rattle.sheet_file.proofs.SameBytes.{read_ok}

kept_fold : (cs : List Call) (l : Ledger) → Kept l → Kept (fold step l cs)
kept_fold [] l k = k
kept_fold (c ∷ cs) l k = kept_fold cs (step l c) (kept_step l c k)

-- every ledger that some history tells is one of a sheet
told_kept : (l : Ledger) → Told l → Kept l
told_kept l told = kept_of l (∥∥₁_map told (λ p. subst Kept p.1 (kept_fold p.0 empty_ledger kept_empty)))

pub sheet_reads_back : (l : Ledger) → Kept l → HousesFit l.contents.houses → ReadsBack l.contents
sheet_reads_back l k narrow = reads_back l.contents k.0 narrow (few_terms l k)

pub sheet_short : (l : Ledger) → Kept l → length (file l.contents) ≤ most_file
sheet_short l k = file_short l.contents k.0 (few_terms l k)

-- the file of a sheet is accepted
pub file_accepted : (bytes : List ℕ) → IsFile bytes → (l : Ledger) × (reading bytes ≡ Ok l)
file_accepted bytes f =
    let back = sheet_reads_back f.sheet (told_kept f.sheet f.made.told) f.made.narrow in
    (back.sheet, subst (λ b. reading b ≡ Ok back.sheet) f.same back.accepted)

-- what is accepted
module _ (bytes : List ℕ) (l : Ledger) (are : IsBytes bytes) (accepted : reading bytes ≡ Ok l) where
  pub accepted_is_file : IsFile bytes
  accepted_is_file = let (made, same, _) = read_ok bytes l are accepted in record { sheet = l; made = made; same = same }

  pub accepted_same : file l.contents ≡ bytes
  accepted_same = (read_ok bytes l are accepted).1

  pub accepted_packed : Packed l
  accepted_packed = (read_ok bytes l are accepted).2

  pub accepted_short : length bytes ≤ most_file
  accepted_short = subst (λ b. length b ≤ most_file) accepted_same (sheet_short l (told_kept l (read_ok bytes l are accepted).0.told))

-- what is refused is no file
pub refused_no_file : (bytes : List ℕ) (e : FileRefusal) → reading bytes ≡ Err e → IsFile bytes → ⊥
refused_no_file bytes e refused f = let (l, accepted) = file_accepted bytes f in let no : ⊥ = cc in no
