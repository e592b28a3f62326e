-- The numbers of a record, as they are read from its bytes.
use Rattle.std.proofs.Common.{◌≡◌, ℕ, List, ℤ, w32, to_z, of_z, SFits, sym, ap, ◌∙◌}
use Rattle.std.proofs.lemmas.Int.{to_z-of_z}
use Rattle.sheet_file.specs.Records.{signed_at, unsigned_at}

-- a number that was read from the body, and then kept
module _ (body bs : List ℕ) (n : ℕ) (same : body ≡ bs) where
  pub signed_kept : (z : ℤ) → z ≡ signed_at body n → SFits w32 z → signed_at bs n ≡ to_z w32 (of_z w32 z)
  signed_kept z read fits = ap (λ xs. signed_at xs n) (sym same) ∙ sym read ∙ sym (to_z-of_z w32 z fits)

  pub unsigned_kept : (k : ℕ) → k ≡ unsigned_at body n → unsigned_at bs n ≡ k
  unsigned_kept k read = ap (λ xs. unsigned_at xs n) (sym same) ∙ sym read
