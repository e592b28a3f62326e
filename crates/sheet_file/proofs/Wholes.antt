-- What stands at a place of a file: the bytes of a whole record, and the records behind it.
use Rattle.std.proofs.Common.{◌≡◌, ℕ, zero, suc, ◌+◌, ◌^◌, ◌<◌, ◌≤◌, Bool, true, false, cond, ltb, List, [], ◌∷◌, ◌++◌, length, get_or, take, drop, Some, None, Option, sym, refl, ap, ◌∙◌, subst, ⊎_elim, append_assoc, take-add, arith}
use Rattle.std.specs.Int.{w32, from_be_bytes}
use Rattle.std.proofs.lemmas.List.{length-take, length-drop, length-take-le, get_or-take, get_or-drop, get_or_past, drop-drop, drop_more, take_more}
use Rattle.std.proofs.lemmas.Bool.{cases_lt, ltb-false}
use Rattle.std.proofs.lemmas.Nat.{be_bytes_4}
use Rattle.std.proofs.lemmas.Int.{of_z-to_z}
use Rattle.sheet_file.specs.declared.kinds.Kind.{Kind}
use Rattle.sheet_file.specs.declared.kinds.Kind.TheVariants.{Spot, Rule, Term, Price}
use Rattle.sheet_file.specs.Kinds.{kind_number, kind_of, body_length}
use Rattle.sheet_file.specs.Records.{Record, SpotRecord, record_bytes, unsigned_bytes, signed_bytes, unsigned_at, signed_at, record_of, Whole, Cut, found, own_bytes, records}
use Rattle.sheet_file.specs.Laws.{found_at}

-- every number of the list is a byte
abbrev pub IsBytes : List ℕ → Type 0
IsBytes bytes = (i : ℕ) → get_or bytes i 0 < 256

bytes_drop : (n : ℕ) (bs : List ℕ) → IsBytes bs → IsBytes (drop n bs)
bytes_drop n bs small i = rw (get_or-drop n bs i 0) (small (n + i))

bytes_take : (n : ℕ) (bs : List ℕ) → IsBytes bs → IsBytes (take n bs)
bytes_take n bs small i =
    ⊎_elim (λ h. rw (get_or-take n bs i 0 h) (small i)) (λ h. rw (get_or_past (take n bs) i 0 (omega (arith, length-take n bs))) (omega arith))
    (cases_lt i n)

-- ---- Numbers in four bytes

four_below : (bs : List ℕ) → IsBytes bs → from_be_bytes w32 bs < 2 ^ 32
four_below bs small = omega (arith, small 0, small 1, small 2, small 3)

module _ (bs : List ℕ) (small : IsBytes bs) (place : ℕ) (long : place + 4 ≤ length bs) where
  unsigned_back : unsigned_bytes (unsigned_at bs place) ≡ take 4 (drop place bs)
  unsigned_back =
      be_bytes_4 (take 4 (drop place bs)) _ (length-take-le 4 (drop place bs) (omega (arith, length-drop place bs)))
      (bytes_take 4 (drop place bs) (bytes_drop place bs small)) refl

  signed_back : signed_bytes (signed_at bs place) ≡ take 4 (drop place bs)
  signed_back =
      let low = four_below (take 4 (drop place bs)) (bytes_take 4 (drop place bs) (bytes_drop place bs small)) in
      ap unsigned_bytes (of_z-to_z w32 (unsigned_at bs place) low) ∙ unsigned_back

-- ---- A whole record

take_six : (bs : List ℕ) → 6 ≤ length bs → take 6 bs ≡ get_or bs 0 0 ∷ (get_or bs 1 0 ∷ take 4 (drop 2 bs))
take_six [] long = absurd (omega arith)
take_six (x ∷ []) long = absurd (omega arith)
take_six (x ∷ y ∷ bs) long = refl

-- a signed number and a group behind it
pair_back : (bs : List ℕ) → IsBytes bs → 8 ≤ length bs → signed_bytes (signed_at bs 0) ++ unsigned_bytes (unsigned_at bs 4) ≡ take 8 bs
pair_back bs small long =
    ap (λ xs. xs ++ unsigned_bytes (unsigned_at bs 4)) (signed_back bs small 0 (omega arith))
    ∙ ap (λ xs. take 4 bs ++ xs) (unsigned_back bs small 4 long) ∙ sym (take-add 4 4 bs)

record_back : (k : Kind) (bs : List ℕ) → IsBytes bs → body_length k ≤ length bs → record_bytes (record_of k bs) ≡ kind_number k ∷ take (body_length k) bs
record_back Spot bs small long = ap (λ xs. kind_number Spot ∷ xs) (unsigned_back bs small 0 long)
record_back Rule bs small long =
    ap (λ xs. kind_number Rule ∷ xs) (ap (λ xs. get_or bs 0 0 ∷ (get_or bs 1 0 ∷ xs)) (signed_back bs small 2 long) ∙ sym (take_six bs long))
record_back Term bs small long = ap (λ xs. kind_number Term ∷ xs) (pair_back bs small long)
record_back Price bs small long = ap (λ xs. kind_number Price ∷ xs) (pair_back bs small long)

kind_known : (b : ℕ) (k : Kind) → kind_of b ≡ Some k → kind_number k ≡ b
kind_known zero k e = cc
kind_known (suc zero) k e = let same : Spot ≡ k = cc in ap kind_number (sym same)
kind_known (suc (suc zero)) k e = let same : Rule ≡ k = cc in ap kind_number (sym same)
kind_known (suc (suc (suc zero))) k e = let same : Term ≡ k = cc in ap kind_number (sym same)
kind_known (suc (suc (suc (suc zero)))) k e = let same : Price ≡ k = cc in ap kind_number (sym same)
kind_known (suc (suc (suc (suc (suc n))))) k e = cc

whole_fits : (b : Bool) (k : Kind) (s r : Record) → cond b (Cut k) (Whole s) ≡ Whole r → (b ≡ false) × (s ≡ r)
whole_fits true k s r e = cc
whole_fits false k s r e = (refl, cc)

-- a whole record's bytes are the byte of its kind and its own bytes behind it
pub record IsWhole (b : ℕ) (bs : List ℕ) (own : ℕ) (r : Record) : Type 0 where
  pub room : own ≤ length bs
  pub same : record_bytes r ≡ b ∷ take own bs

whole_of : (b : ℕ) (bs : List ℕ) (r : Record) (o : Option Kind) → IsBytes bs → kind_of b ≡ o → found o bs ≡ Whole r → IsWhole b bs (own_bytes o bs) r
whole_of b bs r None small named e = cc
whole_of b bs r (Some k) small named e =
    let (fits, same) = whole_fits (ltb (length bs) (body_length k)) k (record_of k bs) r e in
    let long = ltb-false (length bs) (body_length k) fits in
    record {
      room = long;
      same = ap record_bytes (sym same) ∙ record_back k bs small long ∙ ap (λ n. n ∷ take (body_length k) bs) (kind_known b k named);
    }

pub whole : (b : ℕ) (bs : List ℕ) (r : Record) → IsBytes bs → found (kind_of b) bs ≡ Whole r → IsWhole b bs (own_bytes (kind_of b) bs) r
whole b bs r small e = whole_of b bs r (kind_of b) small refl e

spot_narrow : (k : Kind) (bs : List ℕ) (house : ℕ) → IsBytes bs → record_of k bs ≡ SpotRecord house → house < 2 ^ 32
spot_narrow Spot bs house small e =
    let same : unsigned_at bs 0 ≡ house = cc in
    subst (λ n. n < 2 ^ 32) same (four_below (take 4 (drop 0 bs)) (bytes_take 4 (drop 0 bs) (bytes_drop 0 bs small)))
spot_narrow Rule bs house small e = let no : ⊥ = cc in absurd no
spot_narrow Term bs house small e = let no : ⊥ = cc in absurd no
spot_narrow Price bs house small e = let no : ⊥ = cc in absurd no

-- the house number of a spot's whole record is one of 32 bits
narrow : (bs : List ℕ) (house : ℕ) (o : Option Kind) → IsBytes bs → found o bs ≡ Whole (SpotRecord house) → house < 2 ^ 32
narrow bs house None small e = let no : ⊥ = cc in absurd no
narrow bs house (Some k) small e =
    spot_narrow k bs house small (whole_fits (ltb (length bs) (body_length k)) k (record_of k bs) (SpotRecord house) e).1

-- ---- By places

-- the bytes that are still another record's are passed over
pub records_skip : (place own : ℕ) (bytes : List ℕ) → records place own bytes ≡ records (place + own) 0 (drop own bytes)
records_skip place zero bytes = ap (λ p. records p 0 bytes) (omega arith)
records_skip place (suc own) [] = refl
records_skip place (suc own) (b ∷ bs) = records_skip (place + 1) own bs ∙ ap (λ p. records p 0 (drop own bs)) (omega arith)

module _ (bytes : List ℕ) (place : ℕ) where
  -- the place behind what stands at a place
  abbrev pub next : ℕ
  next = place + 1 + own_bytes (kind_of (get_or bytes place 0)) (drop (place + 1) bytes)

  pub records_at : place < length bytes
      → records place 0 (drop place bytes) ≡ record { place = place; found = found_at bytes place } ∷ records next 0 (drop next bytes)
  records_at inside =
      let b = get_or bytes place 0 in
      let bs = drop (place + 1) bytes in
      let own = own_bytes (kind_of b) bs in
      ap (records place 0) (drop_more bytes place 0 inside)
      ∙ ap (λ xs. record { place = place; found = found (kind_of b) bs } ∷ xs)
      (records_skip (place + 1) own bs ∙ ap (records next 0) (drop-drop own (place + 1) bytes))

  pub narrow_at : (house : ℕ) → IsBytes bytes → found_at bytes place ≡ Whole (SpotRecord house) → house < 2 ^ 32
  narrow_at house small e = narrow (drop (place + 1) bytes) house (kind_of (get_or bytes place 0)) (bytes_drop (place + 1) bytes small) e

  -- a whole record's bytes come behind those before its place
  pub whole_at : (r : Record) → IsBytes bytes → place < length bytes → found_at bytes place ≡ Whole r
      → take next bytes ≡ take place bytes ++ record_bytes r
  whole_at r small inside e =
      let b = get_or bytes place 0 in
      let bs = drop (place + 1) bytes in
      let own = own_bytes (kind_of b) bs in
      let w = whole b bs r (bytes_drop (place + 1) bytes small) e in
      take-add (place + 1) own bytes ∙ ap (λ xs. xs ++ take own bs) (take_more bytes place 0 inside)
      ∙ append_assoc (take place bytes) (b ∷ []) (take own bs) ∙ ap (λ xs. take place bytes ++ xs) (sym w.same)
