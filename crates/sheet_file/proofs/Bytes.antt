-- Records as bytes: what fits a record, and that its bytes are read as the record again.
use Rattle.std.proofs.Common.{◌≡◌, ℕ, ◌+◌, ◌^◌, ◌<◌, ◌≤◌, List, [], ◌∷◌, ◌++◌, length, ℤ, Some, FitsSigned, refl, ap, ◌∙◌, arith}
use Rattle.std.specs.Int.{w32, from_be_bytes, cast_signed, cast_unsigned}
use Rattle.std.specs.List.{flat_map, AllByRecursion}
use Rattle.std.proofs.Math.Facts.{Fits-of_z}
use Rattle.std.proofs.lemmas.Int.{ints, to_z-of_z}
use Rattle.std.proofs.lemmas.Nat.{from_be_bytes-to_be_bytes_4}
use Rattle.std.proofs.lemmas.List.{length-append, drop_at}
use Rattle.std.proofs.lemmas.Bool.{cond-false, le-ltb}
use Rattle.sheet_file.specs.declared.kinds.Kind.{Kind}
use Rattle.sheet_file.specs.declared.kinds.Kind.TheVariants.{Spot, Rule, Term, Price}
use Rattle.sheet_file.specs.Kinds.{kind_number, kind_of, body_length}
use Rattle.sheet_file.specs.Records.{Record, SpotRecord, RuleRecord, TermRecord, PriceRecord, unsigned_bytes, signed_bytes, record_bytes, record_of, Found, Whole, Cut, found, own_bytes, Placed, records}
use Rattle.sheet_file.proofs.Wholes.{records_skip}

-- a record's numbers fit its bytes
abbrev pub Fits : Record → Type 0
Fits (SpotRecord house) = house < 2 ^ 32
Fits (RuleRecord h) = (h.number < 256) × (h.relation < 256) × FitsSigned w32 h.bound
Fits (TermRecord t) = FitsSigned w32 t.coefficient × (t.group < 2 ^ 32)
Fits (PriceRecord p) = FitsSigned w32 p.amount × (p.group < 2 ^ 32)

-- a record's kind, and the bytes behind that of its kind
abbrev pub kind_in : Record → Kind
kind_in (SpotRecord house) = Spot
kind_in (RuleRecord h) = Rule
kind_in (TermRecord t) = Term
kind_in (PriceRecord p) = Price

abbrev pub body_in : Record → List ℕ
body_in (SpotRecord house) = unsigned_bytes house
body_in (RuleRecord h) = h.number ∷ (h.relation ∷ signed_bytes h.bound)
body_in (TermRecord t) = signed_bytes t.coefficient ++ unsigned_bytes t.group
body_in (PriceRecord p) = signed_bytes p.amount ++ unsigned_bytes p.group

pub kind_and_body : (r : Record) → record_bytes r ≡ kind_number (kind_in r) ∷ body_in r
kind_and_body (SpotRecord house) = refl
kind_and_body (RuleRecord h) = refl
kind_and_body (TermRecord t) = refl
kind_and_body (PriceRecord p) = refl

pub kind_back : (k : Kind) → kind_of (kind_number k) ≡ Some k
kind_back Spot = refl
kind_back Rule = refl
kind_back Term = refl
kind_back Price = refl

pub body_sized : (r : Record) → length (body_in r) ≡ body_length (kind_in r)
body_sized (SpotRecord house) = refl
body_sized (RuleRecord h) = refl
body_sized (TermRecord t) = refl
body_sized (PriceRecord p) = refl

unsigned_read : (n : ℕ) → n < 2 ^ 32 → from_be_bytes w32 (unsigned_bytes n) ≡ n
unsigned_read n h = from_be_bytes-to_be_bytes_4 n h

signed_read : (z : ℤ) → FitsSigned w32 z → cast_signed w32 (from_be_bytes w32 (signed_bytes z)) ≡ z
signed_read z h =
    let small : cast_unsigned w32 z < 2 ^ 32 = omega (arith, ints, Fits-of_z h) in
    ap (cast_signed w32) (unsigned_read (cast_unsigned w32 z) small) ∙ to_z-of_z w32 z h

-- the record is read from its body, whatever follows
record_read : (r : Record) → Fits r → (rest : List ℕ) → record_of (kind_in r) (body_in r ++ rest) ≡ r
record_read (SpotRecord house) h rest = ap SpotRecord (unsigned_read house h)
record_read (RuleRecord r) h rest = λ i. RuleRecord (record { number = r.number; relation = r.relation; bound = signed_read r.bound h.2 i })
record_read (TermRecord t) h rest = λ i. TermRecord (record { coefficient = signed_read t.coefficient h.0 i; group = unsigned_read t.group h.1 i })
record_read (PriceRecord p) h rest = λ i. PriceRecord (record { amount = signed_read p.amount h.0 i; group = unsigned_read p.group h.1 i })

pub found_written : (r : Record) → Fits r → (rest : List ℕ) → found (Some (kind_in r)) (body_in r ++ rest) ≡ Whole r
found_written r h rest =
    let k = kind_in r in
    let long : body_length k ≤ length (body_in r ++ rest) = omega (arith, length-append (body_in r) rest, body_sized r) in
    cond-false _ (Cut k) (Whole (record_of k (body_in r ++ rest))) (le-ltb (length (body_in r ++ rest)) (body_length k) long) ∙ ap Whole (record_read r h rest)

-- what stands at a place, before what follows
abbrev pub placed_first : ℕ → Found → List Placed → List Placed
placed_first place f ps = record { place = place; found = f } ∷ ps

-- a whole record at the front, behind the byte of its kind
record_first : (place : ℕ) (k : Kind) (body rest : List ℕ) (r : Record) → length body ≡ body_length k → found (Some k) (body ++ rest) ≡ Whole r
    → records place 0 (kind_number k ∷ (body ++ rest)) ≡ placed_first place (Whole r) (records (place + (1 + length body)) 0 rest)
record_first place k body rest r sized whole =
    let bs = body ++ rest in
    ap (λ o. placed_first place (found o bs) (records (place + 1) (own_bytes o bs) bs)) (kind_back k)
    ∙ ap (λ f. placed_first place f (records (place + 1) (body_length k) bs)) whole
    ∙ ap (placed_first place (Whole r))
    (records_skip (place + 1) (body_length k) bs ∙ ap (records (place + 1 + body_length k) 0) (drop_at body rest (body_length k) sized)
    ∙ ap (λ p. records p 0 rest) (omega arith))

pub records_written : (place : ℕ) (r : Record) (rest : List ℕ) → Fits r
    → records place 0 (record_bytes r ++ rest) ≡ placed_first place (Whole r) (records (place + length (record_bytes r)) 0 rest)
records_written place r rest h =
    let split = kind_and_body r in
    ap (λ bs. records place 0 (bs ++ rest)) split ∙ record_first place (kind_in r) (body_in r) rest r (body_sized r) (found_written r h rest)
    ∙ ap (λ n. placed_first place (Whole r) (records (place + n) 0 rest)) (omega (arith, ap length split))

-- whole records, one after the other
abbrev pub placed : ℕ → List Record → List Placed
placed place [] = []
placed place (r ∷ rs) = placed_first place (Whole r) (placed (place + length (record_bytes r)) rs)

-- the bytes of records are read as these records, each at its place
pub records_read : (place : ℕ) (rs : List Record) → AllByRecursion Fits rs → records place 0 (flat_map record_bytes rs) ≡ placed place rs
records_read place [] h = refl
records_read place (r ∷ rs) h =
    let next = place + length (record_bytes r) in
    records_written place r (flat_map record_bytes rs) h.0 ∙ ap (placed_first place (Whole r)) (records_read next rs h.1)
