-- Records: what they say, the bytes of each, and what stands at a place of a file.
use Rattle.std.specs.Prelude.{ℕ, zero, suc, ◌+◌, cond, List, [], ◌∷◌, ◌++◌, length, take, drop, ℤ, Some, None, Option, nat_lt, slice_index}
use Rattle.std.specs.Int.{w32, to_be_bytes, from_be_bytes, cast_signed, cast_unsigned}
use Rattle.terms.specs.declared.polynomials.Term as terms
use Rattle.sheet.specs.declared.prices.Price as prices
use Rattle.sheet_file.specs.declared.kinds.Kind.{Kind}
use Rattle.sheet_file.specs.declared.kinds.Kind.TheVariants.{Spot, Rule, Term, Price}
use Rattle.sheet_file.specs.Kinds.{kind_number, kind_of, body_length}

-- what a rule's own record says of it; its terms follow in records of their own
pub record Head : Type 0 where
  pub number : ℕ
  pub relation : ℕ
  pub bound : ℤ

-- what a record says
pub data Record : Type 0 where
  SpotRecord : ℕ → Record
  RuleRecord : Head → Record
  TermRecord : terms.Term → Record
  PriceRecord : prices.Price → Record

-- ---- As bytes

-- a number as four bytes, the highest first
abbrev pub unsigned_bytes : ℕ → List ℕ
unsigned_bytes n = to_be_bytes w32 n

-- a signed number, in two's complement
abbrev pub signed_bytes : ℤ → List ℕ
signed_bytes z = to_be_bytes w32 (cast_unsigned w32 z)

-- the bytes of a record: that of its kind, and its body
abbrev pub record_bytes : Record → List ℕ
record_bytes (SpotRecord house) = kind_number Spot ∷ unsigned_bytes house
record_bytes (RuleRecord h) = kind_number Rule ∷ (h.number ∷ (h.relation ∷ signed_bytes h.bound))
record_bytes (TermRecord t) = kind_number Term ∷ (signed_bytes t.coefficient ++ unsigned_bytes t.group)
record_bytes (PriceRecord p) = kind_number Price ∷ (signed_bytes p.amount ++ unsigned_bytes p.group)

-- ---- From bytes

-- the number in the four bytes from a place on
abbrev pub unsigned_at : List ℕ → ℕ → ℕ
unsigned_at bytes place = from_be_bytes w32 (take 4 (drop place bytes))

-- the same as a signed number
abbrev pub signed_at : List ℕ → ℕ → ℤ
signed_at bytes place = cast_signed w32 (unsigned_at bytes place)

-- the record of a kind whose body these bytes begin with
abbrev pub record_of : Kind → List ℕ → Record
record_of Spot body = SpotRecord (unsigned_at body 0)
record_of Rule body = RuleRecord (record { number = slice_index body 0; relation = slice_index body 1; bound = signed_at body 2 })
record_of Term body = TermRecord (record { coefficient = signed_at body 0; group = unsigned_at body 4 })
record_of Price body = PriceRecord (record { amount = signed_at body 0; group = unsigned_at body 4 })

-- what stands at a place: a whole record, one that the end of the file cuts, or one of an unknown kind
pub data Found : Type 0 where
  Whole : Record → Found
  Cut : Kind → Found
  Unknown : Found

-- what a byte stands for that is read as a kind, before the bytes behind it
abbrev pub found : Option Kind → List ℕ → Found
found None behind = Unknown
found (Some kind) behind = cond (nat_lt (length behind) (body_length kind)) (Cut kind) (Whole (record_of kind behind))

-- how many of the bytes behind are its own; behind an unknown kind nothing can be read
abbrev pub own_bytes : Option Kind → List ℕ → ℕ
own_bytes None behind = length behind
own_bytes (Some kind) behind = body_length kind

-- what stands at a place, with the place
pub record Placed : Type 0 where
  pub place : ℕ
  pub found : Found

-- the records of bytes that begin at a place. The first `own` of the bytes belong to a record before them; the next one is that of a kind, and its
-- body follows
abbrev pub records : ℕ → ℕ → List ℕ → List Placed
records place own [] = []
records place zero (b ∷ bs) = record { place = place; found = found (kind_of b) bs } ∷ records (place + 1) (own_bytes (kind_of b) bs) bs
records place (suc own) (b ∷ bs) = records (place + 1) own bs
