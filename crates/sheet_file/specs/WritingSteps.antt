-- The steps of writing: inner words, which no public contract cites.
use Rattle.std.specs.Prelude.{◌≡◌, ℕ, ◌+◌, List, ◌∷◌, ◌++◌, ℤ, length, take, drop, Option}
use Rattle.std.specs.List.{flat_map}
use Rattle.terms.specs.declared.polynomials.Term.{Term}
use Rattle.sheet.specs.declared.prices.Price.{Price}
use Rattle.sheet.specs.Ledger.{LiveRule, Contents, numbers}
use Rattle.sheet_file.specs.declared.kinds.Kind.{Kind}
use Rattle.sheet_file.specs.Kinds.{kind_number}
use Rattle.sheet_file.specs.Records.{SpotRecord, TermRecord, PriceRecord, record_bytes, signed_bytes, unsigned_bytes}
use Rattle.sheet_file.specs.Format.{rule_records}

-- bytes written over a list from a place on
unfoldable pub over : ℕ → List ℕ → List ℕ → List ℕ
over at bytes old = take at old ++ (bytes ++ drop (at + length bytes) old)

-- what a space holds once bytes are written into it from a place on, and the place behind them
pub record Written (at : ℕ) (bytes old new : List ℕ) (place : ℕ) : Type 0 where
  pub space : new ≡ over at bytes old
  pub behind : place ≡ at + length bytes

-- the bytes of a record of a signed number and a group
abbrev pub pair_bytes : Kind → ℤ → ℕ → List ℕ
pair_bytes kind n group = kind_number kind ∷ (signed_bytes n ++ unsigned_bytes group)

-- the bytes of spots, of a rule's terms, and of prices
abbrev pub spots_bytes : List ℕ → List ℕ
spots_bytes houses = flat_map (λ house. record_bytes (SpotRecord house)) houses

abbrev pub terms_bytes : List Term → List ℕ
terms_bytes terms = flat_map (λ term. record_bytes (TermRecord term)) terms

abbrev pub prices_bytes : List Price → List ℕ
prices_bytes prices = flat_map (λ price. record_bytes (PriceRecord price)) prices

-- the bytes of a live rule and its terms, none where there is no rule
abbrev pub rule_bytes : ℕ → Option LiveRule → List ℕ
rule_bytes number r = flat_map record_bytes (rule_records number r)

-- the bytes of what stands under a rule number
abbrev pub bytes_under : Contents → ℕ → List ℕ
bytes_under c number = rule_bytes number (c.rules number)

-- the bytes of all live rules
abbrev pub rules_bytes : Contents → List ℕ
rules_bytes c = flat_map (bytes_under c) numbers
