-- The format: a sheet's contents as records, and as bytes.
use Rattle.std.specs.Prelude.{ℕ, List, [], ◌∷◌, ◌++◌, map, Some, None, Option}
use Rattle.std.specs.List.{flat_map}
use Rattle.terms.specs.Relations.{relation_number}
use Rattle.terms.specs.declared.polynomials.Term.{Term}
use Rattle.sheet.specs.Ledger.{LiveRule, Contents, numbers}
use Rattle.sheet_file.specs.Records.{Head, Record, SpotRecord, RuleRecord, TermRecord, PriceRecord, record_bytes}

-- a rule's own record, followed by those of its terms
abbrev pub rule_with : Head → List Term → List Record
rule_with h ts = RuleRecord h ∷ map TermRecord ts

-- what a live rule's own record says
abbrev pub head_of : ℕ → LiveRule → Head
head_of number r = record { number = number; relation = relation_number r.relation; bound = r.bound }

-- a live rule, followed by its terms in their order; none where there is no rule
abbrev pub rule_records : ℕ → Option LiveRule → List Record
rule_records number None = []
rule_records number (Some r) = rule_with (head_of number r) r.terms

-- the spots, then the live rules by rising number, then the prices in list order
abbrev pub sheet_records : Contents → List Record
sheet_records c = map SpotRecord c.houses ++ (flat_map (λ number. rule_records number (c.rules number)) numbers ++ map PriceRecord c.prices)

-- the file of a sheet
abbrev pub file : Contents → List ℕ
file c = flat_map record_bytes (sheet_records c)

-- no file is longer: 32 spots of 5 bytes, 64 rules of 7, 512 terms and 128 prices of 9
abbrev pub most_file : ℕ
most_file = 6368
