-- The parts that a sheet's file is made of.
use Rattle.std.proofs.Common.{◌≡◌, ℕ, ◌+◌, ◌<◌, List, [], ◌∷◌, ◌++◌, map, length, get_or, take, Some, Option, sym, refl, ap, ◌∙◌, arith}
use Rattle.std.specs.List.{flat_map}
use Rattle.std.proofs.lemmas.List.{flat_map_more, take_more}
use Rattle.std.proofs.lemmas.List.Concat.{flat_map-append}
use Rattle.std.proofs.lemmas.List.Folds.{flat_map-map}
use Rattle.std.proofs.lemmas.List.FromFn.{length-range_with_len, get_or-range_with_len}
use Rattle.sheet.specs.Limits.{rule_numbers}
use Rattle.sheet.specs.Ledger.{LiveRule, Contents, numbers}
use Rattle.sheet_file.specs.Records.{SpotRecord, RuleRecord, TermRecord, PriceRecord, record_bytes}
use Rattle.sheet_file.specs.Format.{rule_records, file, head_of}
use Rattle.sheet_file.specs.WritingSteps.{spots_bytes, terms_bytes, prices_bytes, rule_bytes, bytes_under, rules_bytes}

-- ---- Lists in pieces

flat_map-flat_map : {A B C : Type 0} (g : B → List C) (f : A → List B) (xs : List A) → flat_map g (flat_map f xs) ≡ flat_map (λ x. flat_map g (f x)) xs
flat_map-flat_map g f [] = refl
flat_map-flat_map g f (x ∷ xs) = flat_map-append g (f x) (flat_map f xs) ∙ ap (λ ys. flat_map g (f x) ++ ys) (flat_map-flat_map g f xs)

-- one piece more
pub pieces_more : {X : Type 0} (f : X → List ℕ) (xs : List X) (i : ℕ) (d : X) → i < length xs
    → flat_map f (take (i + 1) xs) ≡ flat_map f (take i xs) ++ f (get_or xs i d)
pieces_more f xs i d within = ap (flat_map f) (take_more xs i d within) ∙ sym (flat_map_more f [] (take i xs) (get_or xs i d))

-- ---- The rule numbers

pub length_numbers : length numbers ≡ rule_numbers
unfolding numbers
length_numbers = length-range_with_len 0 rule_numbers

-- each stands at its own place
number_at : (n : ℕ) → n < rule_numbers → get_or numbers n 0 ≡ n
unfolding numbers
number_at n h = omega (arith, get_or-range_with_len 0 rule_numbers n 0 h)

-- ---- The file

-- a rule's own record, and those of its terms
pub rule_parts : (number : ℕ) (r : LiveRule) → rule_bytes number (Some r) ≡ record_bytes (RuleRecord (head_of number r)) ++ terms_bytes r.terms
rule_parts number r = ap (λ ys. record_bytes (RuleRecord (head_of number r)) ++ ys) (flat_map-map record_bytes TermRecord r.terms)

-- what stands under the n-th number, where that is known
pub rule_at : (c : Contents) (n : ℕ) (o : Option LiveRule) → o ≡ c.rules n → n < rule_numbers → bytes_under c (get_or numbers n 0) ≡ rule_bytes n o
rule_at c n o e h = ap (bytes_under c) (number_at n h) ∙ ap (rule_bytes n) (sym e)

-- the spots, the rules and the prices
pub file_parts : (c : Contents) → file c ≡ spots_bytes c.houses ++ (rules_bytes c ++ prices_bytes c.prices)
file_parts c =
    let spots = map SpotRecord c.houses in
    let rules = flat_map (λ number. rule_records number (c.rules number)) numbers in
    let prices = map PriceRecord c.prices in
    flat_map-append record_bytes spots (rules ++ prices)
    ∙ ap (λ ys. flat_map record_bytes spots ++ ys) (flat_map-append record_bytes rules prices)
    ∙ ap (λ ys. ys ++ (flat_map record_bytes rules ++ flat_map record_bytes prices)) (flat_map-map record_bytes SpotRecord c.houses)
    ∙ ap (λ ys. spots_bytes c.houses ++ (ys ++ flat_map record_bytes prices))
    (flat_map-flat_map record_bytes (λ number. rule_records number (c.rules number)) numbers)
    ∙ ap (λ ys. spots_bytes c.houses ++ (rules_bytes c ++ ys)) (flat_map-map record_bytes PriceRecord c.prices)
