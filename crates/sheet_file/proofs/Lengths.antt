-- How long a sheet's file is.
use Rattle.std.proofs.Common.{◌≡◌, ℕ, ◌+◌, ◌*◌, ◌<◌, ◌≤◌, List, [], ◌∷◌, ◌++◌, length, take, Some, None, Option, refl, ap, ◌∙◌, arith}
use Rattle.std.specs.List.{flat_map, sum_by}
use Rattle.std.proofs.lemmas.List.{length-append, length-take-le, take_all}
use Rattle.std.proofs.lemmas.List.Sums.{sum_by-cons}
use Rattle.terms.specs.Limits.{most_terms}
use Rattle.sheet.specs.Limits.{place_count, rule_numbers}
use Rattle.sheet.specs.Ledger.{LiveRule, Contents, numbers, term_count, live_terms}
use Rattle.sheet.specs.Kept.{KeptRules, KeptContents}
use Rattle.sheet_file.specs.Records.{SpotRecord, RuleRecord, TermRecord, PriceRecord, record_bytes}
use Rattle.sheet_file.specs.Format.{file, most_file, head_of}
use Rattle.sheet_file.specs.WritingSteps.{spots_bytes, terms_bytes, prices_bytes, rule_bytes, bytes_under, rules_bytes}
use Rattle.sheet_file.proofs.Parts.{pieces_more, length_numbers, rule_parts, rule_at, file_parts}

-- ---- Pieces of one length, or of one at most

each_length : {X : Type 0} (f : X → List ℕ) (n : ℕ) → ((x : X) → length (f x) ≡ n) → (xs : List X) → length (flat_map f xs) ≡ n * length xs
each_length f n each [] = omega arith
each_length f n each (x ∷ xs) = omega (arith, length-append (f x) (flat_map f xs), each x, each_length f n each xs)

each_at_most : {X : Type 0} (f : X → List ℕ) (n : ℕ) → ((x : X) → length (f x) ≤ n) → (xs : List X) → length (flat_map f xs) ≤ n * length xs
each_at_most f n each [] = omega arith
each_at_most f n each (x ∷ xs) = omega (arith, length-append (f x) (flat_map f xs), each x, each_at_most f n each xs)

-- ---- The rules

pub rule_length : (number : ℕ) (r : LiveRule) → length (rule_bytes number (Some r)) ≡ 7 + 9 * length r.terms
rule_length number r =
    ap length (rule_parts number r)
    ∙ length-append (record_bytes (RuleRecord (head_of number r))) (terms_bytes r.terms)
    ∙ ap (λ n. 7 + n) (each_length (λ term. record_bytes (TermRecord term)) 9 (λ t. refl) r.terms)

-- what stands under a number takes no more than its rule and so many terms
rule_at_most : (number : ℕ) (o : Option LiveRule) → length (rule_bytes number o) ≤ 7 + 9 * term_count o
rule_at_most number None = omega arith
rule_at_most number (Some r) = omega (arith, rule_length number r)

rules_at_most : (c : Contents) (ns : List ℕ)
    → length (flat_map (bytes_under c) ns) ≤ 7 * length ns + 9 * sum_by (λ number. term_count (c.rules number)) ns
rules_at_most c [] = omega arith
rules_at_most c (n ∷ ns) =
    omega (
      arith,
      length-append (bytes_under c n) (flat_map (bytes_under c) ns),
      rule_at_most n (c.rules n),
      sum_by-cons (λ number. term_count (c.rules number)) n ns,
      rules_at_most c ns,
    )

few_terms : (c : Contents) → KeptRules c → (number : ℕ) (o : Option LiveRule) → c.rules number ≡ o → term_count o ≤ most_terms
few_terms c kept number None e = omega arith
few_terms c kept number (Some r) e = (kept number r e).3.1

-- how many bytes the rules under the first n numbers take
abbrev pub length_below : Contents → ℕ → ℕ
length_below c n = length (flat_map (bytes_under c) (take n numbers))

pub length_below_more : (c : Contents) (n : ℕ) (o : Option LiveRule) → o ≡ c.rules n → n < rule_numbers
    → length_below c (n + 1) ≡ length_below c n + length (rule_bytes n o)
length_below_more c n o e h =
    ap length (pieces_more (bytes_under c) numbers n 0 (omega (arith, length_numbers)))
    ∙ ap (λ ys. length (flat_map (bytes_under c) (take n numbers) ++ ys)) (rule_at c n o e h)
    ∙ length-append (flat_map (bytes_under c) (take n numbers)) (rule_bytes n o)

pub length_below_all : (c : Contents) (n : ℕ) → n ≡ rule_numbers → length_below c n ≡ length (rules_bytes c)
length_below_all c n e = ap (λ ns. length (flat_map (bytes_under c) ns)) (take_all n numbers (omega (arith, length_numbers)))

pub length_below_few : (c : Contents) → KeptRules c → (n : ℕ) → n ≤ rule_numbers → length_below c n ≤ (7 + 9 * most_terms) * n
length_below_few c kept n h =
    let each : (k : ℕ) → length (bytes_under c k) ≤ 7 + 9 * most_terms =
    λ k. omega (arith, few_terms c kept k (c.rules k) refl, rule_at_most k (c.rules k))
    in
    omega (arith, each_at_most (bytes_under c) (7 + 9 * most_terms) each (take n numbers), length-take-le n numbers (omega (arith, length_numbers)))

-- ---- The file

pub file_length : (c : Contents) → length (file c) ≡ 5 * length c.houses + (length (rules_bytes c) + 9 * length c.prices)
file_length c =
    omega (
      arith,
      ap length (file_parts c),
      length-append (spots_bytes c.houses) (rules_bytes c ++ prices_bytes c.prices),
      length-append (rules_bytes c) (prices_bytes c.prices),
      each_length (λ house. record_bytes (SpotRecord house)) 5 (λ house. refl) c.houses,
      each_length (λ price. record_bytes (PriceRecord price)) 9 (λ price. refl) c.prices,
    )

pub file_short : (c : Contents) → KeptContents c → live_terms c ≤ place_count → length (file c) ≤ most_file
file_short c kept few = omega (arith, file_length c, rules_at_most c numbers, length_numbers, kept.0.0, kept.2.0)
