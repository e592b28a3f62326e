-- The parts of a sheet's file, written one after the other.
use Rattle.std.proofs.Common.{◌≡◌, ℕ, ◌+◌, ◌<◌, ◌≤◌, false, cond, List, ◌++◌, length, take, ltb, Some, None, Option, Ok, sym, refl, ap, ◌∙◌, subst, arith}
use Rattle.std.specs.List.{flat_map}
use Rattle.std.proofs.lemmas.Bool.{le-ltb}
use Rattle.std.proofs.lemmas.List.{length-append}
use Rattle.terms.specs.Refusals.{answered, unless}
use Rattle.terms.specs.declared.refusals.Refusal.TheVariants.{Short}
use Rattle.sheet.specs.declared.prices.Price.{Price}
use Rattle.sheet.specs.Limits.{rule_numbers}
use Rattle.sheet.specs.Ledger.{LiveRule, Contents, numbers}
use Rattle.sheet_file.specs.Format.{file}
use Rattle.sheet_file.specs.Writing.{over_head, write_answer, written_space}
use Rattle.sheet_file.specs.WritingSteps.{Written, spots_bytes, prices_bytes, rule_bytes, bytes_under, rules_bytes}
use Rattle.sheet_file.proofs.Parts.{length_numbers, rule_at, file_parts}
use Rattle.sheet_file.proofs.Written.{over_front, written_then, room_then, room_for, written_more}

-- what stands under one rule number, behind all that stands under those below
module _ (c : Contents) (n : ℕ) (o : Option LiveRule) (e : o ≡ c.rules n) {at place : ℕ} {old mid : List ℕ}
    (room : at + length (rules_bytes c) ≤ length old) (so_far : Written at (flat_map (bytes_under c) (take n numbers)) old mid place) where
  pub room_for_rule : n < rule_numbers → place + length (rule_bytes n o) ≤ length mid
  room_for_rule h =
      subst (λ bytes. place + length bytes ≤ length mid) (rule_at c n o e h)
      (room_for (bytes_under c) numbers n 0 room so_far (omega (arith, length_numbers)))

  pub written_rule : n < rule_numbers → {new : List ℕ} {end : ℕ} → Written place (rule_bytes n o) mid new end
      → Written at (flat_map (bytes_under c) (take (n + 1) numbers)) old new end
  written_rule h {new} {end} piece =
      written_more (bytes_under c) numbers n 0 room so_far (omega (arith, length_numbers))
      (subst (λ bytes. Written place bytes mid new end) (sym (rule_at c n o e h)) piece)

-- the spots, the rules and the prices of a sheet, one behind the other, in a space that is not shorter than the file
module _ (c : Contents) (houses : List ℕ) (prices : List Price) (same_houses : houses ≡ c.houses) (same_prices : prices ≡ c.prices) (old : List ℕ)
    (room : length (file c) ≤ length old) where
  parts : file c ≡ spots_bytes houses ++ (rules_bytes c ++ prices_bytes prices)
  parts = file_parts c ∙ sym (λ i. spots_bytes (same_houses i) ++ (rules_bytes c ++ prices_bytes (same_prices i)))

  pub room_for_spots : 0 + length (spots_bytes houses) ≤ length old
  room_for_spots = omega (arith, ap length parts, length-append (spots_bytes houses) (rules_bytes c ++ prices_bytes prices))

  room_for_rest : {one : List ℕ} {p : ℕ} → Written 0 (spots_bytes houses) old one p → p + length (rules_bytes c ++ prices_bytes prices) ≤ length one
  room_for_rest spots = room_then (rules_bytes c ++ prices_bytes prices) (file c) parts (omega arith) spots

  pub room_for_rules : {one : List ℕ} {p : ℕ} → Written 0 (spots_bytes houses) old one p → p + length (rules_bytes c) ≤ length one
  room_for_rules spots = omega (arith, room_for_rest spots, length-append (rules_bytes c) (prices_bytes prices))

  pub room_for_prices : {one two : List ℕ} {p q : ℕ} → Written 0 (spots_bytes houses) old one p → Written p (rules_bytes c) one two q
      → q + length (prices_bytes prices) ≤ length two
  room_for_prices spots rules = room_then (prices_bytes prices) (rules_bytes c ++ prices_bytes prices) refl (room_for_rest spots) rules

  pub written_parts : {one two new : List ℕ} {p q end : ℕ} → Written 0 (spots_bytes houses) old one p → Written p (rules_bytes c) one two q
      → Written q (prices_bytes prices) two new end → Written 0 (file c) old new end
  written_parts spots rules priced =
      let left = room_for_rest spots in
      written_then (omega arith) spots (written_then (omega arith) rules priced (rules_bytes c ++ prices_bytes prices) refl) (file c) parts

-- the file written into a space that is not shorter
module _ (c : Contents) {old new : List ℕ} {end : ℕ} (room : length (file c) ≤ length old) (w : Written 0 (file c) old new end) where
  fits : ltb (length old) (length (file c)) ≡ false
  fits = le-ltb (length old) (length (file c)) room

  pub written_answer : Ok end ≡ write_answer c (length old)
  written_answer =
      let long : end ≡ length (file c) = omega (arith, w.behind) in
      ap Ok long ∙ sym (ap (λ b. answered (cond b (Some Short) None) (length (file c))) fits)

  pub written_whole : new ≡ written_space c old
  written_whole =
      w.space ∙ over_front (file c) old ∙ sym (ap (λ b. unless (cond b (Some Short) None) old (over_head (file c) old)) fits)
