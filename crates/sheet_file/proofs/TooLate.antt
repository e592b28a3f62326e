-- What comes too late for a sheet, one call further.
use Rattle.std.proofs.Common.{◌≡◌, ℕ, zero, suc, ◌+◌, ◌<◌, ◌≤◌, Bool, true, false, not, ◌&&◌, leb, List, [], ◌∷◌, ◌++◌, is_some, None, refl, sym, ap, ◌∙◌, ⊎_elim, arith}
use Rattle.std.specs.List.{range_with_len}
use Rattle.std.proofs.lemmas.Bool.{cases_lt, both_ways, true_from_ne_false, and_from, and_left, and_right, or_from, or_left, or_right, le-leb, lt-leb}
use Rattle.terms.specs.Limits.{relation_count}
use Rattle.terms.specs.Refusals.{uppermost}
use Rattle.terms.specs.Tests.{any, is_empty}
use Rattle.sheet.specs.declared.prices.Price.{Price}
use Rattle.sheet.specs.Limits.{rule_numbers}
use Rattle.sheet.specs.Ledger.{Ledger, Posting, Posts, empty_ledger, numbers, live, rule_of, refusal, posted, repriced}
use Rattle.sheet.proofs.Accepted.{fit_post}
use Rattle.sheet_file.specs.Reading.{is_late, price_record_rows}
use Rattle.sheet_file.proofs.Numbered.{any_numbers, put_here, put_other}
use Rattle.sheet_file.proofs.Grown.{early, fit_last}

none_in_range : (f : ℕ → Bool) (a n : ℕ) → ((j : ℕ) → j < a + n → f j ≡ false) → any f (range_with_len a n) ≡ false
none_in_range f a zero none = refl
none_in_range f a (suc n) none =
    or_from (f a) (any f (range_with_len (a + 1) n)) (none a (omega arith)) (none_in_range f (a + 1) n (λ j h. none j (omega arith)))

none_numbered : (f : ℕ → Bool) → ((j : ℕ) → j < rule_numbers → f j ≡ false) → any f numbers ≡ false
unfolding numbers
none_numbered f none = none_in_range f 0 rule_numbers none

one_numbered : (f : ℕ → Bool) (n : ℕ) → n < rule_numbers → f n ≡ true → any f numbers ≡ true
one_numbered f n h here = true_from_ne_false (any f numbers) (λ none. both_ways (f n) (any_numbers f none n h) here)

-- nothing comes too late for a new sheet
pub never_late : (number : ℕ) → is_late empty_ledger number ≡ false
never_late number = none_numbered (λ j. leb number j && false) (λ j h. and_right (leb number j) false refl)

-- ---- Behind a rule that was posted

is_rule : (p : Posting) → p.relation < relation_count → is_some (rule_of p) ≡ true
is_rule p h = some p.relation h
  where
    some : (n : ℕ) → n < relation_count → is_some (rule_of (record { number = p.number; relation = n; bound = p.bound; terms = p.terms })) ≡ true
    some zero h = refl
    some (suc zero) h = refl
    some (suc (suc zero)) h = refl
    some (suc (suc (suc n))) h = absurd (omega arith)

module _ (l : Ledger) (p : Posting) (first : is_late l p.number ≡ false) (fits : refusal l (Posts p) ≡ None) where
  lives : live (posted l p) p.number ≡ true
  lives = ap is_some (put_here l.contents.rules p.number (rule_of p)) ∙ is_rule p (fit_post l p fits).related

  not_above : (number : ℕ) → p.number < number → is_late (posted l p) number ≡ false
  not_above number above =
      let before = early l p.number first in
      or_from (not (is_empty l.contents.prices)) (any (λ j. leb number j && live (posted l p) j) numbers)
      (ap (λ ps. not (is_empty ps)) before.no_prices)
      (none_numbered (λ j. leb number j && live (posted l p) j) (λ j h. ⊎_elim
      (λ low. and_left (leb number j) (live (posted l p) j) (lt-leb number j low))
      (λ high. and_right (leb number j) (live (posted l p) j)
      (ap is_some (put_other l.contents.rules p.number (rule_of p) j (λ e. absurd (omega arith)) ∙ before.no_rules j (omega arith) h)))
      (cases_lt j number)))

  up_to : (number : ℕ) → number ≤ p.number → is_late (posted l p) number ≡ true
  up_to number below =
      or_right (not (is_empty l.contents.prices)) (any (λ j. leb number j && live (posted l p) j) numbers)
      (one_numbered (λ j. leb number j && live (posted l p) j) p.number (fit_post l p fits).numbered
      (and_from (leb number p.number) (live (posted l p) p.number) (le-leb number p.number below) lives))

  pub late_posted : (number : ℕ) → is_late (posted l p) number ≡ leb number p.number
  late_posted number = ⊎_elim
      (λ above. not_above number above ∙ sym (lt-leb number p.number above))
      (λ below. up_to number below ∙ sym (le-leb number p.number below))
      (cases_lt p.number number)

-- ---- Behind a price

not_empty : {X : Type 0} (xs : List X) (x : X) → is_empty (xs ++ x ∷ []) ≡ false
not_empty [] x = refl
not_empty (y ∷ ys) x = refl

pub late_priced : (l : Ledger) (p : Price) → uppermost (price_record_rows l p) ≡ None → (number : ℕ) → is_late (repriced l p.amount p.group) number ≡ true
late_priced l p fine number =
    or_left (not (is_empty (repriced l p.amount p.group).contents.prices)) _
    (ap (λ ps. not (is_empty ps)) (fit_last l p fine).last ∙ ap not (not_empty l.contents.prices p))
