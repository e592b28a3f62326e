use Rattle.std.proofs.Common.{false, None, Option, refl, sym, ◌∙◌, rules}
use Rattle.std.proofs.lemmas.Option.{none-some}
use Rattle.sheet.specs.declared.book.Placed.{Placed}
use Rattle.sheet.proofs.Ledgers.{same_ledger}
use Rattle.sheet.proofs.Rules.{get_or_all}
use Rattle.sheet.proofs.book.Book.new.Goals as goal

pub invariant_of-result : goal.invariant_of-result
invariant_of-result c =
    let no_rule : Option Placed = None in
    record {
      size = refl;
      within = λ k r e. absurd (none-some r (sym (get_or_all 64 no_rule k) ∙ e));
    }

pub returns : goal.returns
returns c =
    let no_rule : Option Placed = None in
    same_ledger false (search rules) (λ n. rw (get_or_all 64 no_rule n) refl) (search rules) (search rules) (λ n. rw (get_or_all 64 no_rule n) refl)
