use Rattle.std.proofs.Common.{◌≡◌, false, None, Some, Err, List, ℤ, w32, to_z, of_z, SFits, sym, ap, ◌∙◌, subst, rules}
use Rattle.std.proofs.lemmas.Int.{to_z-of_z}
use denote.Enum.Bare.{same_true}
use Rattle.terms.specs.declared.polynomials.Term.{Term}
use Rattle.sheet.specs.Ledger.{Call, Posts, posting, refusal, step}
use Rattle.sheet.specs.History.{draft_ledger}
use Rattle.sheet.proofs.Ledgers.{made_done}
use Rattle.sheet_file.specs.contracts.reader.Stage.{the_type}
use Rattle.sheet_file.specs.declared.reader.Reader.{Reader}
use Rattle.sheet_file.specs.declared.reader.Stage.TheVariants as stages
use Rattle.sheet_file.specs.Reading.{is_late}
use Rattle.sheet_file.specs.ReadingSteps.{rest, told_in, told_closed, late_in, Between}
use Rattle.sheet_file.proofs.TooLate.{late_posted}
use Rattle.sheet_file.proofs.Taken.{accepted, refused, closed_posting, rule_posted, rule_refused}
use Rattle.sheet_file.proofs.reader.Reader.close.Goals as goal

-- the call that posts the open rule with this bound and these terms
abbrev posts : Reader → ℤ → List Term → Call
posts r bound ts = Posts (posting r.rule.number r.rule.relation bound ts)

same_posts : (r : Reader) (ts : List Term) → SFits w32 r.rule.bound → ts ≡ r.rule.terms.items
    → posts r (to_z w32 (of_z w32 r.rule.bound)) ts ≡ Posts (closed_posting r.rule)
same_posts r ts in_range terms =
    ap (λ z. posts r z ts) (to_z-of_z w32 r.rule.bound in_range) ∙ ap (posts r r.rule.bound) terms

pub returns-in-Err-clause-told : goal.returns-in-Err-clause-told
returns-in-Err-clause-told c =
    let r = c.args.self.now in
    let l = draft_ledger r.draft in
    let stage : r.stage ≡ stages.Rule = same_true the_type (search rules) _ _ (sym c.if-eq.ensures) in
    let same = same_posts r c.as_slice-terms.result.now (search rules) c.as_slice-terms.ensures.value in
    let says : refusal l (Posts (closed_posting r.rule)) ≡ Some c.in-Err.refusal =
    ap (refusal l) (sym same) ∙ refused _ _ _ c.in-Err.ensures.answer in
    ap (λ s. told_in s l r.rule (rest r)) stage ∙ rule_refused l r.rule (rest r) (c.requires.whole stage) c.in-Err.refusal says
    ∙ ap Err (sym c.cause.ensures)

pub returns-in_default-clause-told : goal.returns-in_default-clause-told
returns-in_default-clause-told c =
    let r = c.args.self.now in
    let l = draft_ledger r.draft in
    let d = c.post.new.self in
    let p = closed_posting r.rule in
    let stage : r.stage ≡ stages.Rule = same_true the_type (search rules) _ _ (sym c.if-eq.ensures) in
    let same = same_posts r c.as_slice-terms.result.now (search rules) c.as_slice-terms.ensures.value in
    let fits : refusal l (Posts p) ≡ None = ap (refusal l) (sym same) ∙ accepted _ _ _ c.in_default.ensures.answer in
    let after : draft_ledger d ≡ step l (Posts p) = c.in_default.ensures.after ∙ ap (step l) same in
    let first : is_late l r.rule.number ≡ false = subst (λ s. Between s l r.rule.number) stage c.requires.between in (
      ap (λ s. told_in s l r.rule (rest r)) stage ∙ rule_posted l r.rule (rest r) (c.requires.whole stage) fits ∙ ap (λ m. told_closed m (rest r)) (sym after),
      λ number. ap (λ m. is_late m number) (after ∙ made_done l (Posts p) fits) ∙ late_posted l p first fits number
          ∙ ap (λ s. late_in s r.rule.number number) (sym stage),
    )
