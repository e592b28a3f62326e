use Rattle.std.proofs.Common.{◌≡◌, ◌<◌, false, length, get_or, Some, None, refl, ap, ◌∙◌, arith, w32, to_z, of_z, SFits, rules, sym}
use Rattle.std.specs.Option.{option_map}
use Rattle.std.proofs.lemmas.Int.{to_z-of_z}
use Rattle.sheet.specs.declared.book.Placed.{Placed}
use Rattle.sheet.specs.Ledger.{rule_of, put, next_unused}
use Rattle.sheet.specs.Of.{live_rule, run_of, posting_of, places_of}
use Rattle.sheet.proofs.Ledgers.{same_ledger}
use Rattle.sheet.proofs.Rules.{put_set, rules_after}
use Rattle.sheet.proofs.book.Book.enter.Goals as goal

pub returns : goal.returns
returns c =
    let b = c.args.self.now in
    let p = c.args.posting.now in
    let n = c.from.result in
    let is : n ≡ p.number = c.from.ensures in
    let new = c.append-run.new.self in
    let run = c.append-run.result in
    let gave = c.append-run.ensures in
    let lt : n < length b.rules = omega (arith, is, c.requires.number, b.size) in
    let fits : SFits w32 p.bound = search rules in
    let r : Placed = record { relation = c.args.relation; bound = to_z w32 (of_z w32 p.bound); run = run } in
    let rule : Some (live_rule new r) ≡ rule_of (posting_of p) =
    (λ i. Some (record { relation = c.args.relation; bound = to_z-of_z w32 p.bound fits i; terms = gave.written i }))
    ∙ ap (option_map (λ x. record { relation = x; bound = p.bound; terms = p.terms.now })) (sym c.requires.relation) in
    same_ledger false refl
    (λ k. rules_after b.rules b.places new n r lt b.within gave.kept k
    ∙ ap (λ x. put (λ j. option_map (live_rule b.places) (get_or b.rules j None)) n x k) rule
    ∙ ap (λ m. put (λ j. option_map (live_rule b.places) (get_or b.rules j None)) m (rule_of (posting_of p)) k) is)
    refl gave.places
    (λ k. put_set (option_map run_of) b.rules n (Some r) None lt k
    ∙ ap (λ x. put (λ j. option_map run_of (get_or b.rules j None)) n (Some x) k) (λ i. record { from = gave.start i; count = gave.count i })
    ∙ ap (λ m. put (λ j. option_map run_of (get_or b.rules j None)) m (Some (record { from = next_unused (places_of b.places); count = length p.terms.now })) k) is)
