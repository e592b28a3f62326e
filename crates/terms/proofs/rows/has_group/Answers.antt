use Rattle.std.proofs.Common.{◌≡◌, false, ◌||◌, fold, ◌∙◌, arith}
use Rattle.std.specs.Prelude.{◌==◌}
use Rattle.std.proofs.lemmas.Grind.{common_steps}
use Rattle.terms.proofs.Searches.{any_folded}
use Rattle.terms.proofs.rows.has_group.Goals as goal

pub returns : goal.returns
returns c =
    let all : c.fold.result ≡ fold (λ found t. found || (c.args.group == t.group)) false c.args.terms.now = grind (arith, common_steps) in
    all ∙ any_folded (λ t. c.args.group == t.group) false c.args.terms.now
