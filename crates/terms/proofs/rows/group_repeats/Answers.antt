use Rattle.std.proofs.Common.{map, sym, ap, ◌∙◌}
use Rattle.terms.specs.Tests.{repeats}
use Rattle.terms.specs.Terms.{group_of}
use Rattle.terms.proofs.Searches.{repeats_first}
use Rattle.terms.proofs.rows.group_repeats.Goals as goal

pub returns-then-has_group : goal.returns-then-has_group
returns-then-has_group c =
    sym (c.loop-first.invariant ∙ ap (λ ts. repeats (map group_of ts)) c.in-Some.ensures.cases.0
    ∙ repeats_first group_of c.in-Some.first.now c.in-Some.others.now _ c.if-has_group.ensures)

pub loop-first-preserved : goal.loop-first-preserved
loop-first-preserved c =
    c.loop-first.invariant ∙ ap (λ ts. repeats (map group_of ts)) c.in-Some.ensures.cases.0
    ∙ repeats_first group_of c.in-Some.first.now c.in-Some.others.now _ c.if-has_group.ensures
