use Rattle.std.proofs.Common.{◌≡◌, ◌+◌, ◌*◌, length, Some, None, sym, ap, ◌∙◌, arith}
use Rattle.std.specs.Option.{option_map}
use Rattle.sheet.specs.Ledger.{LiveRule, Contents}
use Rattle.sheet.specs.History.{locked_ledger, rule_seen}
use Rattle.sheet_file.proofs.Lengths.{file_length, length_below_all, length_below_more, length_below_few, rule_length}
use Rattle.sheet_file.proofs.writing.file_length.Goals as goal
use Rattle.sheet_file.proofs.writing.file_length.Goals.{in-Some, in_default}

pub overflow_add-length-in-Some-2 : goal.overflow_add-length-in-Some-2
overflow_add-length-in-Some-2 c =
    let k : Contents = (locked_ledger c.args.sheet.now).contents in
    let n = c.loop-number.number in
    let rule : LiveRule = rule_seen c.in-Some.rule in
    let kept = c.keeps.ensures.kept.0 in
    let live : Some rule ≡ k.rules n = sym (ap (option_map rule_seen) c.in-Some.is) ∙ c.rule.ensures in
    omega (
      arith,
      c.loop-number.invariant,
      kept.0.0,
      kept.2.0,
      length_below_more k n (Some rule) live (omega arith),
      length_below_few k kept.1 (c.loop-number.number + 1) (omega arith),
      rule_length n rule,
      ap (λ x. length rule.terms * x) c.record_length-in-Some-2.ensures,
    )

pub loop-number-preserved : goal.loop-number-preserved
loop-number-preserved c =
    let k : Contents = (locked_ledger c.args.sheet.now).contents in
    let n = c.loop-number.number in
    elim c.match-rule.branch [
      | in-Some w ↦
          let rule : LiveRule = rule_seen w.in-Some.rule in
          let live : Some rule ≡ k.rules n = sym (ap (option_map rule_seen) w.in-Some.is) ∙ c.rule.ensures in
          omega (
            arith,
            c.loop-number.invariant,
            length_below_more k n (Some rule) live (omega arith),
            rule_length n rule,
            ap (λ x. length rule.terms * x) w.record_length-in-Some-2.ensures,
          )
      | in_default w ↦
          let none : None ≡ k.rules n = sym (ap (option_map rule_seen) w.in_default.is) ∙ c.rule.ensures in
          omega (arith, c.loop-number.invariant, length_below_more k n None none (omega arith))
    ]

pub returns : goal.returns
returns c =
    let k : Contents = (locked_ledger c.args.sheet.now).contents in
    omega (arith, c.loop-number.invariant, file_length k, length_below_all k c.loop-number.number (omega arith))
