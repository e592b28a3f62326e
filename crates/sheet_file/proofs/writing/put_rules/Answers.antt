use Rattle.std.proofs.Common.{◌≡◌, Some, None, sym, ap, ◌∙◌, arith}
use Rattle.std.specs.Option.{option_map}
use Rattle.sheet.specs.Ledger.{LiveRule, Contents, numbers}
use Rattle.sheet.specs.History.{locked_ledger, rule_seen}
use Rattle.sheet_file.specs.WritingSteps.{bytes_under}
use Rattle.sheet_file.proofs.Parts.{length_numbers}
use Rattle.sheet_file.proofs.Written.{written_none, written_all, written_as}
use Rattle.sheet_file.proofs.WrittenFile.{room_for_rule, written_rule}
use Rattle.sheet_file.proofs.writing.put_rules.Goals as goal
use Rattle.sheet_file.proofs.writing.put_rules.Goals.{in-Some, in_default}

pub loop-number-init : goal.loop-number-init
loop-number-init c = written_none c.args.at c.args.space.now

pub put_rule-place-requires : goal.put_rule-place-requires
put_rule-place-requires c =
    let k : Contents = (locked_ledger c.args.sheet.now).contents in
    let n = c.loop-number.number in
    let rule : LiveRule = rule_seen c.in-Some.rule in
    let live : Some rule ≡ k.rules n = sym (ap (option_map rule_seen) c.in-Some.is) ∙ c.rule.ensures in
    room_for_rule k n (Some rule) live c.requires c.loop-number.invariant (omega arith)

pub loop-number-preserved : goal.loop-number-preserved
loop-number-preserved c =
    let k : Contents = (locked_ledger c.args.sheet.now).contents in
    let n = c.loop-number.number in
    elim c.match-rule.branch [
      | in-Some w ↦
          let rule : LiveRule = rule_seen w.in-Some.rule in
          let live : Some rule ≡ k.rules n = sym (ap (option_map rule_seen) w.in-Some.is) ∙ c.rule.ensures in
          written_as w.space-is w.place-is (written_rule k n (Some rule) live c.requires c.loop-number.invariant (omega arith) w.put_rule-place.ensures)
      | in_default w ↦
          let none : None ≡ k.rules n = sym (ap (option_map rule_seen) w.in_default.is) ∙ c.rule.ensures in
          written_as w.space-is w.place-is
          (written_rule k n None none c.requires c.loop-number.invariant (omega arith) (written_none c.loop-number.place c.loop-number.space))
    ]

pub returns : goal.returns
returns c =
    let k : Contents = (locked_ledger c.args.sheet.now).contents in
    written_all (bytes_under k) numbers c.loop-number.number 0 c.requires c.loop-number.invariant
    (omega (arith, length_numbers))
