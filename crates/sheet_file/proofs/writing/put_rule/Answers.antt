use Rattle.std.proofs.Common.{arith}
use Rattle.sheet.specs.History.{rule_seen}
use Rattle.sheet_file.proofs.Parts.{rule_parts}
use Rattle.sheet_file.proofs.Written.{written_then, room_then}
use Rattle.sheet_file.proofs.writing.put_rule.Goals as goal

pub put_terms-requires : goal.put_terms-requires
put_terms-requires c = room_then _ _ (rule_parts c.args.number (rule_seen c.args.rule.now)) c.requires c.put_rule_head-at.ensures

pub returns : goal.returns
returns c = written_then (omega arith) c.put_rule_head-at.ensures c.put_terms.ensures _ (rule_parts c.args.number (rule_seen c.args.rule.now))
