use Rattle.std.proofs.Common.{◌&&◌, leb, ap, ◌∙◌}
use Rattle.tables.proofs.Powers.{length_is}
use Rattle.tables.proofs.conversion.is_table_length.Goals as goal

pub returns-then-is_power_of_two : goal.returns-then-is_power_of_two
returns-then-is_power_of_two c = ap (λ b. b && leb c.args.length 1024) c.if-is_power_of_two.ensures ∙ length_is c.args.length

pub returns-else-is_power_of_two : goal.returns-else-is_power_of_two
returns-else-is_power_of_two c =
    c.if-is_power_of_two.false ∙ ap (λ b. b && leb c.args.length 1024) c.if-is_power_of_two.ensures ∙ length_is c.args.length
