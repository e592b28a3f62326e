use Rattle.std.proofs.Common.{◌≡◌, ◌/◌, length, take, drop, ap, ◌∙◌, arith}
use Rattle.tables.specs.Tables.{table_refusal, converted}
use Rattle.tables.proofs.Halves.{converted_single, halves, lower_taken, upper_taken, both_long, both_near, whole_is}
use Rattle.tables.proofs.conversion.+convert.Goals as goal

pub returns-then-table-eq1 : goal.returns-then-table-eq1
returns-then-table-eq1 g t c = converted_single g.J.Join.operation c.args.table.now c.if-table-eq1.true

pub convert-requires : goal.convert-requires
convert-requires g t c κs lives =
    let o = g.J.Join.operation in
    let xs = c.args.table.now in
    let (even, some) = halves o xs c.requires c.if-table-eq1.false in
    (omega arith, (lives, ap table_refusal c.split_at_mut-lower.ensures.front ∙ lower_taken o xs c.requires c.if-table-eq1.false))

pub convert-requires-2 : goal.convert-requires-2
convert-requires-2 g t c κs lives =
    let o = g.J.Join.operation in
    let xs = c.args.table.now in
    let (even, some) = halves o xs c.requires c.if-table-eq1.false in
    (omega arith, (lives, ap table_refusal c.split_at_mut-lower.ensures.back ∙ upper_taken o xs c.requires c.if-table-eq1.false))

pub join_halves-requires : goal.join_halves-requires
join_halves-requires g t c =
    let o = g.J.Join.operation in
    let xs = c.args.table.now in
    let first : c.convert.new.table ≡ converted o (take (length xs / 2) xs) = cc in
    let second : c.convert-2.new.table ≡ converted o (drop (length xs / 2) xs) = cc in record {
      size = both_long o xs c.requires c.if-table-eq1.false c.convert.new.table c.convert-2.new.table first second;
      near = both_near o xs c.requires c.if-table-eq1.false c.convert.new.table c.convert-2.new.table first second;
    }

pub returns : goal.returns
returns g t c =
    let o = g.J.Join.operation in
    let xs = c.args.table.now in
    let first : c.convert.new.table ≡ converted o (take (length xs / 2) xs) = cc in
    let second : c.convert-2.new.table ≡ converted o (drop (length xs / 2) xs) = cc in
    c.join_halves.ensures ∙ whole_is o xs c.requires c.if-table-eq1.false c.convert.new.table c.convert-2.new.table first second
