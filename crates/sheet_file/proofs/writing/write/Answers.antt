use Rattle.std.proofs.Common.{◌≡◌, ℕ, ◌≤◌, List, length, refl, subst, rules, arith}
use Rattle.sheet.specs.Ledger.{Contents}
use Rattle.sheet.specs.History.{Locked, locked_ledger}
use Rattle.sheet.specs.Kept.{Kept}
use Rattle.sheet.proofs.Histories.{kept_of}
use Rattle.sheet_file.specs.Format.{file, most_file}
use Rattle.sheet_file.specs.Laws.{HousesFit, ReadsBack}
use Rattle.sheet_file.proofs.ReadLaws.{sheet_reads_back, sheet_short}
use Rattle.sheet_file.proofs.WrittenFile.{room_for_spots, room_for_rules, room_for_prices, written_parts, written_answer, written_whole}
use Rattle.sheet_file.proofs.writing.write.Goals as goal

kept : (s : Locked) → Kept (locked_ledger s)
kept s = kept_of (locked_ledger s) s.kept

short_file : (s : Locked) → length (file (locked_ledger s).contents) ≤ most_file
short_file s = sheet_short (locked_ledger s) (kept s)

read_again : (s : Locked) {houses : List ℕ} → houses ≡ (locked_ledger s).contents.houses → HousesFit houses → ReadsBack (locked_ledger s).contents
read_again s same narrow = sheet_reads_back (locked_ledger s) (kept s) (subst HousesFit same narrow)

pub put_spots-at-requires : goal.put_spots-at-requires
put_spots-at-requires c =
    let k : Contents = (locked_ledger c.args.sheet.now).contents in
    room_for_spots k c.houses-houses.result.now k.prices c.houses-houses.ensures refl c.args.space.now (omega arith)

pub put_rules-at-requires : goal.put_rules-at-requires
put_rules-at-requires c =
    let k : Contents = (locked_ledger c.args.sheet.now).contents in
    room_for_rules k c.houses-houses.result.now k.prices c.houses-houses.ensures refl c.args.space.now (omega arith) c.put_spots-at.ensures

pub put_prices-requires : goal.put_prices-requires
put_prices-requires c =
    let k : Contents = (locked_ledger c.args.sheet.now).contents in
    room_for_prices k c.houses-houses.result.now c.prices.result.now c.houses-houses.ensures c.prices.ensures c.args.space.now (omega arith)
    c.put_spots-at.ensures c.put_rules-at.ensures

pub returns : goal.returns
returns c =
    let k : Contents = (locked_ledger c.args.sheet.now).contents in
    let room : length (file k) ≤ length c.args.space.now = omega arith in
    let whole =
    written_parts k c.houses-houses.result.now c.prices.result.now c.houses-houses.ensures c.prices.ensures c.args.space.now room
    c.put_spots-at.ensures c.put_rules-at.ensures c.put_prices.ensures
    in
    record {
      answer = written_answer k room whole;
      space = written_whole k room whole;
      uppermost = search rules;
      most = short_file c.args.sheet.now;
      enough = refl;
      same_contents = read_again c.args.sheet.now c.houses-houses.ensures c.houses_fit.ensures;
    }

pub returns-then-space-file_length-clause-most : goal.returns-then-space-file_length-clause-most
returns-then-space-file_length-clause-most c = short_file c.args.sheet.now

pub returns-then-space-file_length-clause-same_contents : goal.returns-then-space-file_length-clause-same_contents
returns-then-space-file_length-clause-same_contents c = read_again c.args.sheet.now c.houses-houses.ensures c.houses_fit.ensures
