-- Reading whole records, one after the other: what no fault is found in makes its change of the sheet.
use Rattle.std.proofs.Common.{◌≡◌, ℕ, ◌+◌, ◌<◌, ◌≤◌, Bool, false, cond, not, leb, List, [], ◌∷◌, ◌++◌, map, length, Some, None, Ok, Option, sym, refl, ap, ◌∙◌, arith}
use Rattle.std.specs.Option.{option_or}
use Rattle.std.proofs.lemmas.Bool.{lt-leb}
use Rattle.terms.specs.Limits.{most_terms}
use Rattle.terms.specs.Refusals.{uppermost}
use Rattle.terms.specs.declared.polynomials.Term.{Term}
use Rattle.terms.specs.declared.refusals.Refusal.TheVariants.{Crowded}
use Rattle.sheet.specs.declared.prices.Price.{Price}
use Rattle.sheet.specs.Ledger.{Ledger, Declares, Posts, Prices, refusal, step, declared, posted, repriced}
use Rattle.sheet_file.specs.declared.faults.FileRefusal.{FileRefusal}
use Rattle.sheet_file.specs.Records.{Head, Record, SpotRecord, RuleRecord, TermRecord, PriceRecord, record_bytes}
use Rattle.sheet_file.specs.Pieces.{PlacedTerm, whole_terms, Piece, SpotPiece, RulePiece, PricePiece, Faulty, all_pieces, grouped}
use Rattle.sheet_file.specs.Reading.{asked, price_record_rows, is_late, flaw_if, caused, term_fault, fault, with_call, unless_fault, told}
use Rattle.sheet_file.proofs.Bytes.{placed}
use Rattle.sheet_file.proofs.Grown.{step_done}

-- reading the records onto a sheet gives another, wherever they stand
abbrev pub Makes : Ledger → List Record → Ledger → Type 0
Makes l rs m = (place : ℕ) → told l (all_pieces (grouped (placed place rs))) ≡ Ok m

pub nothing_makes : (l : Ledger) → Makes l [] l
nothing_makes l place = refl

-- a piece without fault, then the others
piece_told : (l k m : Ledger) (p : Piece) (ps : List Piece) → fault l p ≡ None → with_call l p ≡ k → told k ps ≡ Ok m → told l (p ∷ ps) ≡ Ok m
piece_told l k m p ps fine same rest = ap (λ o. unless_fault o (told (with_call l p) ps)) fine ∙ ap (λ x. told x ps) same ∙ rest

-- no fault of a piece that is not late and does no other wrong
fault_none : (o : Option FileRefusal) (late : Bool) (place : ℕ) → late ≡ false → o ≡ None → option_or (flaw_if late place) o ≡ None
fault_none o late place early fine = ap (λ b. option_or (flaw_if b place) o) early ∙ fine

pub spot_makes : (l m : Ledger) (house : ℕ) (rs : List Record) → l.locked ≡ false → is_late l 0 ≡ false → refusal l (Declares house) ≡ None
    → Makes (declared l house) rs m → Makes l (SpotRecord house ∷ rs) m
spot_makes l m house rs draft early fit next place =
    let rest = place + length (record_bytes (SpotRecord house)) in
    piece_told l (declared l house) m (SpotPiece place house) (all_pieces (grouped (placed rest rs)))
    (fault_none (caused place (refusal l (Declares house))) (is_late l 0) place early (ap (caused place) fit))
    (step_done l (Declares house) (ap not draft) fit) (next rest)

-- the records do not begin with a term
abbrev pub NoTermFirst : List Record → Type 0
NoTermFirst rs = (place : ℕ) → (grouped (placed place rs)).lead ≡ []

-- terms that other records follow: they lead, none of them is at fault where they are few, and behind them are the pieces of the others
record Leading (place : ℕ) (ts : List Term) (rs : List Record) : Type 0 where
  same : whole_terms (grouped (placed place (map TermRecord ts ++ rs))).lead ≡ ts
  fine : (before : ℕ) → before + length ts ≤ most_terms → term_fault before (grouped (placed place (map TermRecord ts ++ rs))).lead ≡ None
  end : ℕ
  behind : (grouped (placed place (map TermRecord ts ++ rs))).pieces ≡ all_pieces (grouped (placed end rs))

-- a term that is not one too many, and then the others
one_fine : (place before : ℕ) (o : Option FileRefusal) → before < most_terms → o ≡ None
    → option_or (caused place (cond (leb most_terms before) (Some Crowded) None)) o ≡ None
one_fine place before o room fine = ap (λ b. option_or (caused place (cond b (Some Crowded) None)) o) (lt-leb most_terms before room) ∙ fine

leading : (place : ℕ) (ts : List Term) (rs : List Record) → NoTermFirst rs → Leading place ts rs
leading place [] rs none = record {
  same = ap whole_terms (none place);
  fine = λ before h. ap (term_fault before) (none place);
  end = place;
  behind = sym (ap (λ lead. map (λ t. Faulty t.place) lead ++ (grouped (placed place rs)).pieces) (none place));
}
leading place (t ∷ ts) rs none =
    let later = leading (place + length (record_bytes (TermRecord t))) ts rs none in
    record {
      same = ap (λ us. t ∷ us) later.same;
      fine = λ before h. one_fine place before _ (omega arith) (later.fine (before + 1) (omega arith));
      end = later.end;
      behind = later.behind;
    }

-- a rule with its terms, then the other pieces
rule_told : (l m : Ledger) (place : ℕ) (h : Head) (lead : List PlacedTerm) (ps : List Piece) (ts : List Term)
    → l.locked ≡ false → is_late l h.number ≡ false → refusal l (Posts (asked h ts)) ≡ None → whole_terms lead ≡ ts → term_fault 0 lead ≡ None
    → told (posted l (asked h ts)) ps ≡ Ok m → told l (RulePiece place h lead ∷ ps) ≡ Ok m
rule_told l m place h lead ps ts draft early fit same fine rest =
    let refused : List Term → Option FileRefusal = λ us. caused place (refusal l (Posts (asked h us))) in
    let none : refused (whole_terms lead) ≡ None = ap refused same ∙ ap (caused place) fit in
    piece_told l (posted l (asked h ts)) m (RulePiece place h lead) ps
    (fault_none (option_or (term_fault 0 lead) (refused (whole_terms lead))) (is_late l h.number) place early
    (ap (λ o. option_or o (refused (whole_terms lead))) fine ∙ none))
    (ap (λ us. step l (Posts (asked h us))) same ∙ step_done l (Posts (asked h ts)) (ap not draft) fit) rest

pub rule_makes : (l m : Ledger) (h : Head) (ts : List Term) (rs : List Record) → l.locked ≡ false → is_late l h.number ≡ false
    → length ts ≤ most_terms → refusal l (Posts (asked h ts)) ≡ None → NoTermFirst rs → Makes (posted l (asked h ts)) rs m
    → Makes l (RuleRecord h ∷ (map TermRecord ts ++ rs)) m
rule_makes l m h ts rs draft early few fit none next place =
    let rest = place + length (record_bytes (RuleRecord h)) in
    let terms = leading rest ts rs none in
    rule_told l m place h (grouped (placed rest (map TermRecord ts ++ rs))).lead _ ts draft early fit terms.same
    (terms.fine 0 (omega arith)) (ap (told (posted l (asked h ts))) terms.behind ∙ next terms.end)

pub price_makes : (l m : Ledger) (p : Price) (rs : List Record) → l.locked ≡ false → uppermost (price_record_rows l p) ≡ None
    → refusal l (Prices p.amount p.group) ≡ None → Makes (repriced l p.amount p.group) rs m → Makes l (PriceRecord p ∷ rs) m
price_makes l m p rs draft fine fit next place =
    let rest = place + length (record_bytes (PriceRecord p)) in
    piece_told l (repriced l p.amount p.group) m (PricePiece place p) (all_pieces (grouped (placed rest rs))) (ap (caused place) fine)
    (step_done l (Prices p.amount p.group) (ap not draft) fit) (next rest)
