-- Reading answers for its bytes: accepted, they are the file of the sheet that was read; refused, all before the fault is without fault.
use Rattle.std.proofs.Common.{◌≡◌, ℕ, zero, suc, ◌+◌, ◌^◌, ◌<◌, ◌≤◌, Bool, true, false, cond, leb, List, [], ◌∷◌, ◌++◌, length, take, drop, Some, None, Ok, Err, Option, Result, inl, inr, sym, refl, ap, ◌∙◌, subst, ⊎_elim, append_assoc, append-nil, arith}
use Rattle.std.specs.Option.{option_or}
use Rattle.std.specs.List.{flat_map}
use Rattle.std.proofs.lemmas.List.{length_push, map_push, flat_map_more, take_all, drop_all}
use Rattle.std.proofs.lemmas.Bool.{cases_lt, cases_Bool, le-leb, lt-leb}
use Rattle.terms.specs.Limits.{most_terms}
use Rattle.terms.specs.Refusals.{uppermost}
use Rattle.terms.specs.declared.polynomials.Term.{Term}
use Rattle.terms.specs.declared.refusals.Refusal.{Refusal}
use Rattle.terms.specs.declared.refusals.Refusal.TheVariants.{Crowded}
use Rattle.sheet.specs.Ledger.{Ledger, Declares, Posts, empty_ledger, refusal, step}
use Rattle.sheet_file.specs.declared.kinds.Kind.TheVariants as kinds
use Rattle.sheet_file.specs.declared.faults.FileFault.{FileFault}
use Rattle.sheet_file.specs.declared.faults.FileRefusal.{FileRefusal}
use Rattle.sheet_file.specs.Faults.{flaw, cause}
use Rattle.sheet_file.specs.Records.{Head, Record, SpotRecord, RuleRecord, TermRecord, PriceRecord, record_bytes, Found, Whole, Cut, Unknown, records}
use Rattle.sheet_file.specs.Format.{rule_with, file}
use Rattle.sheet_file.specs.Pieces.{PlacedTerm, whole_terms, Piece, RulePiece, Grouped, all_pieces, joined, grouped}
use Rattle.sheet_file.specs.Reading.{asked, is_late, flaw_if, caused, term_fault, price_record_rows, unless_fault, told, reading}
use Rattle.sheet_file.specs.Laws.{Packed, IsSheet, found_at, FaultAt, FaultShown, IsFileWithRule}
use Rattle.sheet_file.proofs.Wholes.{IsBytes, next, narrow_at, records_at, whole_at}
use Rattle.sheet_file.proofs.Numbered.{flat_no_numbers}
use Rattle.sheet_file.proofs.Grown.{Good, packed, good_empty, early, rises, spot_grown, rule_grown, price_grown}

-- the sheet is a good one, and the bytes are its file
pub record IsRead (bytes : List ℕ) (l : Ledger) : Type 0 where
  pub good : Good l
  pub same : file l.contents ≡ bytes

is_sheet : (l : Ledger) → Good l → IsSheet l
is_sheet l good = record { told = good.told; narrow = good.narrow }

-- what an answer says of all the bytes
abbrev pub Outcome : List ℕ → Result Ledger FileRefusal → Type 0
Outcome bytes (Ok l) = IsRead bytes l
Outcome bytes (Err e) = FaultShown bytes e

-- from a place on the pieces are these, and the bytes before it are a file
abbrev First : List ℕ → ℕ → List Piece → Type 0
First bytes place ps = (l : Ledger) → Good l → file l.contents ≡ take place bytes → Outcome bytes (told l ps)

-- a rule's head whose terms are being read, before which the bytes are the file of a sheet
pub record Opened (bytes : List ℕ) : Type 0 where
  pub sheet : Ledger
  pub good : Good sheet
  pub start : ℕ
  pub inside : start < length bytes
  pub before : file sheet.contents ≡ take start bytes
  pub head : Head
  pub in_time : is_late sheet head.number ≡ false
  pub all : List PlacedTerm

-- whole terms of it have been read as far as a place, from which on more terms lead
pub record Reached (bytes : List ℕ) (place : ℕ) (lead : List PlacedTerm) (o : Opened bytes) : Type 0 where
  pub terms : List Term
  pub few : length terms ≤ most_terms
  pub same : file o.sheet.contents ++ flat_map record_bytes (rule_with o.head terms) ≡ take place bytes
  pub faults : term_fault 0 o.all ≡ term_fault (length terms) lead
  pub wholes : whole_terms o.all ≡ terms ++ whole_terms lead

-- from a place on the pieces are those behind an open rule's terms
abbrev Second : List ℕ → ℕ → List PlacedTerm → List Piece → Type 0
Second bytes place lead ps = (o : Opened bytes) → Reached bytes place lead o → Outcome bytes (told o.sheet (RulePiece o.start o.head o.all ∷ ps))

-- what stands at a place, and how the bytes before it grow if it is a whole record
pub record Stands (bytes : List ℕ) (place past : ℕ) (f : Found) : Type 0 where
  pub inside : place < length bytes
  pub here : found_at bytes place ≡ f
  pub narrow : (house : ℕ) → f ≡ Whole (SpotRecord house) → house < 2 ^ 32
  pub grows : (r : Record) → f ≡ Whole r → take past bytes ≡ take place bytes ++ record_bytes r

module _ (bytes : List ℕ) where
  shown : (place : ℕ) (fault : FileFault) (l : Ledger) → place < length bytes → Good l → file l.contents ≡ take place bytes
      → FaultAt bytes place fault
  shown place fault l inside good same = record { inside = inside; before = inl (record { sheet = l; made = is_sheet l good; same = same }) }

  late_or : (b : Bool) (place : ℕ) (o : Option FileRefusal) (rest : Result Ledger FileRefusal) → Outcome bytes (Err (flaw place))
      → (b ≡ false → Outcome bytes (unless_fault o rest)) → Outcome bytes (unless_fault (option_or (flaw_if b place) o) rest)
  late_or true place o rest late in_time = late
  late_or false place o rest late in_time = in_time refl

  late_gives : (b : Bool) (place : ℕ) (o : Option FileRefusal) (rest : Result Ledger FileRefusal) → b ≡ true → Outcome bytes (Err (flaw place))
      → Outcome bytes (unless_fault (option_or (flaw_if b place) o) rest)
  late_gives true place o rest e late = late
  late_gives false place o rest e late = cc

  caused_or : (o : Option Refusal) (place : ℕ) (rest : Result Ledger FileRefusal) → ((e : Refusal) → Outcome bytes (Err (cause place e)))
      → (o ≡ None → Outcome bytes rest) → Outcome bytes (unless_fault (caused place o) rest)
  caused_or None place rest refused fits = fits refl
  caused_or (Some e) place rest refused fits = refused e

  -- ---- An open rule

  module _ (l : Ledger) (start : ℕ) (h : Head) (all : List PlacedTerm) (ps : List Piece) (in_time : is_late l h.number ≡ false) where
    term_told : (e : FileRefusal) → term_fault 0 all ≡ Some e → Outcome bytes (Err e) → Outcome bytes (told l (RulePiece start h all ∷ ps))
    term_told e fault shown = rw (in_time, fault) shown

    rule_told : (ts : List Term) → term_fault 0 all ≡ None → whole_terms all ≡ ts
        → Outcome bytes (unless_fault (caused start (refusal l (Posts (asked h ts)))) (told (step l (Posts (asked h ts))) ps))
        → Outcome bytes (told l (RulePiece start h all ∷ ps))
    rule_told ts none wholes out = rw (in_time, none, wholes) out

  -- an open rule that no term follows any more
  closed : (place : ℕ) (ps : List Piece) → First bytes place ps → Second bytes place [] ps
  closed place ps first o r =
      rule_told o.sheet o.start o.head o.all ps o.in_time r.terms r.faults (r.wholes ∙ append-nil r.terms)
      (caused_or (refusal o.sheet (Posts (asked o.head r.terms))) o.start _
      (λ e. shown o.start _ o.sheet o.inside o.good o.before)
      (λ fits. let more = rule_grown o.sheet o.head r.terms o.good o.in_time fits in first _ more.good (more.same ∙ r.same)))

  -- the bytes before the place, as a law says them
  beginning : (place : ℕ) (lead : List PlacedTerm) (o : Opened bytes) (r : Reached bytes place lead o) → IsFileWithRule (take place bytes) r.terms
  beginning place lead o r = record {
    sheet = o.sheet;
    made = is_sheet o.sheet o.good;
    no_prices = (early o.sheet o.head.number o.in_time).no_prices;
    head = o.head;
    rises = rises o.sheet o.head.number o.good o.in_time;
    few = r.few;
    same = r.same;
  }

  -- a whole term, and the leading terms that follow it
  module _ (place past : ℕ) (t : Term) (lead : List PlacedTerm) (ps : List Piece) (here : Stands bytes place past (Whole (TermRecord t)))
      (o : Opened bytes) (r : Reached bytes place (record { place = place; term = Some t } ∷ lead) o) where
    term_counted : (b : Bool) → leb most_terms (length r.terms) ≡ b
        → term_fault 0 o.all ≡ option_or (caused place (cond b (Some Crowded) None)) (term_fault (length r.terms + 1) lead)
    term_counted b e = r.faults ∙ ap (λ c. option_or (caused place (cond c (Some Crowded) None)) (term_fault (length r.terms + 1) lead)) e

    one_more : length r.terms < most_terms → Reached bytes past lead o
    one_more room =
        let long = length_push r.terms t in record {
          terms = r.terms ++ t ∷ [];
          few = omega arith;
          same = ap (λ rs. file o.sheet.contents ++ flat_map record_bytes (RuleRecord o.head ∷ rs)) (map_push TermRecord r.terms t)
              ∙ sym (flat_map_more record_bytes (file o.sheet.contents) (rule_with o.head r.terms) (TermRecord t))
              ∙ ap (λ bs. bs ++ record_bytes (TermRecord t)) r.same ∙ sym (here.grows (TermRecord t) refl);
          faults = term_counted false (lt-leb most_terms (length r.terms) room) ∙ ap (λ n. term_fault n lead) (sym long);
          wholes = r.wholes ∙ sym (append_assoc r.terms (t ∷ []) (whole_terms lead));
        }

    too_many : most_terms ≤ length r.terms → Outcome bytes (told o.sheet (RulePiece o.start o.head o.all ∷ ps))
    too_many full =
        let few = r.few in
        term_told o.sheet o.start o.head o.all ps o.in_time (cause place Crowded) (term_counted true (le-leb most_terms (length r.terms) full))
        (record { inside = here.inside; before = inr (r.terms, beginning place _ o r, inr (t, here.here, omega arith, refl)) })

  -- a term that the end cuts
  cut_term : (place past : ℕ) (lead : List PlacedTerm) (ps : List Piece) → Stands bytes place past (Cut kinds.Term)
      → Second bytes place (record { place = place; term = None } ∷ lead) ps
  cut_term place past lead ps here o r =
      term_told o.sheet o.start o.head o.all ps o.in_time (flaw place) r.faults
      (record { inside = here.inside; before = inr (r.terms, beginning place _ o r, inl (here.here, refl)) })

  -- ---- One record more, between the claims at its place and those behind it

  module _ (place past : ℕ) (g : Grouped) (first : First bytes past (all_pieces g)) (second : Second bytes past g.lead g.pieces) where
    -- the file of a sheet with the record behind it
    behind : {r : Record} (l : Ledger) → Stands bytes place past (Whole r) → file l.contents ≡ take place bytes
        → file l.contents ++ flat_map record_bytes (r ∷ []) ≡ take past bytes
    behind {r} l here same =
        ap (λ bs. file l.contents ++ bs) (append-nil (record_bytes r)) ∙ ap (λ bs. bs ++ record_bytes r) same ∙ sym (here.grows r refl)

    first_step : (f : Found) → Stands bytes place past f → First bytes place (all_pieces (joined place f g))
    first_step (Whole (SpotRecord house)) here l good same =
        late_or (is_late l 0) place (caused place (refusal l (Declares house))) _ (shown place _ l here.inside good same)
        (λ in_time. caused_or (refusal l (Declares house)) place _ (λ e. shown place _ l here.inside good same) (λ fits.
        let more = spot_grown l house good (here.narrow house refl) in_time fits in first _ more.good (more.same ∙ behind l here same)))
    first_step (Whole (RuleRecord h)) here l good same =
        ⊎_elim (λ late. late_gives (is_late l h.number) place _ _ late (shown place _ l here.inside good same))
        (λ in_time. second
        (record { sheet = l; good = good; start = place; inside = here.inside; before = same; head = h; in_time = in_time; all = g.lead })
        (record { terms = []; few = omega arith; same = behind l here same; faults = refl; wholes = refl }))
        (cases_Bool (is_late l h.number))
    first_step (Whole (TermRecord t)) here l good same = shown place _ l here.inside good same
    first_step (Whole (PriceRecord p)) here l good same =
        caused_or (uppermost (price_record_rows l p)) place _ (λ e. shown place _ l here.inside good same)
        (λ fits. let more = price_grown l p good fits in first _ more.good (more.same ∙ behind l here same))
    first_step (Cut kinds.Spot) here l good same = shown place _ l here.inside good same
    first_step (Cut kinds.Rule) here l good same = shown place _ l here.inside good same
    first_step (Cut kinds.Term) here l good same = shown place _ l here.inside good same
    first_step (Cut kinds.Price) here l good same = shown place _ l here.inside good same
    first_step Unknown here l good same = shown place _ l here.inside good same

    -- what is no term ends a rule's terms
    shut : (f : Found) → Stands bytes place past f → Second bytes place [] (all_pieces (joined place f g))
    shut f here = closed place (all_pieces (joined place f g)) (first_step f here)

    second_step : (f : Found) → Stands bytes place past f → Second bytes place (joined place f g).lead (joined place f g).pieces
    second_step (Whole (SpotRecord house)) here = shut (Whole (SpotRecord house)) here
    second_step (Whole (RuleRecord h)) here = shut (Whole (RuleRecord h)) here
    second_step (Whole (TermRecord t)) here = λ o r.
        ⊎_elim (λ room. second o (one_more place past t g.lead g.pieces here o r room)) (too_many place past t g.lead g.pieces here o r)
        (cases_lt (length r.terms) most_terms)
    second_step (Whole (PriceRecord p)) here = shut (Whole (PriceRecord p)) here
    second_step (Cut kinds.Spot) here = shut (Cut kinds.Spot) here
    second_step (Cut kinds.Rule) here = shut (Cut kinds.Rule) here
    second_step (Cut kinds.Term) here = cut_term place past g.lead g.pieces here
    second_step (Cut kinds.Price) here = shut (Cut kinds.Price) here
    second_step Unknown here = shut Unknown here

-- ---- The whole file

-- both claims, of what stands from a place on
abbrev Both : List ℕ → ℕ → Grouped → Type 0
Both bytes place g = First bytes place (all_pieces g) × Second bytes place g.lead g.pieces

both_end : (bytes : List ℕ) (place : ℕ) → length bytes ≤ place → Both bytes place (grouped (records place 0 (drop place bytes)))
both_end bytes place past =
    let first : First bytes place [] = λ l good same. record { good = good; same = same ∙ take_all place bytes past } in
    subst (λ rest. Both bytes place (grouped (records place 0 rest))) (sym (drop_all place bytes past)) (first, closed bytes place [] first)

both_inside : (bytes : List ℕ) → IsBytes bytes → (place : ℕ) → place < length bytes
    → Both bytes (next bytes place) (grouped (records (next bytes place) 0 (drop (next bytes place) bytes)))
    → Both bytes place (grouped (records place 0 (drop place bytes)))
both_inside bytes small place inside (first, second) =
    let f = found_at bytes place in
    let past = next bytes place in
    let g = grouped (records past 0 (drop past bytes)) in
    let here : Stands bytes place past f = record { inside = inside; here = refl; narrow = λ house e. narrow_at bytes place house small e; grows = λ r e. whole_at bytes place r small inside e } in
    subst (λ rs. Both bytes place (grouped rs)) (sym (records_at bytes place inside))
    (first_step bytes place past g first second f here, second_step bytes place past g first second f here)

-- by how many bytes are left, at most
both : (bytes : List ℕ) → IsBytes bytes → (left place : ℕ) → length bytes ≤ place + left → Both bytes place (grouped (records place 0 (drop place bytes)))
both bytes small zero place h = both_end bytes place (omega arith)
both bytes small (suc left) place h =
    ⊎_elim (λ inside. both_inside bytes small place inside (both bytes small left (next bytes place) (omega arith))) (both_end bytes place)
    (cases_lt place (length bytes))

no_file : file empty_ledger.contents ≡ []
no_file = ap (λ rs. flat_map record_bytes (rs ++ [])) (flat_no_numbers {A = Record} (λ _. []) (λ j h. refl))

says : (bytes : List ℕ) → IsBytes bytes → Outcome bytes (reading bytes)
says bytes small = (both bytes small (length bytes) 0 (omega arith)).0 empty_ledger good_empty no_file

-- accepted bytes are the file of the sheet that was read, and as many of its places are used as terms are live
pub read_ok : (bytes : List ℕ) (l : Ledger) → IsBytes bytes → reading bytes ≡ Ok l
    → IsSheet l × (file l.contents ≡ bytes) × Packed l
read_ok bytes l small e = let r = subst (Outcome bytes) e (says bytes small) in (is_sheet l r.good, r.same, packed l r.good)

-- no fault is missed
pub read_err : (bytes : List ℕ) (e : FileRefusal) → IsBytes bytes → reading bytes ≡ Err e → FaultShown bytes e
read_err bytes e small h = subst (Outcome bytes) h (says bytes small)
