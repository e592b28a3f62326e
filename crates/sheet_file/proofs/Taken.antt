-- What is told of the rest of a file, one record further.
use Rattle.std.proofs.Common.{◌≡◌, ℕ, ◌+◌, Bool, false, leb, List, [], ◌∷◌, ◌++◌, map, length, cond, Some, None, Ok, Err, Option, Result, refl, sym, ap, ◌∙◌, append_assoc}
use Rattle.std.specs.Option.{option_or}
use Rattle.std.proofs.lemmas.List.{append-nil}
use Rattle.arrayvec.specs.ArrayVec.{ArrayVec}
use Rattle.terms.specs.Limits.{most_terms}
use Rattle.terms.specs.Refusals.{answered, uppermost}
use Rattle.terms.specs.declared.polynomials.Term.{Term}
use Rattle.terms.specs.declared.refusals.Refusal.{Refusal}
use Rattle.terms.specs.declared.refusals.Refusal.TheVariants.{Crowded}
use Rattle.sheet.specs.declared.prices.Price.{Price}
use Rattle.sheet.specs.Ledger.{Ledger, Call, Declares, Posts, Prices, Posting, posting, refusal, step}
use Rattle.sheet_file.specs.declared.faults.FileRefusal.{FileRefusal}
use Rattle.sheet_file.specs.declared.reader.OpenRule.{OpenRule}
use Rattle.sheet_file.specs.Faults.{cause}
use Rattle.sheet_file.specs.Records.{Head, SpotRecord, RuleRecord, TermRecord, PriceRecord, Whole}
use Rattle.sheet_file.specs.Pieces.{whole_terms, Faulty, Grouped, all_pieces, joined}
use Rattle.sheet_file.specs.Reading.{price_record_rows, is_late, flaw_if, caused, term_fault, unless_fault, told}
use Rattle.sheet_file.specs.ReadingSteps.{posting_with, open_fault, told_closed, told_open}

-- what a call's answer says of its refusal
pub accepted : {X : Type 0} (o : Option Refusal) (x y : X) → Ok y ≡ answered o x → o ≡ None
accepted None x y h = refl
accepted (Some e) x y h = cc

pub refused : {X : Type 0} (o : Option Refusal) (x : X) (e : Refusal) → Err e ≡ answered o x → o ≡ Some e
refused None x e h = cc
refused (Some d) x e h = let same : d ≡ e = cc in ap Some same

-- ---- A spot

pub spot_told : (l : Ledger) (place house : ℕ) (g : Grouped) → is_late l 0 ≡ false → refusal l (Declares house) ≡ None
    → told_closed l (joined place (Whole (SpotRecord house)) g) ≡ told_closed (step l (Declares house)) g
spot_told l place house g early fits =
    let behind = told (step l (Declares house)) (all_pieces g) in
    ap (λ b. unless_fault (option_or (flaw_if b place) (caused place (refusal l (Declares house)))) behind) early
    ∙ ap (λ o. unless_fault (caused place o) behind) fits

-- ---- A rule

-- a rule that opens
abbrev pub opened : ℕ → Head → ArrayVec Term → OpenRule
opened place h terms = record { place = place; number = h.number; relation = h.relation; bound = h.bound; terms = terms }

pub rule_opened : (l : Ledger) (place : ℕ) (h : Head) (g : Grouped) (terms : ArrayVec Term) → is_late l h.number ≡ false → terms.items ≡ []
    → told_closed l (joined place (Whole (RuleRecord h)) g) ≡ told_open l (opened place h terms) g
rule_opened l place h g terms early none =
    let posts : List Term → Call = λ ts. Posts (posting h.number h.relation h.bound (ts ++ whole_terms g.lead)) in
    let judged : Bool → List Term → Result Ledger FileRefusal = λ b ts.
    unless_fault (option_or (flaw_if b place) (option_or (term_fault (length ts) g.lead) (caused place (refusal l (posts ts)))))
    (told (step l (posts ts)) g.pieces) in
    ap (λ b. judged b []) early ∙ ap (judged false) (sym none)

-- ---- A term of the open rule

-- the rule with these terms so far
abbrev pub with_terms : OpenRule → ArrayVec Term → OpenRule
with_terms rule terms = record { place = rule.place; number = rule.number; relation = rule.relation; bound = rule.bound; terms = terms }

-- the call that posts it with these terms in all
abbrev posts : OpenRule → List Term → Call
posts rule ts = Posts (posting rule.number rule.relation rule.bound ts)

pub term_joined : (l : Ledger) (rule : OpenRule) (place : ℕ) (g : Grouped) (t : Term) (terms : ArrayVec Term)
    → leb most_terms (length rule.terms.items) ≡ false → terms.items ≡ rule.terms.items ++ t ∷ [] → length terms.items ≡ length rule.terms.items + 1
    → told_open l rule (joined place (Whole (TermRecord t)) g) ≡ told_open l (with_terms rule terms) g
term_joined l rule place g t terms room more long =
    let had = rule.terms.items in
    let later = whole_terms g.lead in
    let judged : Option FileRefusal → ℕ → List Term → Result Ledger FileRefusal = λ o before ts.
    unless_fault (option_or (option_or o (term_fault before g.lead)) (caused rule.place (refusal l (posts rule ts))))
    (told (step l (posts rule ts)) g.pieces) in
    ap (λ b. judged (caused place (cond b (Some Crowded) None)) (length had + 1) (had ++ t ∷ later)) room
    ∙ ap (λ n. judged None n (had ++ t ∷ later)) (sym long)
    ∙ ap (judged None (length terms.items)) (sym (append_assoc had (t ∷ []) later) ∙ ap (λ ts. ts ++ later) (sym more))

-- ---- A price

module _ (l : Ledger) (place : ℕ) (p : Price) (g : Grouped) where
  pub price_told : uppermost (price_record_rows l p) ≡ None
      → told_closed l (joined place (Whole (PriceRecord p)) g) ≡ told_closed (step l (Prices p.amount p.group)) g
  price_told fits = ap (λ o. unless_fault (caused place o) (told (step l (Prices p.amount p.group)) (all_pieces g))) fits

  pub price_refused : (e : Refusal) → uppermost (price_record_rows l p) ≡ Some e → told_closed l (joined place (Whole (PriceRecord p)) g) ≡ Err (cause place e)
  price_refused e says = ap (λ o. unless_fault (caused place o) (told (step l (Prices p.amount p.group)) (all_pieces g))) says

-- ---- The open rule is posted

-- with the terms so far
abbrev pub closed_posting : OpenRule → Posting
closed_posting rule = posting rule.number rule.relation rule.bound rule.terms.items

module _ (l : Ledger) (rule : OpenRule) (g : Grouped) (whole : g.lead ≡ []) where
  -- the rule judged with these terms, none of which is at fault
  abbrev closing : List Term → Result Ledger FileRefusal
  closing ts = unless_fault (caused rule.place (refusal l (posts rule ts))) (told (step l (posts rule ts)) g.pieces)

  closes : told_open l rule g ≡ closing rule.terms.items
  closes =
      ap (λ lead. unless_fault (open_fault l rule lead) (told (step l (Posts (posting_with rule lead))) g.pieces)) whole
      ∙ ap closing (append-nil rule.terms.items)

  pub rule_posted : refusal l (Posts (closed_posting rule)) ≡ None → told_open l rule g ≡ told_closed (step l (Posts (closed_posting rule))) g
  rule_posted fits =
      let m = step l (Posts (closed_posting rule)) in
      closes ∙ ap (λ o. unless_fault (caused rule.place o) (told m g.pieces)) fits
      ∙ ap (λ lead. told m (map (λ t. Faulty t.place) lead ++ g.pieces)) (sym whole)

  pub rule_refused : (e : Refusal) → refusal l (Posts (closed_posting rule)) ≡ Some e → told_open l rule g ≡ Err (cause rule.place e)
  rule_refused e says = closes ∙ ap (λ o. unless_fault (caused rule.place o) (told (step l (Posts (closed_posting rule))) g.pieces)) says
