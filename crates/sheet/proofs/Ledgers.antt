-- Ledgers that agree part by part, and the calls that no row of refusal fits.
use Rattle.std.proofs.Common.{◌≡◌, ℕ, Bool, List, Some, None, Err, Option, Result, ap, refl, arith}
use Rattle.terms.specs.Refusals.{answered, unless}
use Rattle.terms.specs.declared.refusals.Refusal.{Refusal}
use Rattle.sheet.specs.declared.prices.Price.{Price}
use Rattle.sheet.specs.Ledger.{Ledger, LiveRule, Place, Run, Call, refusal, done, made}

pub same_ledger : {h h' : List ℕ} {r r' : ℕ → Option LiveRule} {p p' : List Price} {t t' : List Place} {q q' : ℕ → Option Run} (b : Bool)
    → h ≡ h' → ((n : ℕ) → r n ≡ r' n) → p ≡ p' → t ≡ t' → ((n : ℕ) → q n ≡ q' n)
    → ◌≡◌ {A = Ledger}
    (record { contents = record { houses = h; rules = r; prices = p }; places = t; runs = q; locked = b })
    (record { contents = record { houses = h'; rules = r'; prices = p' }; places = t'; runs = q'; locked = b })
same_ledger b eh er ep et eq = λ i. record {
  contents = record { houses = eh i; rules = λ n. er n i; prices = ep i };
  places = et i;
  runs = λ n. eq n i;
  locked = b;
}

pub made_done : (l : Ledger) (c : Call) → refusal l c ≡ None → made l c ≡ done l c
made_done l c h = ap (λ e. unless e l (done l c)) h

-- a call whose check answers a refusal
unless_refused : {X : Type 0} (o : Option Refusal) (e : Refusal) (x y : X) → ◌≡◌ {A = Result (Unit {0}) Refusal} (Err e) (answered o tt) → x ≡ unless o x y
unless_refused None e x y h = absurd (grind arith)
unless_refused (Some d) e x y h = refl

pub made_none : (l : Ledger) (c : Call) (e : Refusal) → ◌≡◌ {A = Result (Unit {0}) Refusal} (Err e) (answered (refusal l c) tt) → l ≡ made l c
made_none l c e h = unless_refused (refusal l c) e l (done l c) h
