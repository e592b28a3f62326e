-- Sheets and histories as they are given, and what the ledger is told of them.
use Rattle.std.specs.Prelude.{◌≡◌, ℕ, true, false, cond, List, [], ◌∷◌, ◌++◌, length, take, drop, Ok, Err, Result}
use Rattle.std.specs.List.{FoldsTo}
use Rattle.terms.specs.declared.refusals.Refusal.{Refusal}
use Rattle.sheet.specs.declared.states.SheetState.{Ghosts}
use Rattle.sheet.specs.declared.states.DraftState.{DraftState}
use Rattle.sheet.specs.declared.states.LockedState.{LockedState}
use Rattle.sheet.specs.declared.states.SheetIn.{SheetIn}
use Rattle.sheet.specs.declared.states.Sheet.{Sheet}
use Rattle.sheet.specs.declared.states.Sheet.TheVariants as sheets
use Rattle.sheet.specs.declared.bookings.Booking.{Booking}
use Rattle.sheet.specs.declared.bookings.Booking.TheVariants.{Declare, Post, Price, Withdraw, Lock, Unlock}
use Rattle.sheet.specs.declared.bookings.Answer.{Answer}
use Rattle.sheet.specs.declared.bookings.Answer.TheVariants.{Spot, Done, Refused, PassedOver}
use Rattle.sheet.specs.declared.questions.Rule.{Rule}
use Rattle.sheet.specs.Ledger.{Ledger, LiveRule, Call, Declares, Posts, Prices, Withdraws, Locks, Unlocks, posting, allowed, step}
use Rattle.sheet.specs.Ledger.{declare_answer, post_answer, price_answer, withdraw_answer}
use Rattle.sheet.specs.Of.{ledger}

-- the ledger of a sheet in a state
abbrev pub ledger_in : {S : Type 0} {state : Ghosts S} → SheetIn S state → Ledger
ledger_in {S} {state} s = ledger s.book state.locked

abbrev pub Draft : Type 0
Draft = SheetIn DraftState (record { locked = false })

abbrev pub Locked : Type 0
Locked = SheetIn LockedState (record { locked = true })

abbrev pub draft_ledger : Draft → Ledger
draft_ledger d = ledger_in d

abbrev pub locked_ledger : Locked → Ledger
locked_ledger s = ledger_in s

abbrev pub sheet_ledger : Sheet → Ledger
sheet_ledger (sheets.Draft d) = draft_ledger d
sheet_ledger (sheets.Locked s) = locked_ledger s

-- a live rule as a call shows it
abbrev pub rule_seen : Rule → LiveRule
rule_seen r = record { relation = r.relation; bound = r.bound; terms = r.terms.now }

-- the call that a booking makes
abbrev pub call : Booking → Call
call (Declare house) = Declares house
call (Post number relation bound terms) = Posts (posting number relation bound terms.now)
call (Price amount group) = Prices amount group
call (Withdraw number) = Withdraws number
call Lock = Locks
call Unlock = Unlocks

abbrev pub spot_answer : Result ℕ Refusal → Answer
spot_answer (Ok spot) = Spot spot
spot_answer (Err e) = Refused e

abbrev pub done_answer : Result (Unit {0}) Refusal → Answer
done_answer (Ok x) = Done
done_answer (Err e) = Refused e

-- the answer to a call that the sheet's state has
abbrev pub own_answer : Ledger → Call → Answer
own_answer l (Declares house) = spot_answer (declare_answer l house)
own_answer l (Posts p) = done_answer (post_answer l p)
own_answer l (Prices amount group) = done_answer (price_answer l amount group)
own_answer l (Withdraws number) = done_answer (withdraw_answer l number)
own_answer l Locks = Done
own_answer l Unlocks = Done

-- the answer to a call, in either state
abbrev pub answer_to : Ledger → Call → Answer
answer_to l c = cond (allowed l.locked c) (own_answer l c) PassedOver

-- the answers to a history's calls, where a state goes from call to call
abbrev pub answers : {S C A : Type 0} → (S → C → S) → (S → C → A) → S → List C → List A
answers next answer s [] = []
answers next answer s (c ∷ cs) = answer s c ∷ answers next answer (next s c) cs

-- the answers to a history's calls, each judged by the ledger that the calls before it tell
abbrev pub answers_to : Ledger → List Call → List Answer
answers_to l cs = answers step answer_to l cs

-- the answers written over the front of a list, as far as it reaches
abbrev pub noted : {A : Type 0} → List A → List A → List A
noted old new = take (length old) new ++ drop (length new) old

-- one call by R, which relates a state and a call to the state after it and the answer; the answer comes behind those before it
abbrev pub Answered : {S C A : Type 0} → (S → C → S → A → Type 0) → S × List A → C → S × List A → Type 0
Answered {A} R p c q = (a : A) × R p.0 c q.0 a × (q.1 ≡ p.1 ++ a ∷ [])

-- calls made in their order, each on the state that the one before it leads to, with their answers noted
pub record Replays {S C A : Type 0} (R : S → C → S → A → Type 0) (start : S) (calls : List C) (end : S) (old new : List A) : Type 0 where
  pub given : List A
  pub made : FoldsTo (Answered R) (start, []) calls (end, given)
  pub written : new ≡ noted old given
