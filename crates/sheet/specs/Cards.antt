-- Pin cards: what a card holds, which refusal a call meets, what a call does, and what a history of pins and unpins tells.
use Rattle.std.specs.Prelude.{ℕ, Bool, List, [], ◌∷◌, is_some, Some, None, fold, Option, Result, nat_le, slice_index_or}
use Rattle.terms.specs.Refusals.{Row, row, uppermost, answered, unless}
use Rattle.terms.specs.declared.refusals.Refusal.{Refusal}
use Rattle.terms.specs.declared.refusals.Refusal.TheVariants.{OffSheet}
use Rattle.sheet.specs.declared.cards.Pin.{Pin}
use Rattle.sheet.specs.declared.cards.Card.{Card}
use Rattle.sheet.specs.declared.cards.Pinning.{Pinning}
use Rattle.sheet.specs.declared.cards.Pinning.TheVariants as pinnings
use Rattle.sheet.specs.Limits.{most_spots}
use Rattle.sheet.specs.Ledger.{put}

-- the pin of each spot, where it has one
abbrev pub Pins : Type 0
Pins = ℕ → Option Pin

-- a new card
abbrev pub no_pins : Pins
no_pins = λ _. None

abbrev pub pins_of : Card → Pins
pins_of c = λ spot. slice_index_or c.pins spot None

-- the card names a spot that it pins
abbrev pub names : Pins → ℕ → Bool
names ps spot = is_some (ps spot)

-- a call with its arguments
pub data PinCall : Type 0 where
  Sets : ℕ → Pin → PinCall
  Clears : ℕ → PinCall

-- the rows of the table of refusals that can fit a call on a spot
abbrev pub spot_rows : ℕ → List Row
spot_rows spot = row (nat_le most_spots spot) OffSheet ∷ []

-- what a call answers, and what it makes of the card: nothing where a row fits
abbrev pub spot_answered : ℕ → Result (Unit {0}) Refusal
spot_answered spot = answered (uppermost (spot_rows spot)) tt

abbrev pub pinned_so : Pins → ℕ → Option Pin → Pins
pinned_so ps spot pin = unless (uppermost (spot_rows spot)) ps (put ps spot pin)

abbrev pub pin_answer : PinCall → Result (Unit {0}) Refusal
pin_answer (Sets spot pin) = spot_answered spot
pin_answer (Clears spot) = spot_answered spot

abbrev pub pin_step : Pins → PinCall → Pins
pin_step ps (Sets spot pin) = pinned_so ps spot (Some pin)
pin_step ps (Clears spot) = pinned_so ps spot None

-- the card that a history of calls tells, one call after the other, from a new card on
abbrev pub tell_pins : List PinCall → Pins
tell_pins cs = fold pin_step no_pins cs

-- the call that is given as data
abbrev pub pin_call : Pinning → PinCall
pin_call (pinnings.Pin spot pin) = Sets spot pin
pin_call (pinnings.Unpin spot) = Clears spot
