use Rattle.std.proofs.Common.{◌≡◌, true, ◌||◌, ltb, set, length, Some, None, ap, ◌∙◌, arith}
use Rattle.std.specs.List.{position}
use Rattle.std.proofs.lemmas.Bool.Decides.{nat_tests}
use Rattle.std.proofs.lemmas.Int.{ints}
use Rattle.std.proofs.lemmas.List.{length-set}
use Rattle.arrayvec.proofs.ArrayVecLemmas.{items-with_items}
use Rattle.terms.specs.Tests.{any}
use Rattle.sheet.specs.Limits.{most_prices}
use Rattle.sheet.specs.Ledger.{is_for, is_zero, with_amount}
use Rattle.sheet.proofs.PriceLists.{nothing_dropped, entry_added, room_left, apart_added, entry_dropped, entry_changed, apart_dropped, apart_changed}
use Rattle.sheet.proofs.book.PriceList.set.Goals as goal

pub invariant_of-self : goal.invariant_of-self
invariant_of-self c =
    let xs = c.self.inside.entries.items in
    let p = c.args.price in
    let at : Some c.in-Some.at ≡ position (is_for p.group) xs = rw c.self.view_is c.in-Some.ensures in
    rw c.remove.ensures.items (apart_dropped xs p c.in-Some.at at c.self.invariant)

pub returns-in-Some : goal.returns-in-Some
returns-in-Some c =
    let xs = c.self.inside.entries.items in
    let p = c.args.price in
    let at : Some c.in-Some.at ≡ position (is_for p.group) xs = rw c.self.view_is c.in-Some.ensures in
    c.remove.ensures.items
    ∙ entry_dropped xs p c.in-Some.at at c.self.invariant (grind (arith, nat_tests, ints))
    ∙ ap (λ ys. with_amount ys p.amount p.group) c.self.view_is

pub invariant_of-self-in-Some-2 : goal.invariant_of-self-in-Some-2
invariant_of-self-in-Some-2 c =
    let xs = c.self.inside.entries.items in
    let p = c.args.price in
    let lent = c.deref_mut.result.now in
    let is = c.deref_mut.ensures.value in
    let at : Some c.in-Some.at ≡ position (is_for p.group) xs = rw c.self.view_is c.in-Some.ensures in
    rw (items-with_items c.self.inside.entries (set lent c.in-Some.at p) (length-set lent c.in-Some.at p ∙ ap length is), is)
    (apart_changed xs p c.in-Some.at at c.self.invariant)

pub returns-in-Some-2 : goal.returns-in-Some-2
returns-in-Some-2 c =
    let xs = c.self.inside.entries.items in
    let p = c.args.price in
    let lent = c.deref_mut.result.now in
    let is = c.deref_mut.ensures.value in
    let at : Some c.in-Some.at ≡ position (is_for p.group) xs = rw c.self.view_is c.in-Some.ensures in
    items-with_items c.self.inside.entries (set lent c.in-Some.at p) (length-set lent c.in-Some.at p ∙ ap length is)
    ∙ ap (λ ys. set ys c.in-Some.at p) is
    ∙ entry_changed xs p c.in-Some.at at c.self.invariant (grind (arith, nat_tests, ints))
    ∙ ap (λ ys. with_amount ys p.amount p.group) c.self.view_is

pub returns-in-None : goal.returns-in-None
returns-in-None c = nothing_dropped c.args.self.now c.args.price c.in-None.ensures (grind (arith, nat_tests, ints))

pub push-requires : goal.push-requires
push-requires c =
    let xs = c.self.inside.entries.items in
    let p = c.args.price in
    let none : None ≡ position (is_for p.group) xs = rw c.self.view_is c.in-None.ensures in
    let room : (ltb (length xs) most_prices || (any (is_for p.group) xs || is_zero p.amount)) ≡ true = rw c.self.view_is c.requires in
    (omega arith, room_left xs p none room (grind (arith, nat_tests, ints)))

pub invariant_of-self-in-None-2 : goal.invariant_of-self-in-None-2
invariant_of-self-in-None-2 c =
    let xs = c.self.inside.entries.items in
    let p = c.args.price in
    let none : None ≡ position (is_for p.group) xs = rw c.self.view_is c.in-None.ensures in
    rw c.push.ensures.items (apart_added xs p none c.self.invariant)

pub returns-in-None-2 : goal.returns-in-None-2
returns-in-None-2 c =
    let xs = c.self.inside.entries.items in
    let p = c.args.price in
    let none : None ≡ position (is_for p.group) xs = rw c.self.view_is c.in-None.ensures in
    c.push.ensures.items ∙ entry_added xs p none (grind (arith, nat_tests, ints)) ∙ ap (λ ys. with_amount ys p.amount p.group) c.self.view_is
