-- The line-ups of n spots are all groups of them, in order.
use Rattle.std.proofs.Common.{◌≡◌, ℕ, zero, suc, ◌+◌, ◌*◌, ◌/◌, ◌%◌, ◌^◌, ◌<◌, Bool, List, [], ◌∷◌, ◌++◌, map, filter, sym, ap, ◌∙◌, ap₂, subst, ⊎_elim, pow-suc, arith}
use Rattle.std.specs.List.{AllByRecursion, AllPairs, Contains}
use Rattle.std.proofs.lemmas.List.{get_or-map, length-map}
use Rattle.std.proofs.lemmas.List.Elements.{Contains-append_left, Contains-append_right}
use Rattle.std.proofs.lemmas.Nat.{mod-pow-add}
use Rattle.std.proofs.lemmas.Bool.Decides.{nat_tests}
use Rattle.std.proofs.lemmas.Bool.{cases_lt, cond_both}
use Rattle.std.proofs.ByRecursion.{All-weaker, All-append, All-map, All-get_or, all_kept_by}
use Rattle.terms.specs.Groups.{holds}
use Rattle.terms.proofs.Says.{holds_half}
use Rattle.elimination.specs.Lawful.{line_ups}
use Rattle.solutions.specs.Runs.{Before, InOrder}

half_mod : (z i : ℕ) → z % 2 ^ suc i ≡ 2 * (z / 2 % 2 ^ i) + z % 2
half_mod z i = grind (arith, mod-pow-add z i 1)

-- spot 0 in front of two line-ups, in both or in neither
before_more : (w z x y : ℕ) → w / 2 ≡ x → z / 2 ≡ y → w % 2 ≡ z % 2 → Before x y → Before w z
before_more w z x y half_w half_z lowest (i, same, off, on) = (
  suc i,
  half_mod w i
      ∙ ap₂ (λ a b. 2 * a + b) (ap (λ v. v % 2 ^ i) half_w ∙ same ∙ sym (ap (λ v. v % 2 ^ i) half_z)) lowest
      ∙ sym (half_mod z i),
  sym (holds_half w i) ∙ ap (λ v. holds v i) half_w ∙ off,
  sym (holds_half z i) ∙ ap (λ v. holds v i) half_z ∙ on,
)

-- without spot 0 before with it
before_first : (x y : ℕ) → Before (2 * x) (2 * y + 1)
before_first x y = (0, omega arith, grind (arith, nat_tests), grind (arith, nat_tests))

-- each comes before those that stand later
abbrev pub Ordered : List ℕ → Type 0
Ordered [] = Unit {0}
Ordered (x ∷ xs) = AllByRecursion (Before x) xs × Ordered xs

ordered_map : (f : ℕ → ℕ) → ((x y : ℕ) → Before x y → Before (f x) (f y)) → (xs : List ℕ) → Ordered xs → Ordered (map f xs)
ordered_map f keeps [] h = tt
ordered_map f keeps (x ∷ xs) h =
    (All-map (Before (f x)) f xs (All-weaker (Before x) (λ y. Before (f x) (f y)) (keeps x) xs h.0), ordered_map f keeps xs h.1)

ordered_append : (xs ys : List ℕ) → Ordered xs → Ordered ys → AllByRecursion (λ x. AllByRecursion (Before x) ys) xs → Ordered (xs ++ ys)
ordered_append [] ys left right across = right
ordered_append (x ∷ xs) ys left right across = (All-append (Before x) xs ys left.0 across.0, ordered_append xs ys left.1 right across.1)

pub ordered_kept : (p : ℕ → Bool) (xs : List ℕ) → Ordered xs → Ordered (filter p xs)
ordered_kept p [] h = tt
ordered_kept p (x ∷ xs) h =
    cond_both (p x) (x ∷ filter p xs) (filter p xs) Ordered (λ e. (all_kept_by p (Before x) xs h.0, ordered_kept p xs h.1)) (λ e. ordered_kept p xs h.1)

all_of : (P : ℕ → Type 0) → ((x : ℕ) → P x) → (xs : List ℕ) → AllByRecursion P xs
all_of P each [] = tt
all_of P each (x ∷ xs) = (each x, all_of P each xs)

pub ordered_line_ups : (n : ℕ) → Ordered (line_ups n)
ordered_line_ups zero = (tt, tt)
ordered_line_ups (suc n) =
    let rest = ordered_line_ups n in
    let evens = map (λ x. 2 * x) (line_ups n) in
    let odds = map (λ x. 2 * x + 1) (line_ups n) in
    ordered_append evens odds
    (ordered_map (λ x. 2 * x) (λ x y h. before_more (2 * x) (2 * y) x y (omega arith) (omega arith) (omega arith) h) (line_ups n) rest)
    (ordered_map (λ x. 2 * x + 1) (λ x y h. before_more (2 * x + 1) (2 * y + 1) x y (omega arith) (omega arith) (omega arith) h) (line_ups n) rest)
    (All-map (λ x. AllByRecursion (Before x) odds) (λ x. 2 * x) (line_ups n)
    (all_of (λ x. AllByRecursion (Before (2 * x)) odds)
    (λ x. All-map (Before (2 * x)) (λ y. 2 * y + 1) (line_ups n) (all_of (λ y. Before (2 * x) (2 * y + 1)) (before_first x) (line_ups n))) (line_ups n)))

ordered_pairs : (xs : List ℕ) → Ordered xs → AllPairs Before xs
ordered_pairs [] h i j d l within = absurd (omega arith)
ordered_pairs (x ∷ xs) h i zero d l within = absurd (omega arith)
ordered_pairs (x ∷ xs) h zero (suc j) d l within = All-get_or (Before x) xs j d (omega arith) h.0
ordered_pairs (x ∷ xs) h (suc i) (suc j) d l within = ordered_pairs xs h.1 i j d (omega arith) (omega arith)

pub line_ups_below : (n : ℕ) → AllByRecursion (λ x. x < 2 ^ n) (line_ups n)
line_ups_below zero = (omega arith, tt)
line_ups_below (suc n) =
    let below = line_ups_below n in
    All-append (λ x. x < 2 ^ suc n) (map (λ x. 2 * x) (line_ups n)) (map (λ x. 2 * x + 1) (line_ups n))
    (All-map (λ x. x < 2 ^ suc n) (λ x. 2 * x) (line_ups n)
    (All-weaker (λ x. x < 2 ^ n) (λ x. 2 * x < 2 ^ suc n) (λ x l. omega (arith, pow-suc 2 n)) (line_ups n) below))
    (All-map (λ x. x < 2 ^ suc n) (λ x. 2 * x + 1) (line_ups n)
    (All-weaker (λ x. x < 2 ^ n) (λ x. 2 * x + 1 < 2 ^ suc n) (λ x l. omega (arith, pow-suc 2 n)) (line_ups n) below))

contains_map : (f : ℕ → ℕ) (xs : List ℕ) (x : ℕ) → Contains xs x → Contains (map f xs) (f x)
contains_map f xs x (i, l, same) =
    (i, omega (arith, length-map xs f), get_or-map f xs i x (f x) l ∙ ap f same)

each_line_up : (n x : ℕ) → x < 2 ^ n → Contains (line_ups n) x
each_line_up zero x l = (0, omega arith, omega arith)
each_line_up (suc n) x l =
    let evens = map (λ y. 2 * y) (line_ups n) in
    let odds = map (λ y. 2 * y + 1) (line_ups n) in
    let half = each_line_up n (x / 2) (omega (arith, pow-suc 2 n)) in
    ⊎_elim
    (λ h. subst (Contains (evens ++ odds)) (omega arith) (Contains-append_left evens odds (2 * (x / 2)) (contains_map (λ y. 2 * y) (line_ups n) (x / 2) half)))
    (λ h. subst (Contains (evens ++ odds)) (omega arith) (Contains-append_right evens odds (2 * (x / 2) + 1) (contains_map (λ y. 2 * y + 1) (line_ups n) (x / 2) half)))
    (cases_lt (x % 2) 1)

pub in_order : InOrder
in_order n = (
  λ x. (
    λ (k, l, same). subst (λ y. y < 2 ^ n) same (All-get_or (λ y. y < 2 ^ n) (line_ups n) k x l (line_ups_below n)),
    each_line_up n x,
  ),
  ordered_pairs (line_ups n) (ordered_line_ups n),
)
