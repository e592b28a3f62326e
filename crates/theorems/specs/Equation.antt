-- Elimination as an equation in pseudo-Boolean functions: penalties, their sum, and what is left of it when the higher spots are eliminated.
use Rattle.std.specs.Prelude.{◌≡◌, ◌≢◌, ◌↔◌, ℕ, zero, suc, ◌+◌, ◌-◌, ◌*◌, ◌%◌, ◌^◌, ◌<◌, ◌≤◌, Bool, true, false, cond, not, List, [], ◌∷◌, ◌++◌, map, take, drop, filter, ℤ, pos, negsuc, ◌+ℤ◌, ◌-ℤ◌, ◌*ℤ◌, Some, None, Option, ◌==◌, slice_index, slice_index_or, unsigned_abs}
use Rattle.std.specs.List.{range_with_len}
use Rattle.terms.specs.Groups.{holds, beyond, tops}
use Rattle.terms.specs.Packing.{packed}
use Rattle.terms.specs.Terms.{named, worth}
use Rattle.terms.specs.declared.polynomials.Term.{Term}
use Rattle.terms.specs.declared.relations.Relation.{Relation}
use Rattle.terms.specs.declared.relations.Relation.TheVariants.{Equal, AtMost, AtLeast}
use Rattle.sheet.specs.Ledger.{LiveRule}
use Rattle.sheet.specs.Limits.{most_spots, rule_numbers}
use Rattle.sheet.specs.Kept.{KeptContents}
use Rattle.elimination.specs.Lawful.{Question, spot_count, allows, met, lawful, some_lawful}
use Rattle.elimination.specs.Links.{rule_scope, scopes, link_set, link_sets, need}
use Rattle.elimination.specs.declared.codes.Code.TheVariants.{Out, In, Free, Dead}
use Rattle.elimination.specs.Codes.{Cells, code, code_number, taken, with_spot, cells, codes}
use Rattle.elimination.specs.Answers.{names_undeclared}

-- what is asked of a sheet and a card that names declared spots alone: the contents are as every sheet keeps them
abbrev pub Proper : Question → Type 0
Proper q = KeptContents q.contents × (names_undeclared q ≡ false)

-- 1 where it is so, else 0
abbrev pub bit : Bool → ℕ
bit b = cond b 1 0

-- ---- Penalties

-- the positive part of an integer
abbrev pub excess : ℤ → ℕ
excess (pos n) = n
excess (negsuc n) = 0

-- the penalty of a sum: of an equality the square of its distance from the bound, of an inequality how far it is on the wrong side of it
abbrev pub penalty : Relation → ℤ → ℤ → ℕ
penalty Equal bound sum = unsigned_abs (sum -ℤ bound) * unsigned_abs (sum -ℤ bound)
penalty AtMost bound sum = excess (sum -ℤ bound)
penalty AtLeast bound sum = excess (bound -ℤ sum)

-- a pseudo-Boolean function that is nowhere negative, and the group of the spots that it looks at
pub record Summand : Type 0 where
  pub scope : ℕ
  pub value : ℕ → ℕ

-- the spots that a function looks at
abbrev pub scope_of : Summand → ℕ
scope_of f = f.scope

-- the sum of functions at a line-up
abbrev pub sum_at : List Summand → ℕ → ℕ
sum_at [] x = 0
sum_at (f ∷ fs) x = f.value x + sum_at fs x

-- the penalty of the rule under a number at a line-up, 0 where no rule is live
abbrev pub rule_penalty : Option LiveRule → ℕ → ℕ
rule_penalty None x = 0
rule_penalty (Some r) x = penalty r.relation r.bound (worth r.terms x)

-- the penalty of what spot i is held to by itself, which is its pin
abbrev pub pin_penalty : Question → ℕ → ℕ → ℕ
pin_penalty q i x = bit (not (allows q i (holds x i)))

-- the penalty of a rule, which looks at the spots that the rule names
abbrev pub of_rule : Question → ℕ → Summand
of_rule q number = record { scope = rule_scope (q.contents.rules number); value = rule_penalty (q.contents.rules number) }

-- the penalty of a spot's pin, which looks at that spot
abbrev pub of_pin : Question → ℕ → Summand
of_pin q i = record { scope = 2 ^ i; value = pin_penalty q i }

-- the penalties of all rule numbers and of all spots
unfoldable pub penalties : Question → List Summand
penalties q = map (of_rule q) (range_with_len 0 rule_numbers) ++ map (of_pin q) (range_with_len 0 most_spots)

-- U: the sum of all penalties
abbrev pub penalty_sum : Question → ℕ → ℕ
penalty_sum q x = sum_at (penalties q) x

-- ---- Elimination, from the highest spot down

-- u: the sum of the penalties and the remainders whose highest spot is k, where `later` has the remainders of the higher spots
abbrev pub u_at : Question → ℕ → List Summand → ℕ → ℕ
u_at q k later y = sum_at (filter (λ f. tops k f.scope) (penalties q ++ later)) y

-- the parts of u = v · X + w · (1 - X), where X is spot k: v is u with the spot in
abbrev pub v_at : Question → ℕ → List Summand → ℕ → ℕ
v_at q k later x = u_at q k later (with_spot k x true)

-- and w is u with the spot out
abbrev pub w_at : Question → ℕ → List Summand → ℕ → ℕ
w_at q k later x = u_at q k later (with_spot k x false)

-- the remainder that spot k hands on (its message): v · w, which looks at the link set
abbrev pub remainder_at : Question → ℕ → List Summand → Summand
remainder_at q k later = record {
  scope = link_set (scopes q.contents) k (map scope_of later);
  value = λ x. v_at q k later x * w_at q k later x;
}

-- the remainders of the n spots from spot k on
abbrev pub remainders_from : Question → ℕ → ℕ → List Summand
remainders_from q zero k = []
remainders_from q (suc n) k = let later = remainders_from q n (suc k) in remainder_at q k later ∷ later

-- the remainders of all spots, spot 0 first
abbrev pub remainders : Question → List Summand
remainders q = remainders_from q (spot_count q.contents) 0

-- the remainders of the spots above spot i
abbrev pub above : Question → ℕ → List Summand
above q i = drop (suc i) (remainders q)

-- u of spot i, at a line-up of the spots up to i
abbrev pub u : Question → ℕ → ℕ → ℕ
u q i y = u_at q i (above q i) y

-- u with spot i in
abbrev pub v : Question → ℕ → ℕ → ℕ
v q i x = v_at q i (above q i) x

-- u with spot i out
abbrev pub w : Question → ℕ → ℕ → ℕ
w q i x = w_at q i (above q i) x

-- what is left when the spots from k on are eliminated: the sum of the penalties not yet eliminated and of the remainders handed on, which are
-- those that look at spots below k alone, or at none
abbrev pub left : Question → ℕ → ℕ → ℕ
left q k x = sum_at (filter (λ f. not (beyond k f.scope)) (penalties q ++ drop k (remainders q))) x

-- ---- Statements

-- a penalty is 0 exactly where the rule is met, or the pin is
abbrev pub PenaltiesSay : Type 0
PenaltiesSay =
    (q : Question) (x : ℕ) → ((number : ℕ) → (rule_penalty (q.contents.rules number) x ≡ 0) ↔ (met (q.contents.rules number) x ≡ true))
    × ((i : ℕ) → (pin_penalty q i x ≡ 0) ↔ (allows q i (holds x i) ≡ true))

-- the penalty of an inequality g ≤ 0 is 0 exactly where some slack y ≥ 0 makes g + y = 0
abbrev pub SlackSays : Type 0
SlackSays =
    (bound sum : ℤ) → ((penalty AtMost bound sum ≡ 0) ↔ ((y : ℕ) × ((sum -ℤ bound) +ℤ pos y ≡ pos 0)))
    × ((penalty AtLeast bound sum ≡ 0) ↔ ((y : ℕ) × ((bound -ℤ sum) +ℤ pos y ≡ pos 0)))

-- the sum of all penalties is 0 at a line-up of declared spots exactly when it is lawful
abbrev pub WholeSays : Type 0
WholeSays = (q : Question) (x : ℕ) → x < 2 ^ spot_count q.contents → (penalty_sum q x ≡ 0) ↔ (lawful q x ≡ true)

-- each remainder's scope is the spot's link set, and v and w look at the link set alone
abbrev pub LinksSay : Type 0
LinksSay =
    (q : Question) → Proper q → (map scope_of (remainders q) ≡ link_sets q.contents)
    × ((i x y : ℕ) → i < spot_count q.contents → x < 2 ^ i → y < 2 ^ i
    → ((j : ℕ) → holds (slice_index (link_sets q.contents) i) j ≡ true → holds x j ≡ holds y j) → (v q i x ≡ v q i y) × (w q i x ≡ w q i y))

-- u = v · X + w · (1 - X) at each line-up of the spots up to i, where X is spot i, with v and w at the line-up of the lower spots
abbrev pub SplitsSay : Type 0
SplitsSay =
    (q : Question) (i y : ℕ) → y < 2 ^ suc i → u q i y ≡ v q i (y % 2 ^ i) * bit (holds y i) + w q i (y % 2 ^ i) * (1 - bit (holds y i))

-- eliminating spot i takes u out of what is left, and puts v · w in its place
abbrev pub StepsSay : Type 0
StepsSay =
    (q : Question) → Proper q → (i y : ℕ) → i < spot_count q.contents → y < 2 ^ suc i
    → left q i (y % 2 ^ i) + u q i y ≡ left q (suc i) y + v q i (y % 2 ^ i) * w q i (y % 2 ^ i)

-- what is left at a stage is 0 at a line-up of the lower spots exactly when that extends to a zero of the sum of all penalties
abbrev pub StagesSay : Type 0
StagesSay =
    (q : Question) → Proper q → (i x : ℕ) → i ≤ spot_count q.contents → x < 2 ^ i
    → (left q i x ≡ 0) ↔ ((z : ℕ) × (z < 2 ^ spot_count q.contents) × (z % 2 ^ i ≡ x) × (penalty_sum q z ≡ 0))

-- the constant that is left when every spot is eliminated is 0 exactly when some line-up is lawful
abbrev pub LastSays : Type 0
LastSays = (q : Question) → Proper q → (left q 0 0 ≡ 0) ↔ (some_lawful q ≡ true)

-- ---- The choice table

-- stands where no spot is declared
abbrev pub no_cells : Cells
no_cells = record { links = 0; opens = λ runs x. false }

-- the cells of spot i
abbrev pub cells_of : Question → ℕ → Cells
cells_of q i = slice_index_or (cells q) i no_cells

-- The byte of each cell in the choice table is the number of its code. It stands behind the cells of the lower spots, at the packed setting.
abbrev pub BytesSay : Type 0
BytesSay =
    (q : Question) → Proper q → (i x : ℕ) → i < spot_count q.contents → x < 2 ^ i
    → slice_index (codes q) (need (take i (link_sets q.contents)) + packed (slice_index (link_sets q.contents) i) x) ≡ code_number (code (cells_of q i) x)

-- what the number of a code tells of v and w
pub record CodeTells (number v w : ℕ) : Type 0 where
  pub dead : (number ≡ code_number Dead) ↔ (v * w ≢ 0)
  pub free : (number ≡ code_number Free) ↔ ((v ≡ 0) × (w ≡ 0))
  pub out_only : (number ≡ code_number Out) ↔ ((w ≡ 0) × (v ≢ 0))
  pub in_only : (number ≡ code_number In) ↔ ((v ≡ 0) × (w ≢ 0))

-- the code in each cell tells which of v and w are 0 there, and nothing else
abbrev pub CodesSay : Type 0
CodesSay =
    (q : Question) → Proper q → (i x : ℕ) → i < spot_count q.contents → x < 2 ^ i
    → CodeTells (code_number (code (cells_of q i) x)) (v q i x) (w q i x)

-- The most general solution for X of v · X + w · (1 - X) = 0, with a switch Y: its value is [v = 0] · Y + [w ≠ 0] · (1 - Y); it is a solution
-- whatever the switch; and every solution is had, with itself as the switch.
pub record IsMostGeneral (v w : ℕ) (solution : Bool → Bool) : Type 0 where
  pub value : (Y : Bool) → bit (solution Y) ≡ bit (v == 0) * bit Y + bit (not (w == 0)) * (1 - bit Y)
  pub solves : (Y : Bool) → v * bit (solution Y) + w * (1 - bit (solution Y)) ≡ 0
  pub reached : (X : Bool) → v * bit X + w * (1 - bit X) ≡ 0 → solution X ≡ X

-- where v · w = 0, what the code in a cell takes with a switch is the most general solution
abbrev pub GeneralSays : Type 0
GeneralSays =
    (q : Question) → Proper q → (i x : ℕ) → i < spot_count q.contents → x < 2 ^ i → v q i x * w q i x ≡ 0
    → IsMostGeneral (v q i x) (w q i x) (taken (code (cells_of q i) x))

-- ---- One equality alone

-- the terms that name spot i, with the spot taken out of each group
abbrev pub factor : ℕ → List Term → List Term
factor i ts = map (λ t. record { coefficient = t.coefficient; group = t.group - 2 ^ i }) (filter (λ t. holds t.group i) ts)

-- the terms that do not name spot i
abbrev pub others : ℕ → List Term → List Term
others i ts = filter (λ t. not (holds t.group i)) ts

-- an equality read as d · X + r = 0, where X is spot i
abbrev pub d : LiveRule → ℕ → ℕ → ℤ
d rule i x = worth (factor i rule.terms) x

-- what the terms without spot i are worth, less the bound
abbrev pub r : LiveRule → ℕ → ℕ → ℤ
r rule i x = worth (others i rule.terms) x -ℤ rule.bound

-- the sum less the bound is d · X + r
abbrev pub LinearSays : Type 0
LinearSays =
    (rule : LiveRule) (i x : ℕ) (X : Bool) → holds x i ≡ false
    → worth rule.terms (with_spot i x X) -ℤ rule.bound ≡ (d rule i x *ℤ pos (bit X)) +ℤ r rule i x

-- all that spot i is judged by is this equality: of the rules it alone has its highest spot there, no pin holds the spot, and no higher spot's
-- link set has its highest spot there
pub record OnlyEquality (q : Question) (i : ℕ) (rule : LiveRule) : Type 0 where
  pub number : ℕ
  pub numbered : number < rule_numbers
  pub live : q.contents.rules number ≡ Some rule
  pub equality : rule.relation ≡ Equal
  pub highest : tops i (named rule.terms) ≡ true
  pub alone : (other : ℕ) → other < rule_numbers → tops i (rule_scope (q.contents.rules other)) ≡ true → other ≡ number
  pub unpinned : (runs : Bool) → allows q i runs ≡ true
  pub not_led_to : (k : ℕ) → i < k → k < spot_count q.contents → tops i (slice_index (link_sets q.contents) k) ≡ false

-- out is open exactly when r = 0, and in exactly when d + r = 0
abbrev pub EqualitySays : Type 0
EqualitySays =
    (q : Question) (i : ℕ) (rule : LiveRule) → i < spot_count q.contents → OnlyEquality q i rule → (x : ℕ) → x < 2 ^ i
    → (((cells_of q i).opens false x ≡ true) ↔ (r rule i x ≡ pos 0)) × (((cells_of q i).opens true x ≡ true) ↔ (d rule i x +ℤ r rule i x ≡ pos 0))
