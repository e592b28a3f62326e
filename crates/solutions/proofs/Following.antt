-- Which of the leaves is the first, and which follows another.
use Rattle.std.proofs.Common.{◌≡◌, ℕ, suc, ◌%◌, ◌^◌, ◌<◌, Bool, true, false, eqb, List, [], ◌∷◌, ◌++◌, get_or, drop, Some, None, Option, sym, refl, ap, ◌∙◌, le_refl, append-nil, append_assoc, pow-suc, arith}
use Rattle.std.specs.List.{AllByRecursion}
use Rattle.std.specs.Option.{option_map}
use Rattle.std.proofs.lemmas.Bool.{true≢false, false≢true, both_ways, cond-true, cond-false, eq-eqb, ne_eqb}
use Rattle.std.proofs.Math.Nat.{mod-eq_of_lt}
use Rattle.std.proofs.ByRecursion.{All-weaker, All-append}
use Rattle.terms.specs.Groups.{holds, size}
use Rattle.terms.specs.Packing.{packed}
use Rattle.terms.proofs.Says.{holds_mod, holds_beyond}
use Rattle.elimination.specs.declared.codes.Code.{Code}
use Rattle.elimination.specs.declared.codes.Code.TheVariants.{Out, In, Free, Dead}
use Rattle.elimination.specs.Codes.{code_of, taken, with_spot}
use Rattle.elimination.proofs.Prefixes.{with_mod, with_below, with_top, prefix_of_prefix}
use Rattle.solutions.specs.Walks.{walk_from, instance_of, listing, first, following}
use Rattle.solutions.specs.Turns.{turned, turns_from}
use Rattle.solutions.proofs.Leaves.{walk_spot, branches, leaves, listing_leaves}

-- ---- The first leaf

first_append : (xs ys : List ℕ) (x : ℕ) → first xs ≡ Some x → first (xs ++ ys) ≡ Some x
first_append [] ys x h = cc
first_append (z ∷ zs) ys x h = h

first_branch : (xs ys : List ℕ) (f : Bool → ℕ) → first xs ≡ Some (f false) → first ys ≡ Some (f true)
    → (c : Code) → first (branches c xs ys) ≡ Some (f (taken c false))
first_branch xs ys f off on Out = off
first_branch xs ys f off on In = on
first_branch xs ys f off on Free = first_append xs ys (f false) off
first_branch xs ys f off on Dead = off

-- the first of the leaves is the walk with no switch of the spots from k on
first_leaf : (ms bytes : List ℕ) (s k x : ℕ) → x < 2 ^ k → s < 2 ^ k → first (leaves ms bytes k x) ≡ Some (walk_from ms bytes s k x)
first_leaf [] bytes s k x h low = refl
first_leaf (m ∷ ms) bytes s k x h low =
    let c = code_of (get_or bytes (packed m x) 0) in
    let bytes' = drop (2 ^ size m) bytes in
    let f : Bool → ℕ = λ b. walk_from ms bytes' s (suc k) (with_spot k x b) in
    let below : s < 2 ^ suc k = omega (arith, pow-suc 2 k) in
    first_branch (leaves ms bytes' (suc k) (with_spot k x false)) (leaves ms bytes' (suc k) (with_spot k x true)) f
    (first_leaf ms bytes' s (suc k) (with_spot k x false) (with_below k x false h) below)
    (first_leaf ms bytes' s (suc k) (with_spot k x true) (with_below k x true h) below) c
    ∙ ap (λ b. Some (f (taken c b))) (sym (holds_beyond k s k low (le_refl k)))

-- ---- The leaf that follows

-- a longer prefix has the shorter one
shorter : (k x z : ℕ) (b : Bool) → x < 2 ^ k → z % 2 ^ suc k ≡ with_spot k x b → z % 2 ^ k ≡ x
shorter k x z b h e = sym (prefix_of_prefix k z) ∙ ap (λ y. y % 2 ^ k) e ∙ with_mod k x b h

prefix_holds : (k x z : ℕ) (b : Bool) → x < 2 ^ k → z % 2 ^ suc k ≡ with_spot k x b → holds z k ≡ b
prefix_holds k x z b h e = sym (holds_mod (suc k) z k (omega arith)) ∙ ap (λ y. holds y k) e ∙ with_top k x b h

all_branches : (P : ℕ → Type 0) (xs ys : List ℕ) → AllByRecursion P xs → AllByRecursion P ys → (c : Code) → AllByRecursion P (branches c xs ys)
all_branches P xs ys off on Out = off
all_branches P xs ys off on In = on
all_branches P xs ys off on Free = All-append P xs ys off on
all_branches P xs ys off on Dead = off

-- the leaves go on from their prefix
leaves_prefix : (ms bytes : List ℕ) (k x : ℕ) → x < 2 ^ k → AllByRecursion (λ z. z % 2 ^ k ≡ x) (leaves ms bytes k x)
leaves_prefix [] bytes k x h = (mod-eq_of_lt h, tt)
leaves_prefix (m ∷ ms) bytes k x h =
    let side : Bool → List ℕ = λ b. leaves ms (drop (2 ^ size m) bytes) (suc k) (with_spot k x b) in
    let each : (b : Bool) → AllByRecursion (λ z. z % 2 ^ k ≡ x) (side b) = λ b.
    All-weaker (λ z. z % 2 ^ suc k ≡ with_spot k x b) (λ z. z % 2 ^ k ≡ x) (λ z e. shorter k x z b h e) (side b)
    (leaves_prefix ms (drop (2 ^ size m) bytes) (suc k) (with_spot k x b) (with_below k x b h)) in
    all_branches (λ z. z % 2 ^ k ≡ x) (side false) (side true) (each false) (each true) (code_of (get_or bytes (packed m x) 0))

following_past : (xs ys : List ℕ) (y : ℕ) → AllByRecursion (λ z. eqb z y ≡ false) xs → following (xs ++ ys) y ≡ following ys y
following_past [] ys y each = refl
following_past (x ∷ xs) ys y each = cond-false (eqb x y) (first (xs ++ ys)) (following (xs ++ ys) y) each.0 ∙ following_past xs ys y each.1

-- `whole` is the walk from spot 0 on; it leads to x, whatever the switches from spot k on
abbrev Leads : (ℕ → ℕ) → List ℕ → List ℕ → ℕ → ℕ → Type 0
Leads whole ms bytes k x = (s : ℕ) → s % 2 ^ k ≡ x → whole s ≡ walk_from ms bytes s k x

-- what follows y among the leaves below a prefix and what stands later is the walk of the last turn, where this is so of what stands later alone
abbrev Follows : (ℕ → ℕ) → ℕ → List ℕ → List ℕ → ℕ → ℕ → Type 0
Follows whole y ms bytes k x =
    (later : List ℕ) (t : Option ℕ) → Leads whole ms bytes k x → walk_from ms bytes y k x ≡ y → first later ≡ option_map whole t
    → following (leaves ms bytes k x ++ later) y ≡ option_map whole (turns_from ms bytes y k x t)

module _ (whole : ℕ → ℕ) (y : ℕ) (ms bytes : List ℕ) (k x : ℕ) (h : x < 2 ^ k) (later : List ℕ) (t : Option ℕ) where
  -- the walk to spot k leads on where the code takes the switch as it is
  leads_on : (c : Code) (b : Bool) → ((s : ℕ) → s % 2 ^ k ≡ x → whole s ≡ walk_from ms bytes s (suc k) (with_spot k x (taken c (holds s k))))
      → taken c b ≡ b → Leads whole ms bytes (suc k) (with_spot k x b)
  leads_on c b leads kept s e =
      leads s (shorter k x s b h e)
      ∙ ap (λ v. walk_from ms bytes s (suc k) (with_spot k x v)) (ap (taken c) (prefix_holds k x s b h e) ∙ kept)

  at_code : (c : Code) (b : Bool) → ((b : Bool) → Follows whole y ms bytes (suc k) (with_spot k x b))
      → ((s : ℕ) → s % 2 ^ k ≡ x → whole s ≡ walk_from ms bytes s (suc k) (with_spot k x (taken c (holds s k))))
      → taken c b ≡ b → walk_from ms bytes y (suc k) (with_spot k x (taken c b)) ≡ y → first later ≡ option_map whole t
      → following (branches c (leaves ms bytes (suc k) (with_spot k x false)) (leaves ms bytes (suc k) (with_spot k x true)) ++ later) y
      ≡ option_map whole (turns_from ms bytes y (suc k) (with_spot k x (taken c b)) (turned c b k x t))
  at_code Out false rest leads kept own next = rest false later t (leads_on Out false leads kept) own next
  at_code Out true rest leads kept own next = absurd (false≢true kept)
  at_code In false rest leads kept own next = absurd (true≢false kept)
  at_code In true rest leads kept own next = rest true later t (leads_on In true leads kept) own next
  at_code Dead false rest leads kept own next = rest false later t (leads_on Dead false leads kept) own next
  at_code Dead true rest leads kept own next = absurd (false≢true kept)
  at_code Free false rest leads kept own next =
      let s = with_spot k x true in
      let low : s < 2 ^ suc k = with_below k x true h in
      let turn = leads s (with_mod k x true h) ∙ ap (λ v. walk_from ms bytes s (suc k) (with_spot k x v)) (with_top k x true h) in
      ap (λ l. following l y) (append_assoc (leaves ms bytes (suc k) (with_spot k x false)) (leaves ms bytes (suc k) s) later)
      ∙ rest false (leaves ms bytes (suc k) s ++ later) (Some s) (leads_on Free false leads kept) own
      (first_append (leaves ms bytes (suc k) s) later (whole s) (first_leaf ms bytes s (suc k) s low low ∙ ap Some (sym turn)))
  at_code Free true rest leads kept own next =
      let without = leaves ms bytes (suc k) (with_spot k x false) in
      let running = leaves ms bytes (suc k) (with_spot k x true) in
      let on = sym (ap (λ v. holds v k) own) ∙ walk_spot ms bytes y k x true h in
      ap (λ l. following l y) (append_assoc without running later)
      ∙ following_past without (running ++ later) y
      (All-weaker (λ z. z % 2 ^ suc k ≡ with_spot k x false) (λ z. eqb z y ≡ false)
      (λ z e. ne_eqb z y (λ same. both_ways (holds y k) (sym (ap (λ v. holds v k) same) ∙ prefix_holds k x z false h e) on)) without
      (leaves_prefix ms bytes (suc k) (with_spot k x false) (with_below k x false h)))
      ∙ rest true later t (leads_on Free true leads kept) own next

follows : (whole : ℕ → ℕ) (y : ℕ) (ms bytes : List ℕ) (k x : ℕ) → x < 2 ^ k → Follows whole y ms bytes k x
follows whole y [] bytes k x h later t leads own next = cond-true (eqb x y) (first later) (following later y) (eq-eqb x y own) ∙ next
follows whole y (m ∷ ms) bytes k x h later t leads own next =
    let c = code_of (get_or bytes (packed m x) 0) in
    let bytes' = drop (2 ^ size m) bytes in
    let kept = sym (walk_spot ms bytes' y k x (taken c (holds y k)) h) ∙ ap (λ v. holds v k) own in
    at_code whole y ms bytes' k x h later t c (holds y k) (λ b. follows whole y ms bytes' (suc k) (with_spot k x b) (with_below k x b h)) leads kept own next

-- ---- The listing

pub first_listed : (ms bytes : List ℕ) → first (listing ms bytes) ≡ Some (instance_of ms bytes 0)
first_listed ms bytes = ap first (listing_leaves ms bytes) ∙ first_leaf ms bytes 0 0 0 (omega arith) (omega arith)

pub following_listed : (ms bytes : List ℕ) (y : ℕ) → instance_of ms bytes y ≡ y
    → following (listing ms bytes) y ≡ option_map (instance_of ms bytes) (turns_from ms bytes y 0 0 None)
following_listed ms bytes y own =
    ap (λ l. following l y) (listing_leaves ms bytes ∙ sym (append-nil (leaves ms bytes 0 0)))
    ∙ follows (instance_of ms bytes) y ms bytes 0 0 (omega arith) [] None (λ s e. refl) own refl
