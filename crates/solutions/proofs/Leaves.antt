-- The listed line-ups as the leaves of a tree, which branches at each spot where both values are open.
use Rattle.std.proofs.Common.{◌≡◌, ℕ, suc, ◌+◌, ◌*◌, ◌%◌, ◌^◌, ◌<◌, Bool, true, false, cond, eqb, List, [], ◌∷◌, ◌++◌, map, length, get_or, drop, filter, sym, refl, ap, ◌∙◌, ap₂, append-nil, pow-suc, arith}
use Rattle.std.proofs.lemmas.List.{map-append}
use Rattle.std.proofs.lemmas.List.Elements.{filter-append}
use Rattle.std.proofs.lemmas.Nat.{mod_low}
use Rattle.std.proofs.lemmas.Bool.{true≢false, false≢true, cond-true, cond-false, eq-eqb, ne_eqb}
use Rattle.std.proofs.Math.Nat.{mod-eq_of_lt}
use Rattle.terms.specs.Groups.{holds, size}
use Rattle.terms.specs.Packing.{packed}
use Rattle.terms.proofs.Says.{holds_mod}
use Rattle.elimination.specs.declared.codes.Code.{Code}
use Rattle.elimination.specs.declared.codes.Code.TheVariants.{Out, In, Free, Dead}
use Rattle.elimination.specs.Lawful.{line_ups}
use Rattle.elimination.specs.Codes.{code_of, taken, with_spot}
use Rattle.elimination.proofs.Prefixes.{with_mod, with_below, with_top, prefix_of_prefix}
use Rattle.solutions.specs.Walks.{walk_from, listing, listed}

-- ---- Walks

-- the walk goes on from its prefix
walk_prefix : (ms bytes : List ℕ) (s k x : ℕ) → x < 2 ^ k → walk_from ms bytes s k x % 2 ^ k ≡ x
walk_prefix [] bytes s k x h = mod-eq_of_lt h
walk_prefix (m ∷ ms) bytes s k x h =
    let b = taken (code_of (get_or bytes (packed m x) 0)) (holds s k) in
    let y = with_spot k x b in
    let rest = walk_prefix ms (drop (2 ^ size m) bytes) s (suc k) y (with_below k x b h) in
    sym (prefix_of_prefix k (walk_from ms (drop (2 ^ size m) bytes) s (suc k) y)) ∙ ap (λ z. z % 2 ^ k) rest ∙ with_mod k x b h

-- what spot k is taken as stays
pub walk_spot : (ms bytes : List ℕ) (s k x : ℕ) (b : Bool) → x < 2 ^ k → holds (walk_from ms bytes s (suc k) (with_spot k x b)) k ≡ b
walk_spot ms bytes s k x b h =
    sym (holds_mod (suc k) (walk_from ms bytes s (suc k) (with_spot k x b)) k (omega arith))
    ∙ ap (λ z. holds z k) (walk_prefix ms bytes s (suc k) (with_spot k x b) (with_below k x b h)) ∙ with_top k x b h

-- ---- The leaves

-- what is listed below a spot, by the code of its cell: what is listed without it, and with it
abbrev pub branches : Code → List ℕ → List ℕ → List ℕ
branches Out without running = without
branches In without running = running
branches Free without running = without ++ running
branches Dead without running = without

-- the line-ups that are listed and go on from x
abbrev pub leaves : List ℕ → List ℕ → ℕ → ℕ → List ℕ
leaves [] bytes k x = x ∷ []
leaves (m ∷ ms) bytes k x =
    branches (code_of (get_or bytes (packed m x) 0)) (leaves ms (drop (2 ^ size m) bytes) (suc k) (with_spot k x false))
    (leaves ms (drop (2 ^ size m) bytes) (suc k) (with_spot k x true))

-- the line-ups of n spots more that go on from x
abbrev going_on : ℕ → ℕ → ℕ → List ℕ
going_on n k x = map (λ z. z * 2 ^ k + x) (line_ups n)

map_through : (f g h : ℕ → ℕ) → ((z : ℕ) → f (g z) ≡ h z) → (zs : List ℕ) → map f (map g zs) ≡ map h zs
map_through f g h same [] = refl
map_through f g h same (z ∷ zs) = ap₂ (λ y ys. y ∷ ys) (same z) (map_through f g h same zs)

map_itself : (f : ℕ → ℕ) → ((z : ℕ) → f z ≡ z) → (zs : List ℕ) → map f zs ≡ zs
map_itself f same [] = refl
map_itself f same (z ∷ zs) = ap₂ (λ y ys. y ∷ ys) (same z) (map_itself f same zs)

-- first those without spot k, then those with it
split : (n k x : ℕ) → going_on (suc n) k x ≡ going_on n (suc k) (with_spot k x false) ++ going_on n (suc k) (with_spot k x true)
split n k x =
    let on : ℕ → ℕ = λ z. z * 2 ^ k + x in
    map-append on (map (λ z. 2 * z) (line_ups n)) (map (λ z. 2 * z + 1) (line_ups n))
    ∙ ap₂ (λ a b. a ++ b)
    (map_through on (λ z. 2 * z) (λ z. z * 2 ^ suc k + with_spot k x false) (λ z. rw (pow-suc 2 k) (omega arith)) (line_ups n))
    (map_through on (λ z. 2 * z + 1) (λ z. z * 2 ^ suc k + with_spot k x true) (λ z. rw (pow-suc 2 k) (omega arith)) (line_ups n))

filter_same : (p q : ℕ → Bool) (f : ℕ → ℕ) → ((z : ℕ) → p (f z) ≡ q (f z)) → (zs : List ℕ) → filter p (map f zs) ≡ filter q (map f zs)
filter_same p q f same [] = refl
filter_same p q f same (z ∷ zs) = ap₂ (λ b rest. cond b (f z ∷ rest) rest) (same z) (filter_same p q f same zs)

filter_none : (p : ℕ → Bool) (f : ℕ → ℕ) → ((z : ℕ) → p (f z) ≡ false) → (zs : List ℕ) → filter p (map f zs) ≡ []
filter_none p f none [] = refl
filter_none p f none (z ∷ zs) = cond-false (p (f z)) (f z ∷ filter p (map f zs)) (filter p (map f zs)) (none z) ∙ filter_none p f none zs

-- the line-ups of the spots from k on that are the walks of themselves from x, where spot k has the code c
abbrev own : List ℕ → List ℕ → ℕ → ℕ → Code → Bool → List ℕ
own ms bytes k x c b =
    filter (λ y. eqb (walk_from ms bytes y (suc k) (with_spot k x (taken c (holds y k)))) y) (going_on (length ms) (suc k) (with_spot k x b))

module _ (ms bytes : List ℕ) (k x : ℕ) (h : x < 2 ^ k) (c : Code) (b : Bool) where
  -- a line-up that goes on with spot k has it so
  on_spot : (z : ℕ) → holds (z * 2 ^ suc k + with_spot k x b) k ≡ b
  on_spot z =
      sym (holds_mod (suc k) (z * 2 ^ suc k + with_spot k x b) k (omega arith))
      ∙ ap (λ v. holds v k) (mod_low z (suc k) (with_spot k x b) (with_below k x b h)) ∙ with_top k x b h

  passes : taken c b ≡ b
      → filter (λ y. eqb (walk_from ms bytes y (suc k) (with_spot k x b)) y) (going_on (length ms) (suc k) (with_spot k x b)) ≡ leaves ms bytes (suc k) (with_spot k x b)
      → own ms bytes k x c b ≡ leaves ms bytes (suc k) (with_spot k x b)
  passes kept rest =
      let on : ℕ → ℕ = λ z. z * 2 ^ suc k + with_spot k x b in
      filter_same (λ y. eqb (walk_from ms bytes y (suc k) (with_spot k x (taken c (holds y k)))) y)
      (λ y. eqb (walk_from ms bytes y (suc k) (with_spot k x b)) y) on
      (λ z. ap (λ v. eqb (walk_from ms bytes (on z) (suc k) (with_spot k x v)) (on z)) (ap (taken c) (on_spot z) ∙ kept)) (line_ups (length ms))
      ∙ rest

  fails : (taken c b ≡ b → ⊥) → own ms bytes k x c b ≡ []
  fails other =
      let on : ℕ → ℕ = λ z. z * 2 ^ suc k + with_spot k x b in
      filter_none (λ y. eqb (walk_from ms bytes y (suc k) (with_spot k x (taken c (holds y k)))) y) on
      (λ z. ne_eqb (walk_from ms bytes (on z) (suc k) (with_spot k x (taken c (holds (on z) k)))) (on z)
      (λ same. other
      (sym (ap (taken c) (on_spot z)) ∙ sym (walk_spot ms bytes (on z) k x (taken c (holds (on z) k)) h) ∙ ap (λ y. holds y k) same ∙ on_spot z)))
      (line_ups (length ms))

-- both halves by the code
halves : (ms bytes : List ℕ) (k x : ℕ) → x < 2 ^ k
    → ((b : Bool) → filter (λ y. eqb (walk_from ms bytes y (suc k) (with_spot k x b)) y) (going_on (length ms) (suc k) (with_spot k x b)) ≡ leaves ms bytes (suc k) (with_spot k x b))
    → (c : Code) → own ms bytes k x c false ++ own ms bytes k x c true
    ≡ branches c (leaves ms bytes (suc k) (with_spot k x false)) (leaves ms bytes (suc k) (with_spot k x true))
halves ms bytes k x h rest Out =
    ap₂ (λ a b. a ++ b) (passes ms bytes k x h Out false refl (rest false)) (fails ms bytes k x h Out true false≢true)
    ∙ append-nil (leaves ms bytes (suc k) (with_spot k x false))
halves ms bytes k x h rest In =
    ap₂ (λ a b. a ++ b) (fails ms bytes k x h In false true≢false) (passes ms bytes k x h In true refl (rest true))
halves ms bytes k x h rest Free =
    ap₂ (λ a b. a ++ b) (passes ms bytes k x h Free false refl (rest false)) (passes ms bytes k x h Free true refl (rest true))
halves ms bytes k x h rest Dead =
    ap₂ (λ a b. a ++ b) (passes ms bytes k x h Dead false refl (rest false)) (fails ms bytes k x h Dead true false≢true)
    ∙ append-nil (leaves ms bytes (suc k) (with_spot k x false))

listed_from : (ms bytes : List ℕ) (k x : ℕ) → x < 2 ^ k
    → filter (λ y. eqb (walk_from ms bytes y k x) y) (going_on (length ms) k x) ≡ leaves ms bytes k x
listed_from [] bytes k x h =
    let same : 0 * 2 ^ k + x ≡ x = omega arith in
    cond-true (eqb x (0 * 2 ^ k + x)) ((0 * 2 ^ k + x) ∷ []) [] (eq-eqb x (0 * 2 ^ k + x) (sym same)) ∙ ap (λ y. y ∷ []) same
listed_from (m ∷ ms) bytes k x h =
    let c = code_of (get_or bytes (packed m x) 0) in
    let bytes' = drop (2 ^ size m) bytes in
    let test : ℕ → Bool = λ y. eqb (walk_from ms bytes' y (suc k) (with_spot k x (taken c (holds y k)))) y in
    ap (filter test) (split (length ms) k x)
    ∙ filter-append test (going_on (length ms) (suc k) (with_spot k x false)) (going_on (length ms) (suc k) (with_spot k x true))
    ∙ halves ms bytes' k x h (λ b. listed_from ms bytes' (suc k) (with_spot k x b) (with_below k x b h)) c

pub listing_leaves : (ms bytes : List ℕ) → listing ms bytes ≡ leaves ms bytes 0 0
listing_leaves ms bytes =
    ap (filter (listed ms bytes)) (sym (map_itself (λ z. z * 2 ^ 0 + 0) (λ z. omega arith) (line_ups (length ms)))) ∙ listed_from ms bytes 0 0 (omega arith)
