-- The rules of a book: what a write at one number leaves at every number.
use Rattle.std.proofs.Common.{◌≡◌, ℕ, zero, suc, ◌+◌, ◌<◌, ◌≤◌, eqb, List, length, get_or, take, drop, set, replicate, Some, None, Option, sym, refl, ap, ◌∙◌, ⊎_elim}
use Rattle.std.specs.Option.{option_map}
use Rattle.std.specs.List.{between}
use Rattle.std.proofs.lemmas.List.{get_or-set_same, get_or-set_other, take-take}
use Rattle.std.proofs.lemmas.Slice.{between_is}
use Rattle.std.proofs.lemmas.Bool.{cases_eq, eq-eqb, ne_eqb, cond-true, cond-false}
use Rattle.terms.specs.declared.polynomials.Term.{Term}
use Rattle.sheet.specs.declared.book.Placed.{Placed}
use Rattle.sheet.specs.declared.book.Places.{Places}
use Rattle.sheet.specs.Ledger.{put}
use Rattle.sheet.specs.Layout.{Within}
use Rattle.sheet.specs.Of.{live_rule}

-- a function of the entry at a number, after a write
pub put_set : {X Y : Type 0} (f : X → Y) (xs : List X) (n : ℕ) (x d : X) → n < length xs → (k : ℕ)
    → f (get_or (set xs n x) k d) ≡ put (λ j. f (get_or xs j d)) n (f x) k
put_set f xs n x d h k = ⊎_elim
    (λ e. ap (λ j. f (get_or (set xs n x) j d)) e ∙ ap f (get_or-set_same xs n x d h) ∙ sym (cond-true (eqb k n) (f x) (f (get_or xs k d)) (eq-eqb k n e)))
    (λ e. ap f (get_or-set_other xs n k x d e) ∙ sym (cond-false (eqb k n) (f x) (f (get_or xs k d)) (ne_eqb k n e)))
    (cases_eq k n)

-- the functions agree away from the number
put_same : {X : Type 0} (f g : ℕ → X) (n : ℕ) (x y : X) → x ≡ y → ((k : ℕ) → (k ≡ n → ⊥) → f k ≡ g k) → (k : ℕ) → put f n x k ≡ put g n y k
put_same f g n x y e same k = ⊎_elim
    (λ h. cond-true (eqb k n) x (f k) (eq-eqb k n h) ∙ e ∙ sym (cond-true (eqb k n) y (g k) (eq-eqb k n h)))
    (λ h. cond-false (eqb k n) x (f k) (ne_eqb k n h) ∙ same k h ∙ sym (cond-false (eqb k n) y (g k) (ne_eqb k n h)))
    (cases_eq k n)

-- terms that lie below what two tables share are the same in both
between_shared : (xs ys : List Term) (n a b : ℕ) → take n xs ≡ take n ys → b ≤ n → between a b xs ≡ between a b ys
between_shared xs ys n a b e h =
    between_is xs a b ∙ ap (drop a) (sym (take-take b n xs h) ∙ ap (take b) e ∙ take-take b n ys h) ∙ sym (between_is ys a b)

mapped_same : {X Y : Type 0} (f g : X → Y) (o : Option X) → ((x : X) → o ≡ Some x → f x ≡ g x) → option_map f o ≡ option_map g o
mapped_same f g None same = refl
mapped_same f g (Some x) same = ap Some (same x refl)

-- the live rules after one is written: the places that the others hold are as they were
pub rules_after : (rules : List (Option Placed)) (old new : Places) (n : ℕ) (r : Placed) → n < length rules → Within rules old.used
    → take old.used new.table ≡ take old.used old.table
    → (k : ℕ) → option_map (live_rule new) (get_or (set rules n (Some r)) k None)
    ≡ put (λ j. option_map (live_rule old) (get_or rules j None)) n (Some (live_rule new r)) k
rules_after rules old new n r lt within shared k =
    put_set (option_map (live_rule new)) rules n (Some r) None lt k
    ∙ put_same (λ j. option_map (live_rule new) (get_or rules j None)) (λ j. option_map (live_rule old) (get_or rules j None)) n (Some (live_rule new r))
    (Some (live_rule new r)) refl
    (λ j _. mapped_same (live_rule new) (live_rule old) (get_or rules j None) (λ s e. λ i. record {
      relation = s.relation;
      bound = s.bound;
      terms = between_shared new.table old.table old.used s.run.start (s.run.start + s.run.count) shared (within j s e) i;
    })) k

-- every place of a list of one value, and past it
pub get_or_all : {X : Type 0} (n : ℕ) (x : X) (k : ℕ) → get_or (replicate n x) k x ≡ x
get_or_all zero x k = refl
get_or_all (suc n) x zero = refl
get_or_all (suc n) x (suc k) = get_or_all n x k
