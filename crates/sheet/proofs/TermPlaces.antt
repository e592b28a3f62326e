-- The term places of a book, the first ones used and the others empty, as the ledger counts and fills them.
use Rattle.std.proofs.Common.{◌≡◌, ℕ, zero, suc, ◌+◌, ◌-◌, ◌*◌, ◌<◌, ◌≤◌, false, cond, eqb, leb, List, ◌++◌, length, get_or, replicate, sum_by, count_by, sym, refl, ap, ◌∙◌, arith}
use borrow.Rule.Slice.PartMut.{put_mid}
use Rattle.std.proofs.lemmas.List.{places, same_lists, append_assoc, length-map, length-replicate, get_or-map, get_or-replicate, take_at, drop_at, drop-drop, drop-replicate, replicate-append-replicate}
use Rattle.std.proofs.lemmas.Bool.{le-leb}
use Rattle.std.proofs.lemmas.Bool.Decides.{nat_tests}
use Rattle.std.proofs.lemmas.List.Sums.{sum_by-append, sum_by-cons}
use Rattle.terms.specs.Terms.{no_term, blank}
use Rattle.terms.specs.Tests.{any}
use Rattle.terms.specs.declared.polynomials.Term.{Term}
use Rattle.terms.proofs.Says.{any_false}
use Rattle.sheet.specs.declared.book.Places.{Places}
use Rattle.sheet.specs.Ledger.{Place, empty, used, is_used, unused, next_unused, taken, new_places}
use Rattle.sheet.specs.Limits.{place_count}
use Rattle.sheet.specs.Layout.{place_of}
use Rattle.sheet.specs.Of.{places_of}

-- the first n of the place_count places used
pub laid : ℕ → List Place
laid n = replicate n used ++ replicate (place_count - n) empty

pub get_or_laid : (n k : ℕ) (d : Place) → k < place_count → get_or (laid n) k d ≡ cond (leb n k) empty used
unfolding laid
get_or_laid n k d h = grind (arith, nat_tests, places)

place_at : (p : Places) (k : ℕ) (d : Place) → k < place_count → get_or (places_of p) k d ≡ cond (leb p.used k) empty used
place_at p k d h = get_or-map place_of p.table k no_term d (omega arith) ∙ ap (λ b. cond b empty used) (p.filled k h)

-- the table as the ledger sees it
places_laid : (p : Places) → places_of p ≡ laid p.used
unfolding laid
places_laid p =
    let sized = length-map p.table place_of in
    same_lists (places_of p) (laid p.used) (grind (arith, places))
    (λ k d h. place_at p k d (omega arith) ∙ sym (get_or_laid p.used k d (omega arith)))

sum_by_replicate : {X : Type 0} (f : X → ℕ) (n : ℕ) (x : X) → sum_by f (replicate n x) ≡ n * f x
sum_by_replicate f zero x = omega arith
sum_by_replicate f (suc n) x = omega (arith, sum_by-cons f x (replicate n x), sum_by_replicate f n x)

pub unused_laid : (n : ℕ) → unused (laid n) ≡ place_count - n
unfolding laid
unused_laid n = simp (sum_by-append, sum_by_replicate) (omega arith)

pub used_laid : (n : ℕ) → count_by is_used (laid n) ≡ n
unfolding laid
used_laid n = simp (sum_by-append, sum_by_replicate) (omega arith)

pub first_unused : (n m : ℕ) → next_unused (replicate n used ++ replicate m empty) ≡ n
first_unused zero zero = refl
first_unused zero (suc m) = refl
first_unused (suc n) m = omega (arith, first_unused n m)

pub taken_laid : (n m : ℕ) → n + m ≤ place_count → taken m (laid n) ≡ laid (n + m)
unfolding laid
taken_laid n m h =
    let ups = replicate n used in
    let sized : length ups ≡ n = length-replicate n used in
    let rest : place_count - n - m ≡ place_count - (n + m) = omega arith in
    rw (first_unused, take_at ups _ n sized, ← drop-drop m n, drop_at ups _ n sized, drop-replicate, rest, ← append_assoc, replicate-append-replicate)

pub unused_places : (p : Places) → unused (places_of p) ≡ place_count - p.used
unused_places p = ap unused (places_laid p) ∙ unused_laid p.used

pub next_places : (p : Places) → next_unused (places_of p) ≡ p.used
unfolding laid
next_places p = ap next_unused (places_laid p) ∙ first_unused p.used (place_count - p.used)

-- m places more are used
pub taken_places : (p q : Places) (m : ℕ) → q.used ≡ p.used + m → places_of q ≡ taken m (places_of p)
taken_places p q m more =
    places_laid q ∙ ap laid more ∙ sym (ap (taken m) (places_laid p) ∙ taken_laid p.used m (omega arith))

-- the places of a new book
abbrev pub untouched : Places
untouched = record {
  table = replicate place_count no_term;
  used = 0;
  size = length-replicate place_count no_term;
  few = omega arith;
  filled = λ k h. ap (λ t. eqb t.group 0) (get_or-replicate place_count k no_term no_term h) ∙ sym (le-leb 0 k (omega arith));
}

pub places_untouched : places_of untouched ≡ new_places
unfolding laid new_places
places_untouched = places_laid untouched

pub new_laid : new_places ≡ laid 0
new_laid = sym places_untouched ∙ places_laid untouched

-- the places after a write of terms into the next ones, of which ys is then read
abbrev pub appended : (p : Places) (ts ys : List Term) → ys ≡ ts → length ts ≤ unused (places_of p) → any blank ts ≡ false → Places
appended p ts ys same room named =
    let long = ap length same in
    let fits = unused_places p in
    record {
      table = put_mid p.used (p.used + length ts - p.used) p.table ys;
      used = p.used + length ts;
      size = grind (arith, places);
      few = omega arith;
      filled = λ k h.
          let low = p.filled k h in
          let new = any_false blank ts named (k - p.used) no_term in
          grind (arith, nat_tests, places);
    }
