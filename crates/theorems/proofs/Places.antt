-- The remainders, cells and link sets of each spot, by its place in the list of all spots.
use Rattle.std.proofs.Common.{◌≡◌, ℕ, zero, suc, ◌+◌, ◌-◌, ◌<◌, ◌∷◌, map, length, get_or, drop, refl, ap, ap₂, ◌∙◌, sym, arith}
use Rattle.std.proofs.Math.ListN.{get_or-map}
use Rattle.std.proofs.lemmas.List.{get_or-drop}
use Rattle.elimination.specs.Lawful.{Question, spot_count}
use Rattle.elimination.specs.Links.{scopes, link_set, link_sets, link_sets_from}
use Rattle.elimination.specs.Codes.{links_of, cells_at, cells_from, cells}
use Rattle.elimination.proofs.LinkSets.{links_of_cells}
use Rattle.theorems.specs.Equation.{scope_of, remainders_from, remainders, cells_of, no_cells}

pub scopes_of_remainders : (q : Question) (n k : ℕ) → map scope_of (remainders_from q n k) ≡ link_sets_from (scopes q.contents) n k
scopes_of_remainders q zero k = refl
scopes_of_remainders q (suc n) k = ap (λ later. link_set (scopes q.contents) k later ∷ later) (scopes_of_remainders q n (suc k))

-- the remainders from place j on
dropped : (q : Question) (j m n k l : ℕ) → n ≡ j + m → l ≡ k + j → drop j (remainders_from q n k) ≡ remainders_from q m l
dropped q zero m n k l e f = ap₂ (remainders_from q) (omega arith) (omega arith)
dropped q (suc j) m zero k l e f = absurd (omega arith)
dropped q (suc j) m (suc n) k l e f = dropped q j m n (suc k) l (omega arith) (omega arith)

pub remainders_at : (q : Question) (k m : ℕ) → spot_count q.contents ≡ k + m → drop k (remainders q) ≡ remainders_from q m k
remainders_at q k m e = dropped q k m (spot_count q.contents) 0 k e (omega arith)

pub length-cells_from : (q : Question) (n k : ℕ) → length (cells_from q n k) ≡ n
length-cells_from q zero k = refl
length-cells_from q (suc n) k = ap suc (length-cells_from q n (suc k))

-- the cells from place j on
cells_dropped : (q : Question) (j m n k l : ℕ) → n ≡ j + m → l ≡ k + j → drop j (cells_from q n k) ≡ cells_from q m l
cells_dropped q zero m n k l e f = ap₂ (cells_from q) (omega arith) (omega arith)
cells_dropped q (suc j) m zero k l e f = absurd (omega arith)
cells_dropped q (suc j) m (suc n) k l e f = cells_dropped q j m n (suc k) l (omega arith) (omega arith)

-- with m spots from k on, the cells at place j of these
pub cells_there : (q : Question) (k m j : ℕ) → spot_count q.contents ≡ k + m → get_or (cells_from q m k) j no_cells ≡ cells_of q (k + j)
cells_there q k m j e =
    ap (λ cs. get_or cs j no_cells) (sym (cells_dropped q k m (spot_count q.contents) 0 k e (omega arith))) ∙ get_or-drop k (cells q) j no_cells

pub cells_of_is : (q : Question) (i m : ℕ) → spot_count q.contents ≡ i + suc m → cells_of q i ≡ cells_at q i (cells_from q m (suc i))
cells_of_is q i m e = ap (cells_of q) (omega arith) ∙ sym (cells_there q i (suc m) 0 e)

-- the link set of a spot is that of its cells
pub link_set_of : (q : Question) (i : ℕ) → get_or (link_sets q.contents) i 0 ≡ (cells_of q i).links
link_set_of q i = ap (λ ms. get_or ms i 0) (sym (links_of_cells q)) ∙ get_or-map links_of (cells q) i no_cells

-- how many spots are above a declared one
pub spots_above : (n i : ℕ) → i < n → n ≡ i + suc (n - suc i)
spots_above n i l = omega arith
