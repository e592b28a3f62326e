-- The pieces of a file: its spots, its rules with their terms, and its prices, each at its place.
use Rattle.std.specs.Prelude.{ℕ, List, [], ◌∷◌, ◌++◌, map, Some, None, Option}
use Rattle.std.specs.List.{filter_map}
use Rattle.terms.specs.declared.polynomials.Term.{Term}
use Rattle.sheet.specs.declared.prices.Price.{Price}
use Rattle.sheet_file.specs.declared.kinds.Kind.TheVariants as kinds
use Rattle.sheet_file.specs.Records.{Head, SpotRecord, RuleRecord, TermRecord, PriceRecord, Found, Whole, Cut, Placed, records}

-- a term's record with its place; none where it is cut
pub record PlacedTerm : Type 0 where
  pub place : ℕ
  pub term : Option Term

-- the whole ones
abbrev pub whole_terms : List PlacedTerm → List Term
whole_terms ts = filter_map (λ t. t.term) ts

-- a piece of a file at a place: a spot, a rule with all the terms that follow it at once, a price, or a record that is at fault whatever the sheet
pub data Piece : Type 0 where
  SpotPiece : ℕ → ℕ → Piece
  RulePiece : ℕ → Head → List PlacedTerm → Piece
  PricePiece : ℕ → Price → Piece
  Faulty : ℕ → Piece

-- records in groups: the terms that stand at their head, which belong to a rule if it stands right before them, and the pieces behind
pub record Grouped : Type 0 where
  pub lead : List PlacedTerm
  pub pieces : List Piece

-- the pieces of records that no rule stands right before
abbrev pub all_pieces : Grouped → List Piece
all_pieces g = map (λ t. Faulty t.place) g.lead ++ g.pieces

-- a term at a place before the others
abbrev pub with_term : ℕ → Option Term → Grouped → Grouped
with_term place t g = record { lead = record { place = place; term = t } ∷ g.lead; pieces = g.pieces }

-- a piece before the others
abbrev pub with_piece : Piece → List Piece → Grouped
with_piece p ps = record { lead = []; pieces = p ∷ ps }

-- one record more before the others
abbrev pub joined : ℕ → Found → Grouped → Grouped
joined place (Whole (SpotRecord house)) g = with_piece (SpotPiece place house) (all_pieces g)
joined place (Whole (RuleRecord h)) g = with_piece (RulePiece place h g.lead) g.pieces
joined place (Whole (TermRecord t)) g = with_term place (Some t) g
joined place (Whole (PriceRecord p)) g = with_piece (PricePiece place p) (all_pieces g)
joined place (Cut kinds.Term) g = with_term place None g
joined place found g = with_piece (Faulty place) (all_pieces g)

-- records in groups, from the back
abbrev pub grouped : List Placed → Grouped
grouped [] = record { lead = []; pieces = [] }
grouped (p ∷ ps) = joined p.place p.found (grouped ps)

-- the pieces of a file
abbrev pub pieces : List ℕ → List Piece
pieces bytes = all_pieces (grouped (records 0 0 bytes))
