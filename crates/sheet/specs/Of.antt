-- The ledger of a book.
use Rattle.std.specs.Prelude.{ℕ, ◌+◌, Bool, false, List, map, None, slice_index_or}
use Rattle.std.specs.Option.{option_map}
use Rattle.std.specs.List.{between}
use Rattle.arrayvec.specs.ArrayVec.{ArrayVec}
use Rattle.sheet.specs.declared.postings.Posting as postings
use Rattle.sheet.specs.declared.book.Places.{Places}
use Rattle.sheet.specs.declared.book.Placed.{Placed}
use Rattle.sheet.specs.declared.book.Book.{Book}
use Rattle.sheet.specs.Ledger.{Place, Ledger, Contents, LiveRule, Run, Posting, posting}
use Rattle.sheet.specs.Layout.{place_of}

-- the house numbers in the order of declaration
abbrev pub houses_of : ArrayVec ℕ → List ℕ
houses_of s = s.items

-- each place, empty or used
abbrev pub places_of : Places → List Place
places_of p = map place_of p.table

-- the rule that lies in a run of places
abbrev pub live_rule : Places → Placed → LiveRule
live_rule p r = record { relation = r.relation; bound = r.bound; terms = between r.run.start (r.run.start + r.run.count) p.table }

abbrev pub run_of : Placed → Run
run_of r = record { from = r.run.start; count = r.run.count }

abbrev pub contents_of : Book → Contents
contents_of b = record {
  houses = houses_of b.spots;
  rules = λ n. option_map (live_rule b.places) (slice_index_or b.rules n None);
  prices = b.prices;
}

-- the arguments of a post as the ledger has them
abbrev pub posting_of : postings.Posting → Posting
posting_of p = posting p.number p.relation p.bound p.terms.now

-- the ledger of a book, locked or not
abbrev pub ledger : Book → Bool → Ledger
ledger b locked = record {
  contents = contents_of b;
  places = places_of b.places;
  runs = λ n. option_map run_of (slice_index_or b.rules n None);
  locked = locked;
}

-- the ledger of a book that is not locked
abbrev pub book_ledger : Book → Ledger
book_ledger b = ledger b false
