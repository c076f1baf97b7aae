-- The contract of `hear`.
use Rattle.std.specs.Prelude.{ℕ, ◌≡◌, List, Result, Ok, Err}
use Rattle.paper.specs.Reading.{further}
use Rattle.paper.specs.Ledger.{hear, read_reply}
use Rattle.paper.specs.Watch.{part_of}
use Rattle.watch.specs.Book.{book_in, HoldsBook, tallied}
use Rattle.watch.specs.declared.Book.{Book}
use Rattle.watch.specs.declared.demand.Part.{Part}
use Rattle.watch.specs.Parts.{part_in}

-- the book that an answer leaves: the new one, or the one that came
abbrev pub book_after : Book → Result Book Part → Book
book_after b (Ok k) = k
book_after b (Err p) = b

-- An exchange of the record r and the reply a: the part of demand 3 that it breaks; where it breaks none, a book in
-- normal form that is the paper's ledger after it, and the tally with what the reply tells, read on behind it; where it
-- breaks one, the book as it came
pub record Hears (b : Book) (r a : List ℕ) (h : Result Book Part) : Type 0 where
  pub part : part_in h ≡ part_of b.reading (book_in b) r a
  pub kept : part_of b.reading (book_in b) r a ≡ 0
      → HoldsBook (book_after b h) (further b.reading a) (hear (book_in b) r (read_reply b.reading a))
      (tallied b.tally (read_reply b.reading a))
  pub broken : (part_of b.reading (book_in b) r a ≡ 0 → ⊥) → book_after b h ≡ b
