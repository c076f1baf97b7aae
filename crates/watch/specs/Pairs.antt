-- Exchanges in two runs of bytes: each whole record with the next whole reply.
use Rattle.std.specs.Prelude.{ℕ, ◌+◌, ◌≤◌, ◌<◌, ◌≡◌, List, [], ◌∷◌, true, ◌||◌, length, take, drop, get_or, eqb, Option}
use Rattle.paper.specs.Words.{all_b}
use Rattle.format.specs.Cut.{size_of, is_whole, joined}
use Rattle.paper.specs.declared.Reading.{Reading}
use Rattle.paper.specs.Reading.{further, further_all}
use Rattle.paper.specs.Ledger.{Ledger, read_reply}
use Rattle.paper.specs.Watch.{watched}
use Rattle.paper.specs.declared.Blamed.TheVariants.{Nothing}
use Rattle.paper.specs.Blame.{blamed}
use Rattle.watch.specs.Book.{book_in, HoldsBook, tallied}
use Rattle.watch.specs.declared.Tally.{Tally}
use Rattle.watch.specs.declared.Book.{Book}
use Rattle.watch.specs.declared.demand.Broken.{Broken}
use Rattle.watch.specs.declared.exchanges.Paired.{Paired}
use Rattle.watch.specs.Parts.{part_at, blamed_at}

-- the tally with what all these replies tell
unfoldable pub tally_all : Reading → Tally → List (List ℕ) → Tally
tally_all st t [] = t
tally_all st t (a ∷ answers) = tally_all (further st a) (tallied t (read_reply st a)) answers

-- the book is this ledger
pub record IsLedger (b : Book) (L : Ledger) : Type 0 where
  pub held : (book_in b).held ≡ L.held
  pub current : (book_in b).current ≡ L.current
  pub begun : (book_in b).begun ≡ L.begun

-- what `hear_all` gives back
abbrev pub paired_of : Book → ℕ → ℕ → ℕ → Option Broken → Paired
paired_of book taken answered pairs broken =
    record {
      book = book;
      taken = taken;
      answered = answered;
      pairs = pairs;
      broken = broken;
    }

-- The bytes taken are whole records and as many whole replies. `watched` finds that part in them, that many exchanges
-- in front of it, and that ledger; the tally is that of the replies in front of it, and the book reads on behind them
pub record Watches (b : Book) (records replies : List ℕ) (p : Paired) : Type 0 where
  pub said : List (List ℕ)
  pub answers : List (List ℕ)
  pub whole_said : all_b is_whole said ≡ true
  pub whole_answers : all_b is_whole answers ≡ true
  pub even : length said ≡ length answers
  pub cut_said : take p.taken records ≡ joined said
  pub cut_answers : take p.answered replies ≡ joined answers
  pub part : part_at p.broken ≡ (watched b.reading 0 (book_in b) said answers).part
  pub pairs : p.pairs ≡ (watched b.reading 0 (book_in b) said answers).at
  -- the exchange that breaks a part is the last one that is taken
  pub last : (part_at p.broken ≡ 0 → ⊥) → length said ≡ p.pairs + 1
  -- and what it names is told from it and the book in front of it; where none breaks a part, nothing is named
  pub blamed : (part_at p.broken ≡ 0 → ⊥)
      → blamed_at p.broken ≡ blamed p.book.reading (book_in p.book) (get_or said p.pairs []) (get_or answers p.pairs [])
  pub unblamed : part_at p.broken ≡ 0 → blamed_at p.broken ≡ Nothing
  pub ledger : IsLedger p.book (watched b.reading 0 (book_in b) said answers).ledger
  pub tally : p.book.tally ≡ tally_all b.reading b.tally (take p.pairs answers)
  pub reading : p.book.reading ≡ further_all b.reading (take p.pairs answers)
  -- where no exchange goes into the book, it is the one that came
  pub same : p.pairs ≡ 0 → p.book ≡ b
  -- where some do, it is in normal form
  pub normal : 0 < p.pairs
      → HoldsBook p.book (further_all b.reading (take p.pairs answers))
      (watched b.reading 0 (book_in b) said answers).ledger
      (tally_all b.reading b.tally (take p.pairs answers))

-- and where no part is broken, no whole record or no whole reply is left
pub record WatchesAll (b : Book) (records replies : List ℕ) (p : Paired) : Type 0 where
  pub watches : Watches b records replies p
  pub taken : p.taken ≤ length records
  pub answered : p.answered ≤ length replies
  pub rest : part_at p.broken ≡ 0
      → (eqb (size_of (drop p.taken records)) 0 || eqb (size_of (drop p.answered replies)) 0) ≡ true
