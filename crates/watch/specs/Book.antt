-- How the book's arrays hold the paper's ledger.
use Rattle.std.specs.Prelude.{true, false, ◌≡◌, Option, None, Some, List, [], ◌∷◌, ℕ, ◌+◌, ◌≤◌, min, length, pos}
use Rattle.derivation.specs.Pad.{Padded, used}
use Rattle.paper.specs.declared.Line.{Line}
use Rattle.paper.specs.Replies.{Reply}
use Rattle.paper.specs.Ledger.{Ledger, read_reply}
use Rattle.paper.specs.declared.Reading.{Reading}
use Rattle.paper.specs.Reading.{further}
use Rattle.paper.specs.Accounts.{tail_in}
use Rattle.watch.specs.declared.Lines.{Lines}
use Rattle.watch.specs.declared.Tally.{Tally}
use Rattle.watch.specs.declared.Book.{Book}

-- what a place that holds nothing holds
abbrev pub no_line : Line
no_line = record { serial = record { 0 = 0 }; surface = record { 0 = 0 }; poc = pos 0; wants = false }

-- l holds the lines of H, in their order, and nothing else: every place behind them is blank
abbrev pub Holds : Lines → List Line → Type 0
Holds l H = Padded 17 no_line l.items l.len H

-- the lines in the used places, whatever they hold
abbrev pub view : Lines → List Line
view l = used l.len l.items

abbrev pub Good : Lines → Type 0
Good l = Holds l (view l)

-- at most 16 of them
abbrev pub clamped : Lines → Lines
clamped l = record { items = l.items; len = min l.len 16 }

abbrev pub current_in : Option Line → List Line
current_in None = []
current_in (Some e) = e ∷ []

-- The ledger that a book is, whatever it holds
abbrev pub book_in : Book → Ledger
book_in b = record { held = view (clamped b.held); current = current_in b.current; begun = b.begun; ok = true }

abbrev pub no_tally : Tally
no_tally = record { handed = 0; thrown = 0; lists = 0; refused = 0 }

-- A book in normal form that reads on with this, is this ledger, with this tally
pub record HoldsBook (b : Book) (st : Reading) (L : Ledger) (t : Tally) : Type 0 where
  pub held : Holds b.held L.held
  pub few : b.held.len ≤ 16
  pub current : current_in b.current ≡ L.current
  pub begun : b.begun ≡ L.begun
  pub tally : b.tally ≡ t
  pub reading : b.reading ≡ st

-- the tally with what a reply tells; each number stops at the greatest that 64 bits hold
abbrev pub most : ℕ
most = 18446744073709551615

unfoldable pub lists_in : Reply → ℕ
lists_in (Reply.Refused kind n) = 0
lists_in (Reply.Done kind t) = 0
lists_in (Reply.Started b t) = 0
lists_in (Reply.Listed l0 l1) = 1

unfoldable pub refused_in : Reply → ℕ
refused_in (Reply.Refused kind n) = 1
refused_in (Reply.Done kind t) = 0
refused_in (Reply.Started b t) = 0
refused_in (Reply.Listed l0 l1) = 0

unfoldable pub tallied : Tally → Reply → Tally
tallied t x =
    record {
      handed = min (t.handed + length (tail_in x).handed) most;
      thrown = min (t.thrown + length (tail_in x).thrown) most;
      lists = min (t.lists + lists_in x) most;
      refused = min (t.refused + refused_in x) most;
    }

-- with what a reply of these bytes tells, and read on behind it
abbrev pub gone_on : Book → List ℕ → Book
gone_on b a =
    record {
      held = b.held;
      current = b.current;
      begun = b.begun;
      tally = tallied b.tally (read_reply b.reading a);
      reading = further b.reading a;
    }
