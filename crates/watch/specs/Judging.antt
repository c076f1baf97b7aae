-- A reply against a book in normal form: the book after it, with tally and reading as they were, or the part it breaks.
use Rattle.std.specs.Prelude.{ℕ, ◌+◌, ◌*◌, ◌≤◌, ◌≡◌, List, [], ◌∷◌, Bool, true, not, ◌||◌, drop, Result, IfOk}
use Rattle.paper.specs.Words.{◌gives◌, first, any_b}
use Rattle.paper.specs.Numbers.{missing, same_serial}
use Rattle.paper.specs.Kinds.{rest_place, word_width, members_place}
use Rattle.paper.specs.Output.{Tail}
use Rattle.paper.specs.Replies.{Reply}
use Rattle.paper.specs.Ledger.{Ledger, read_begun, read_tail, read_serials, clearing, names, tell, unchanged, abandoned}
use Rattle.paper.specs.Ledger.{landed}
use Rattle.paper.specs.Watch.{reply_part, listed_part, end_part, abandon_part, landed_part}
use Rattle.paper.specs.declared.Reading.{Reading}
use Rattle.paper.specs.declared.Serial.{Serial}
use Rattle.paper.specs.declared.Line.{Line}
use Rattle.watch.specs.Book.{view, Good, current_in, HoldsBook}
use Rattle.watch.specs.Walks.{named}
use Rattle.watch.specs.declared.Book.{Book}
use Rattle.watch.specs.declared.demand.Part.{Part}
use Rattle.watch.specs.Parts.{part_in}

-- normal form
pub record Tidy (b : Book) : Type 0 where
  pub good : Good b.held
  pub few : b.held.len ≤ 16

-- the ledger that a book in normal form is
abbrev pub page_of : Book → Ledger
page_of b = record { held = view b.held; current = current_in b.current; begun = b.begun; ok = true }

-- a member is missing or one of these lines
abbrev pub calls : List Line → Serial → Bool
calls H n = same_serial n missing || any_b (named n) H

-- the last two parts of a begin whose reply has n members, of the lines that its tail leaves
abbrev pub left_part : Reading → List Line → List ℕ → ℕ → ℕ
left_part st H a n =
    first (not (clearing (read_begun (drop rest_place a))
    (read_tail st (drop (members_place + word_width * n) a)) H) gives 19
    ∷ not (names (read_serials n (drop members_place a)) H) gives 12
    ∷ [])

-- the part, or the book after it where there is none
pub record Gives (b : Book) (p : ℕ) (L : Ledger) (h : Result Book Part) : Type 0 where
  pub part : part_in h ≡ p
  pub book : IfOk h (λ (k : Book). HoldsBook k b.reading L b.tally)

abbrev pub Judged : Book → List ℕ → Reply → Result Book Part → Type 0
Judged b r x h = Gives b (reply_part (page_of b) r x) (tell (page_of b) r x) h

abbrev pub Lists : Book → List Serial → Result Book Part → Type 0
Lists b ns h = Gives b (listed_part (page_of b) ns) (page_of b) h

abbrev pub Ends : Book → Tail → Result Book Part → Type 0
Ends b t h = Gives b (end_part t) (unchanged (page_of b) t) h

abbrev pub Abandons : Book → Tail → Result Book Part → Type 0
Abandons b t h = Gives b (abandon_part (page_of b) t) (abandoned (page_of b) t) h

abbrev pub Lands : Book → ℕ → Tail → Result Book Part → Type 0
Lands b kind t h = Gives b (landed_part kind (page_of b) t) (landed kind (page_of b) t) h
