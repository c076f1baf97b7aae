-- What a turn of the program says of all that was read of the two files.
use Rattle.std.specs.Prelude.{ℕ, min, ◌≡◌, List, [], ◌++◌, Bool, true, false, not, ◌&&◌, take, ltb, ℤ, Option, None}
use Rattle.paper.specs.Words.{all_b}
use Rattle.paper.specs.Reading.{opening, further_all}
use Rattle.paper.specs.Ledger.{blank}
use Rattle.paper.specs.Watch.{watched}
use Rattle.format.specs.Cut.{size_of, joined, is_whole}
use Rattle.stream.specs.declared.files.Feed.{Feed}
use Rattle.stream.specs.Files.{Fed, brought, Onward, Unread, unread}
use Rattle.stream.specs.Turns.{Ran, through}
use Rattle.watch.specs.Book.{HoldsBook, no_tally, most}
use Rattle.watch.specs.Pairs.{tally_all}
use Rattle.watch.specs.declared.demand.Broken.{Broken}
use Rattle.watch.specs.Parts.{part_at, blamed_at}
use Rattle.ledger.specs.declared.State.{State}
use Rattle.ledger.specs.declared.Move.{Move}
use Rattle.ledger.specs.declared.Move.TheVariants.{Records, Replies, Stop}
use Rattle.ledger.specs.Moves.{move_of}
use Rattle.ledger.specs.Verdict.{Answer, last_rest, judged}

-- the same book and number
abbrev pub state_of : State → Feed → Feed → Option Broken → ℕ → Bool → State
state_of s records replies broken rest more =
    record {
      book = s.book;
      number = s.number;
      records = records;
      replies = replies;
      broken = broken;
      rest = rest;
      more = more;
    }

-- what is done where no exchange is whole
abbrev pub wants : State → List ℕ → List ℕ → Move
wants s records replies =
    move_of (ltb 0 (size_of (take s.records.held records))) s.records.ended
    (ltb 0 (size_of (take s.replies.held replies))) s.replies.ended
    (ltb 0 s.replies.held)

-- one of the files is read on, or the run ends with a part, or with none
abbrev pub Went : State → Move → List ℕ → List ℕ → State → List ℕ → List ℕ → Type 0
Went s Records records replies r records' replies' =
    Fed s.records records r.records records' × (replies' ≡ replies)
    × (r ≡ state_of s r.records s.replies None 0 (not r.records.failed))
Went s Replies records replies r records' replies' =
    Fed s.replies replies r.replies replies' × (records' ≡ records)
    × (r ≡ state_of s s.records r.replies None 0 (not r.replies.failed))
Went s (Stop broken) records replies r records' replies' =
    (records' ≡ records) × (replies' ≡ replies)
    × (r ≡ state_of s s.records s.replies broken (last_rest (part_at broken) s.records.held s.replies.held) false)

-- All that was read so far, R of the records and A of the replies, is whole records and as many whole replies that
-- break nothing, and what still waits. The book is their ledger, with their tally, read on behind them, in normal form;
-- the number is theirs, as far as 64 bits count
pub record Judging (s : State) (records replies R A : List ℕ) : Type 0 where
  pub said : List (List ℕ)
  pub answers : List (List ℕ)
  pub whole_said : all_b is_whole said ≡ true
  pub whole_answers : all_b is_whole answers ≡ true
  pub cut_said : R ≡ joined said ++ take s.records.held records
  pub cut_answers : A ≡ joined answers ++ take s.replies.held replies
  pub unbroken : (watched opening 0 blank said answers).part ≡ 0
  pub number : s.number ≡ min (watched opening 0 blank said answers).at most
  pub book : HoldsBook s.book (further_all opening answers) (watched opening 0 blank said answers).ledger
      (tally_all opening no_tally answers)

-- the state has this answer
pub record Says (s : State) (x : Answer) : Type 0 where
  pub part : part_at s.broken ≡ x.part
  pub named : blamed_at s.broken ≡ x.named
  pub rest : s.rest ≡ x.rest
  pub number : s.number ≡ min x.at most
  pub book : HoldsBook s.book x.reading x.ledger x.tally

-- THE ANSWER IS THAT OF THE TWO FILES: they begin with R and A, and a file that has ended is no longer than that
abbrev pub Settled : State → List ℕ → List ℕ → Type 0
Settled s R A =
    (more others : List ℕ) → (s.records.ended ≡ true → more ≡ []) → (s.replies.ended ≡ true → others ≡ [])
    → Says s (judged (R ++ more) (A ++ others))

-- One turn, whatever was read before it: the run goes on and what the turn brought is judged so far, or it ends with
-- the answer, if both files could be read
pub record Keeps (s : State) (records replies : List ℕ) (r : State) (records' replies' : List ℕ) : Type 0 where
  pub records_on : Onward s.records r.records records'
  pub replies_on : Onward s.replies r.replies replies'
  pub goes_on : (R A : List ℕ) → Judging s records replies R A → r.more ≡ true
      → Judging r records' replies' (R ++ brought s.records r.records records')
      (A ++ brought s.replies r.replies replies')
  pub ends : (R A : List ℕ) → Judging s records replies R A → r.more ≡ false → r.records.failed ≡ false
      → r.replies.failed ≡ false
      → Settled r (R ++ brought s.records r.records records') (A ++ brought s.replies r.replies replies')

-- a whole record and a whole reply wait
abbrev pub exchange_waits : State → List ℕ → List ℕ → Bool
exchange_waits s records replies =
    ltb 0 (size_of (take s.records.held records)) && ltb 0 (size_of (take s.replies.held replies))

pub record Turned (s : State) (records replies : List ℕ) (r : State) (records' replies' : List ℕ) : Type 0 where
  pub keeps : Keeps s records replies r records' replies'
  -- where an exchange is whole it is heard, and nothing is read
  pub hears : exchange_waits s records replies ≡ true
      → Unread s.records r.records records' × Unread s.replies r.replies replies'
  -- where none is, the file that the run waits for is read on; a file has ended only where that brought nothing, and
  -- the run ends only where none is waited for
  pub reads : exchange_waits s records replies ≡ false
      → Went s (wants s records replies) records replies r records' replies'

-- where a run stands after a turn: the state and the two buffers
pub record Stand : Type 0 where
  pub state : State
  pub records : List ℕ
  pub replies : List ℕ

abbrev pub standing : State → List ℕ → List ℕ → Stand
standing s records replies = record { state = s; records = records; replies = replies }

-- what the turn from one to the other read of the records, and of the replies
abbrev pub records_in : Stand → Stand → List ℕ
records_in b s = brought b.state.records s.state.records s.records

abbrev pub replies_in : Stand → Stand → List ℕ
replies_in b s = brought b.state.replies s.state.replies s.replies

-- a run starts with a new book and the two files
pub record Starts (records-fd replies-fd : ℤ) (s : Stand) : Type 0 where
  pub book : HoldsBook s.state.book opening blank no_tally
  pub number : s.state.number ≡ 0
  pub records : s.state.records ≡ unread records-fd
  pub replies : s.state.replies ≡ unread replies-fd
  pub more : s.state.more ≡ true

-- and goes on turn by turn
abbrev pub Turning : Stand → Stand → Type 0
Turning b s = (b.state.more ≡ true) × Turned b.state b.records b.replies s.state s.records s.replies

-- THE WHOLE RUN over two files: turns one after the other. R and A are what their reads brought of the records and of
-- the replies, one behind the other; where the run ended and both files could be read, the answer is that of every two
-- files that begin with R and A and end where they have ended
pub record Judges (records-fd replies-fd : ℤ) (s : Stand) : Type 0 where
  pub turns : List Stand
  pub R : List ℕ
  pub A : List ℕ
  pub ran : Ran (Starts records-fd replies-fd) Turning turns s
  pub read : R ≡ through records_in turns s
  pub heard : A ≡ through replies_in turns s
  pub answer : s.state.more ≡ false → s.state.records.failed ≡ false → s.state.replies.failed ≡ false
      → Settled s.state R A
