-- What a turn of the program does, and what its whole run does: the lines of two files.
use Rattle.std.specs.Prelude.{ℕ, ◌+◌, ◌<◌, max, ◌≡◌, List, [], ◌++◌, Bool, true, false, cond, not, ◌&&◌, length, take, ℤ}
use Rattle.format.specs.Cut.{size_of}
use Rattle.stream.specs.declared.files.Feed.{Feed}
use Rattle.stream.specs.Laid.{Puts}
use Rattle.stream.specs.Files.{Fed, brought, Onward, Unread, unread}
use Rattle.stream.specs.Turns.{Ran, through}
use Rattle.compare.specs.Lines.{compared_text}
use Rattle.compare.specs.Pairs.{reply_size, ready, some_left, goes, lines_text, Cuts}
use Rattle.compare.specs.declared.State.{State}
use Rattle.compare.specs.declared.Next.{Next}
use Rattle.compare.specs.Next.{is_more, is_unwritten, is_spent}

-- what waits of a file
abbrev pub waiting : Feed → List ℕ → List ℕ
waiting f l = take f.held l

-- the size of the reply that waits there
abbrev pub size_in : Feed → List ℕ → ℕ
size_in f l = reply_size f.ended (waiting f l)

-- the end of a file was seen: it was read on, and without a failure nothing came
abbrev pub at_end : Feed → Bool
at_end f = f.ended && not f.failed

-- whether the run goes on behind a turn, whether standard output could not be written, and whether replies are left that
-- have no number
abbrev pub more : State → Bool
more s = is_more s.next

abbrev pub unwritten : State → Bool
unwritten s = is_unwritten s.next

abbrev pub spent : State → Bool
spent s = is_spent s.next

-- a pair waits, and has a number
abbrev pub pair_waits : State → List ℕ → List ℕ → Bool
pair_waits s first second =
    goes s.number s.first.ended (waiting s.first first) s.second.ended (waiting s.second second)

-- a turn that makes no line: the same number, with these files
abbrev pub state_of : State → Feed → Feed → Next → State
state_of s first second next = record { number = s.number; first = first; second = second; made = 0; next = next }

-- the run goes on behind a read that did not fail
abbrev pub behind_read : Feed → Next
behind_read f = cond f.failed Next.Unread Next.More

-- What is done where no pair is compared: a file of which neither a reply nor the end waits is read on, the first
-- before the second; else the run ends, and it is spent where replies are left, which have no number
abbrev pub Goes : Bool → Bool → State → List ℕ → List ℕ → State → List ℕ → List ℕ → Type 0
Goes false b s first second r first' second' =
    Fed s.first first r.first first' × (second' ≡ second)
    × (r ≡ state_of s r.first s.second (behind_read r.first))
Goes true false s first second r first' second' =
    Fed s.second second r.second second' × (first' ≡ first)
    × (r ≡ state_of s s.first r.second (behind_read r.second))
Goes true true s first second r first' second' =
    (first' ≡ first) × (second' ≡ second)
    × (r ≡ state_of s s.first s.second (cond (some_left (size_in s.first first) (size_in s.second second)) Next.Spent Next.End))

abbrev pub Went : State → List ℕ → List ℕ → State → List ℕ → List ℕ → Type 0
Went s first second =
    Goes (ready s.first.ended (size_in s.first first))
    (ready s.second.ended (size_in s.second second)) s first second

-- One turn. `firsts` and `seconds` are the replies that it compares. The first `made` bytes of the output are what it
-- hands to `write_all`, and behind them the output is as it was
pub record Turned (s : State) (first second output : List ℕ) (r : State)
    (first' second' output' : List ℕ) : Type 0 where
  pub firsts : List (List ℕ)
  pub seconds : List (List ℕ)
  pub first_on : Onward s.first r.first first'
  pub second_on : Onward s.second r.second second'
  -- no byte is lost: what waited, and behind it what was read, is these replies, and behind them what waits now,
  -- whatever the file has behind that
  pub cut_first : Cuts r.first.ended (waiting s.first first ++ brought s.first r.first first') firsts
      (waiting r.first first')
  pub cut_second : Cuts r.second.ended
      (waiting s.second second ++ brought s.second r.second second') seconds (waiting r.second second')
  -- the lines of these pairs, which are numbered on
  pub lines : Puts r.made (lines_text s.number firsts seconds) output output'
  pub number : r.number ≡ s.number + max (length firsts) (length seconds)
  -- one file gives fewer replies than the other only where it has ended and nothing of it waits
  pub fewer_firsts : length firsts < length seconds → (s.first.ended ≡ true) × (r.first.held ≡ 0)
  pub fewer_seconds : length seconds < length firsts → (s.second.ended ≡ true) × (r.second.held ≡ 0)
  -- where a pair waits that one at least is compared and nothing is read; the run goes on unless the lines could not be
  -- written
  pub compares : pair_waits s first second ≡ true
      → (0 < length firsts + length seconds) × Unread s.first r.first first'
      × Unread s.second r.second second'
      × (more r ≡ not (unwritten r)) × (spent r ≡ false)
  -- where none does, the file that is waited for is read on; a file has ended only where that brought nothing, and the
  -- run ends only where none is waited for or it can't be read
  pub reads : pair_waits s first second ≡ false → (firsts ≡ []) × (seconds ≡ []) × Went s first second r first' second'
  -- and what waited, with what was read behind it, waits then
  pub waits : pair_waits s first second ≡ false
      → (waiting s.first first ++ brought s.first r.first first' ≡ waiting r.first first')
      × (waiting s.second second ++ brought s.second r.second second' ≡ waiting r.second second')
  -- a file that has ended is not read on
  pub ended_first : s.first.ended ≡ true → Unread s.first r.first first'
  pub ended_second : s.second.ended ≡ true → Unread s.second r.second second'
  -- behind a reply that is not whole there is room, so no read fails for want of it
  pub room : (size_of (waiting s.first first) ≡ 0 → s.first.held < length first)
      × (size_of (waiting s.second second) ≡ 0 → s.second.held < length second)

-- where a run stands after a turn: the state and the three buffers
pub record Stand : Type 0 where
  pub state : State
  pub first : List ℕ
  pub second : List ℕ
  pub output : List ℕ

abbrev pub standing : State → List ℕ → List ℕ → List ℕ → Stand
standing s first second output = record { state = s; first = first; second = second; output = output }

-- what the turn from one to the other read of the first file and of the second, and what it handed to `write_all`
abbrev pub first_in : Stand → Stand → List ℕ
first_in b s = brought b.state.first s.state.first s.first

abbrev pub second_in : Stand → Stand → List ℕ
second_in b s = brought b.state.second s.state.second s.second

abbrev pub written_in : Stand → Stand → List ℕ
written_in b s = take s.state.made s.output

-- a run starts with number 0 and the two files
pub record Starts (first-fd second-fd : ℤ) (s : Stand) : Type 0 where
  pub number : s.state.number ≡ 0
  pub first : s.state.first ≡ unread first-fd
  pub second : s.state.second ≡ unread second-fd
  pub more : more s.state ≡ true

-- and goes on turn by turn
abbrev pub Turning : Stand → Stand → Type 0
Turning b s =
    (more b.state ≡ true)
    × Turned b.state b.first b.second b.output s.state s.first s.second s.output

-- All that was read so far, R of the first file and A of the second, is replies that were compared and what still
-- waits, whatever the files have behind that. W, all that was handed over to be written, is the lines of those replies;
-- the number is the next
pub record Comparing (s : Stand) (R A W : List ℕ) : Type 0 where
  pub firsts : List (List ℕ)
  pub seconds : List (List ℕ)
  pub cut_first : Cuts (at_end s.state.first) R firsts (waiting s.state.first s.first)
  pub cut_second : Cuts (at_end s.state.second) A seconds (waiting s.state.second s.second)
  pub lines : W ≡ lines_text 0 firsts seconds
  pub number : s.state.number ≡ max (length firsts) (length seconds)
  pub fewer_firsts : length firsts < length seconds → (at_end s.state.first ≡ true) × (s.state.first.held ≡ 0)
  pub fewer_seconds : length seconds < length firsts → (at_end s.state.second ≡ true) × (s.state.second.held ≡ 0)

-- THE WHOLE RUN over two files: turns one after the other. R and A are what their reads brought of the first file and
-- of the second, one behind the other, and W what they handed to `write_all`
pub record Compares (first-fd second-fd : ℤ) (s : Stand) : Type 0 where
  pub turns : List Stand
  pub R : List ℕ
  pub A : List ℕ
  pub W : List ℕ
  pub ran : Ran (Starts first-fd second-fd) Turning turns s
  pub read_first : R ≡ through first_in turns s
  pub read_second : A ≡ through second_in turns s
  pub handed : W ≡ through written_in turns s
  -- at every end, W is the lines of the pairs so far
  pub so_far : Comparing s R A W
  -- and W IS THE LINES OF R AND A, and both files have ended, where the run ended, both could be read, all could be
  -- written and there was a number for each reply
  pub all : more s.state ≡ false → s.state.first.failed ≡ false → s.state.second.failed ≡ false
      → unwritten s.state ≡ false → spent s.state ≡ false
      → (W ≡ compared_text R A) × (s.state.first.ended ≡ true) × (s.state.second.ended ≡ true)
