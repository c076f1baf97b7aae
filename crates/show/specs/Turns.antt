-- What a turn of the program does, and what its whole run does: a line for each reply of a stream.
use Rattle.std.specs.Prelude.{ℕ, ◌<◌, ◌≡◌, List, [], ◌++◌, Bool, true, false, not, cond, ◌||◌, ltb, eqb, length, take}
use Rattle.paper.specs.Words.{all_b}
use Rattle.paper.specs.declared.Reading.{Reading}
use Rattle.paper.specs.Reading.{opening, further_all}
use Rattle.format.specs.Cut.{size_of, joined, is_whole, cut, parts}
use Rattle.stream.specs.Turns.{Read}
use Rattle.stream.specs.Laid.{Puts}
use Rattle.stream.specs.Turns.{brought, Ran, through}
use Rattle.show.specs.Lines.{rest_of}
use Rattle.show.specs.Stream.{lines_of, number_after}
use Rattle.show.specs.declared.After.{After}
use Rattle.filter.specs.Next.{is_more, is_unread, is_unwritten}

-- whether the run goes on behind a turn, whether standard input could not be read, and whether standard output could
-- not be written
abbrev pub more : After → Bool
more r = is_more r.next

abbrev pub unread : After → Bool
unread r = is_unread r.next

abbrev pub unwritten : After → Bool
unwritten r = is_unwritten r.next

-- the line of a last reply that is incomplete: none while the run goes on, where the input could not be read, and where
-- nothing waits
unfoldable pub end_line : After → List ℕ
end_line r = cond (more r || unread r || eqb r.held 0) [] (rest_of r.number r.held)

-- the end of the input
pub record Last (st : Reading) (next held : ℕ) (written : List ℕ) (r : After) (output : List ℕ) : Type 0 where
  pub same : (r.number ≡ next) × (r.held ≡ held) × (more r ≡ false) × (unread r ≡ false) × (r.reading ≡ st)
  pub line : Puts r.made (end_line r) written output

-- what a turn gives that only read: the run goes on just where something was read, and else ends with the last line
pub record FedBy (st : Reading) (next held : ℕ) (r : Read) (written : List ℕ) (a : After)
    (output : List ℕ) : Type 0 where
  pub same : (a.number ≡ next) × (a.held ≡ r.held) × (unread a ≡ r.failed) × (a.reading ≡ st)
  pub goes_on : more a ≡ ltb held r.held
  pub line : Puts a.made (end_line a) written output

-- One turn. `read` are the replies whose lines it makes. The first `made` bytes of the output are what it hands to
-- `write_all`, and behind them the output is as it was
pub record Turned (st : Reading) (n held : ℕ) (before written : List ℕ) (r : After)
    (after output : List ℕ) : Type 0 where
  pub read : List (List ℕ)
  pub whole : all_b is_whole read ≡ true
  -- no byte is lost: what waited, and behind it what was read, is these replies, and behind them what waits now
  pub kept : take held before ++ brought held r.held after ≡ joined read ++ take r.held after
  pub number : r.number ≡ number_after n read
  pub reading : r.reading ≡ further_all st read
  -- where a whole reply waits, the line of that one at least is made and nothing is read; the run goes on unless the
  -- lines could not be written
  pub lines : 0 < size_of (take held before)
      → (0 < length read) × (brought held r.held after ≡ []) × Puts r.made (lines_of st n read) written output
      × (more r ≡ not (unwritten r)) × (unread r ≡ false)
  -- it reads on only where no whole reply waits, so that none is left behind without its line; the run goes on just
  -- where something was read, which a read that fails never does
  pub reads : size_of (take held before) ≡ 0
      → (read ≡ []) × Puts r.made (end_line r) written output × (more r ≡ ltb held r.held)
      × (unread r ≡ true → more r ≡ false)
  -- behind a reply that is not whole there is room, so no read fails for want of it
  pub room : size_of (take held before) ≡ 0 → held < length before

-- where a run stands after a turn: what the turn gave, and the two buffers
pub record Stand : Type 0 where
  pub after : After
  pub input : List ℕ
  pub output : List ℕ

abbrev pub standing : After → List ℕ → List ℕ → Stand
standing r input output = record { after = r; input = input; output = output }

-- what waits there
abbrev pub waiting : Stand → List ℕ
waiting s = take s.after.held s.input

-- what the turn from one to the other read, and what it handed to `write_all`
abbrev pub read_in : Stand → Stand → List ℕ
read_in b s = brought b.after.held s.after.held s.input

abbrev pub written_in : Stand → Stand → List ℕ
written_in b s = take s.after.made s.output

-- a run starts with the first reply, read with what there is in front of it, and nothing waits
abbrev pub Starts : Stand → Type 0
Starts s = (s.after.number ≡ 1) × (s.after.held ≡ 0) × (more s.after ≡ true) × (s.after.reading ≡ opening)

-- and goes on turn by turn
abbrev pub Turns : Stand → Stand → Type 0
Turns b s =
    (more b.after ≡ true)
    × Turned b.after.reading b.after.number b.after.held b.input b.output s.after s.input
    s.output

-- THE WHOLE RUN: turns one after the other. R is what their reads brought, one behind the other, and W what they handed
-- to `write_all`
pub record Shows (s : Stand) : Type 0 where
  pub turns : List Stand
  pub R : List ℕ
  pub W : List ℕ
  pub ran : Ran Starts Turns turns s
  pub read : R ≡ through read_in turns s
  pub handed : W ≡ through written_in turns s
  -- W IS THE LINES OF THE WHOLE REPLIES OF R, and then the line of what is left of it, where it ends because no more is
  -- read
  pub all : more s.after ≡ false → unwritten s.after ≡ false
      → (W ≡ lines_of opening 1 (cut R) ++ end_line s.after) × (waiting s ≡ (parts R).rest)
      × (s.after.number ≡ number_after 1 (cut R)) × (s.after.reading ≡ further_all opening (cut R))
