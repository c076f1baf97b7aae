-- What a turn of a program does that answers each whole message of standard input, and what its whole run does.
use Rattle.std.specs.Prelude.{ℕ, ◌-◌, ◌<◌, ◌≡◌, List, [], ◌++◌, Bool, true, false, cond, not, ltb, length, take}
use Rattle.paper.specs.Words.{all_b}
use Rattle.format.specs.Cut.{size_of, joined, is_whole, cut, rest_of}
use Rattle.stream.specs.Turns.{Read}
use Rattle.stream.specs.Laid.{Puts}
use Rattle.stream.specs.Turns.{Fed, brought, shifted, Ran, through}
use Rattle.filter.specs.declared.After.{After}
use Rattle.filter.specs.Next.{is_more, is_unread, is_unwritten}
use Rattle.filter.specs.declared.Next.{Next}
use Rattle.filter.specs.declared.Answered.{Answered}
use Rattle.filter.specs.Machine.{Machine, outs, state_after}

-- whether the run goes on behind a turn, whether standard input could not be read, and whether standard output could
-- not be written
abbrev pub more : After → Bool
more r = is_more r.next

abbrev pub unread : After → Bool
unread r = is_unread r.next

abbrev pub unwritten : After → Bool
unwritten r = is_unwritten r.next

-- what a turn gives that only read: the run goes on just where something was read
abbrev pub fed_by : ℕ → Read → After
fed_by held r =
    record { held = r.held; made = 0; next = cond r.failed Next.Unread (cond (ltb held r.held) Next.More Next.End) }

-- what a turn gives that answered: the run goes on just where the answers could be written
abbrev pub gone : ℕ → ℕ → Bool → After
gone held made wrote = record { held = held; made = made; next = cond wrote Next.More Next.Unwritten }

-- What a turn does behind its answers: where none was made it reads on, else it hands them over and cuts off the
-- messages that were answered
pub record Went (a : Answered) (held : ℕ) (before : List ℕ) (r : After) (after : List ℕ) : Type 0 where
  pub reads : a.taken ≡ 0 → (x : Read) × Fed held before x after × (r ≡ fed_by held x)
  pub writes : (a.taken ≡ 0 → ⊥)
      → (after ≡ shifted before a.taken held) × (r ≡ gone (held - a.taken) a.made (more r))

-- One turn, from state s. `said` are the messages that it answers. The first `made` bytes of the output, which it hands
-- to `write_all`, are the answers, and behind them the output is as it was
pub record Turned {S : Type 0} (M : Machine S) (s : S) (held : ℕ) (before written : List ℕ) (s' : S) (r : After)
    (after output : List ℕ) : Type 0 where
  pub said : List (List ℕ)
  pub whole : all_b is_whole said ≡ true
  -- no byte is lost: what waited, and behind it what was read, is the messages answered, and behind them what waits now
  pub kept : take held before ++ brought held r.held after ≡ joined said ++ take r.held after
  pub replied : Puts r.made (joined (outs M s said)) written output
  pub later : s' ≡ state_after M s said
  -- where a whole message waits, that one at least is answered and nothing is read; the run goes on unless the answers
  -- could not be written
  pub answers : 0 < size_of (take held before)
      → (0 < length said) × (brought held r.held after ≡ []) × (more r ≡ not (unwritten r)) × (unread r ≡ false)
  -- it reads on only where no whole message waits, so that none is left behind unanswered; the run goes on just where
  -- something was read, which a read that fails never does
  pub reads : size_of (take held before) ≡ 0
      → (said ≡ []) × (more r ≡ ltb held r.held) × (unwritten r ≡ false) × (unread r ≡ true → more r ≡ false)
  -- behind a message that is not whole there is room, so no read fails for want of it
  pub room : size_of (take held before) ≡ 0 → held < length before

-- where a run stands after a turn: the machine's state, what the turn gave, and the two buffers
pub record Stand (S : Type 0) : Type 0 where
  pub state : S
  pub after : After
  pub input : List ℕ
  pub output : List ℕ

abbrev pub standing : {S : Type 0} → S → After → List ℕ → List ℕ → Stand S
standing s r input output = record { state = s; after = r; input = input; output = output }

-- what waits there
abbrev pub waiting : {S : Type 0} → Stand S → List ℕ
waiting s = take s.after.held s.input

-- what the turn from one to the other read, and what it handed to `write_all`
abbrev pub read_in : {S : Type 0} → Stand S → Stand S → List ℕ
read_in b s = brought b.after.held s.after.held s.input

abbrev pub written_in : {S : Type 0} → Stand S → Stand S → List ℕ
written_in b s = take s.after.made s.output

-- a run starts in a state, and nothing waits
abbrev pub Starts : {S : Type 0} → S → Stand S → Type 0
Starts s₀ s = (s.state ≡ s₀) × (s.after.held ≡ 0) × (more s.after ≡ true)

-- and goes on turn by turn
abbrev pub Turns : {S : Type 0} → Machine S → Stand S → Stand S → Type 0
Turns M b s =
    (more b.after ≡ true)
    × Turned M b.state b.after.held b.input b.output s.state s.after s.input s.output

-- THE WHOLE RUN: turns one after the other. R is what their reads brought, one behind the other, and W what they handed
-- to `write_all`
pub record Serves {S : Type 0} (M : Machine S) (s₀ : S) (s : Stand S) : Type 0 where
  pub turns : List (Stand S)
  pub R : List ℕ
  pub W : List ℕ
  pub ran : Ran (Starts s₀) (Turns M) turns s
  pub read : R ≡ through read_in turns s
  pub handed : W ≡ through written_in turns s
  -- whenever it ends, R is whole messages and what waits, and W the answers to these messages, in their order, from the
  -- first state on
  pub said : List (List ℕ)
  pub whole : all_b is_whole said ≡ true
  pub kept : R ≡ joined said ++ waiting s
  pub replied : W ≡ joined (outs M s₀ said)
  pub state : s.state ≡ state_after M s₀ said
  -- W IS THE ANSWERS TO THE WHOLE MESSAGES OF R, where it ends because no more is read: "an incomplete last record ends
  -- the run without a reply"
  pub all : more s.after ≡ false → unwritten s.after ≡ false
      → (W ≡ joined (outs M s₀ (cut R))) × (waiting s ≡ rest_of R)
