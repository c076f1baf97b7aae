-- A program that reads a stream turn by turn: what waits in its buffer, and all that its turns read or wrote.
use Rattle.std.specs.Prelude.{ℕ, ◌-◌, ◌≤◌, min, ◌≡◌, Bool, true, false, Result, Ok, Err, List, [], ◌∷◌, ◌++◌, length, take, drop}
use Rattle.std.proofs.Math.Seq.{paste}

-- What one read left: how many bytes wait now, and whether it failed.
pub record Read : Type 0 where
  pub held : ℕ
  pub failed : Bool

-- One read behind the first `held` bytes of a buffer. These are kept; of the bytes behind them, where the read puts
-- what it brings, nothing is said. A read that failed brought nothing. Where there is no room behind the bytes that
-- wait it fails, and the buffer is as it was
pub record Fed (held : ℕ) (before : List ℕ) (r : Read) (after : List ℕ) : Type 0 where
  pub within : held ≤ length before → r.held ≤ length after
  pub grows : held ≤ r.held
  pub kept : take held after ≡ take held before
  pub failed : r.failed ≡ true → r.held ≡ held
  pub no_room : length before ≤ held → (r ≡ record { held = held; failed = true }) × (after ≡ before)

-- what a read that gave this tells: how many bytes wait now, as many as before where it failed
abbrev pub read_as : {E : Type 0} → ℕ → Result ℕ E → Read
read_as held (Ok n) = record { held = n; failed = false }
read_as held (Err e) = record { held = held; failed = true }

-- what a turn read: the bytes of the buffer from the first `held`, which waited before, to the first `holds`, which
-- wait now
abbrev pub brought : ℕ → ℕ → List ℕ → List ℕ
brought held holds after = drop held (take holds after)

-- the bytes of a buffer from `from` to `end`, or to the last where `end` is past it, laid over its start
abbrev pub shifted : List ℕ → ℕ → ℕ → List ℕ
shifted l from end = paste l 0 (drop from l) (min end (length l) - from)

-- the turns of a run, by where it stood before each, the latest first: it starts so, and each turn leads from there to
-- the next
unfoldable pub Ran : {S : Type 0} → (S → Type 0) → (S → S → Type 0) → List S → S → Type 0
Ran Starts Turns [] s = Starts s
Ran Starts Turns (b ∷ earlier) s = Ran Starts Turns earlier b × Turns b s

-- what each turn read or wrote, one behind the other
unfoldable pub through : {S : Type 0} → (S → S → List ℕ) → List S → S → List ℕ
through f [] s = []
through f (b ∷ earlier) s = through f earlier b ++ f b s
