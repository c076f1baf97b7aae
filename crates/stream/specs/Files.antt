-- A file that is read in blocks: what a read brings, and what waits of it.
use Rattle.std.specs.Prelude.{ℕ, ◌-◌, ◌≤◌, ◌≡◌, List, [], Bool, true, false, length, eqb, ℤ, pos, negsuc}
use Rattle.stream.specs.Turns as Reading
use Rattle.stream.specs.declared.files.Feed.{Feed}

-- a file that is open has a number that is not negative, its place among the arguments; of the negative ones -1 is left,
-- which once stood for a file that can't be opened
abbrev pub Opened : ℤ → Type 0
Opened (pos k) = Unit {0}
Opened (negsuc k) = k ≡ 0

-- whether the last read brought nothing, and whether it failed
abbrev pub ended : Feed → Bool
ended f = f.ended

abbrev pub failed : Feed → Bool
failed f = f.failed

-- One read of a file, which has ended where nothing was read
pub record Fed (f : Feed) (before : List ℕ) (r : Feed) (after : List ℕ) : Type 0 where
  pub fd : r.fd ≡ f.fd
  pub ended : r.ended ≡ eqb r.held f.held
  pub read : Reading.Fed f.held before (record { held = r.held; failed = r.failed }) after

-- the file that a source of this number is read on for: it has the source's number, whatever it had
abbrev pub read_of : ℤ → Feed → Feed
read_of fd f = record { fd = fd; held = f.held; ended = f.ended; failed = f.failed }

-- what was read
abbrev pub brought : Feed → Feed → List ℕ → List ℕ
brought f r after = Reading.brought f.held r.held after

-- the bytes behind the first n wait
abbrev pub lessened : Feed → ℕ → Feed
lessened f n = record { fd = f.fd; held = f.held - n; ended = f.ended; failed = f.failed }

-- One file in a turn: it is still that file, what waits lies within its buffer, and where it has ended nothing was read
pub record Onward (f r : Feed) (after : List ℕ) : Type 0 where
  pub fd : r.fd ≡ f.fd
  pub within : r.held ≤ length after
  pub ended : r.ended ≡ true → brought f r after ≡ []

-- nothing is read of a file, so it neither ends nor fails
pub record Unread (f r : Feed) (after : List ℕ) : Type 0 where
  pub none : brought f r after ≡ []
  pub ended : r.ended ≡ f.ended
  pub failed : r.failed ≡ f.failed

-- a file of which nothing was read yet
abbrev pub unread : ℤ → Feed
unread fd = record { fd = fd; held = 0; ended = false; failed = false }
