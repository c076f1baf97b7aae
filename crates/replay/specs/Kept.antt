-- Demand 3 of what the program read and wrote.
use Rattle.std.specs.Prelude.{ℕ, ◌≡◌, List, [], length}
use Rattle.paper.specs.State.{Session}
use Rattle.paper.specs.Reading.{opening}
use Rattle.paper.specs.Ledger.{blank, told}
use Rattle.paper.specs.Statement.{Kept, ledger_of}
use Rattle.paper.specs.Watch.{pairs}
use Rattle.format.specs.Cut.{size_of, cut, rest_of}
use Rattle.filter.specs.Turns.{Stand, waiting}

-- DEMAND 3 of the program's own bytes: R is what its reads brought, W what it handed to `write_all`, and s where it
-- stands then
pub record KeptRun (R W : List ℕ) (s : Stand Session) : Type 0 where
  -- the exchanges of the whole records of R and the replies, as cut by their heads
  pub kept : Kept (pairs opening (cut R) (cut W))
  -- the lines of the ledger are the pictures that the session holds
  pub true_to : told blank (pairs opening (cut R) (cut W)) ≡ ledger_of s.state
  -- no byte of the replies is left over, and where no whole record waits, each has its reply
  pub done : rest_of W ≡ []
  pub even : size_of (waiting s) ≡ 0 → length (cut R) ≡ length (cut W)
