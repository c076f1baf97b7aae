-- Document 02, Item 10, of what the program read and wrote.
use Rattle.std.specs.Prelude.{ℕ, ◌≡◌, List, ◌++◌, map, true, false}
use Rattle.paper.specs.Words.{all_b}
use Rattle.format.specs.Cut.{joined, is_whole, cut, rest_of}
use Rattle.pool.specs.Pool.{Pool, made}
use Rattle.pool.specs.History.{heard_from, after_all}
use Rattle.pool.specs.Statement.{Promises}
use Rattle.filter.specs.Machine.{outs}
use Rattle.filter.specs.Turns.{more, unwritten, Stand, waiting}
use Rattle.poolrun.specs.Files.{call_in}
use Rattle.poolrun.specs.Machine.{exactly}

-- THE PROGRAM'S OWN BYTES, of a pool of n surfaces: R is what its reads brought, W what it handed to `write_all`, and s
-- where it stands then
pub record Pooled (n : ℕ) (R W : List ℕ) (s : Stand Pool) : Type 0 where
  -- R is whole calls and what waits, and W the answers of the definitions to these calls, in their order
  pub said : List (List ℕ)
  pub whole : all_b is_whole said ≡ true
  pub kept : R ≡ joined said ++ waiting s
  pub answered : W ≡ joined (outs exactly (made n) said)
  -- the pool is the definitions' pool after the calls, and all that is promised of one holds
  pub pool : s.state ≡ after_all (made n) (map call_in said)
  pub promises : Promises n s.state (heard_from (made n) (map call_in said))
  -- where the run ends because no more is read, W is the answers to the whole calls of R
  pub all : more s.after ≡ false → unwritten s.after ≡ false
      → (W ≡ joined (outs exactly (made n) (cut R))) × (waiting s ≡ rest_of R)
