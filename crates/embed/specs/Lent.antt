-- What the exported functions promise of the memory that a host lends.
use Rattle.std.specs.Prelude.{ℕ, ◌≤◌, ◌≡◌, List}
use Rattle.session.specs.declared.Answer.{Answer}
use Rattle.session.specs.View.{Memory}
use Rattle.session.specs.Laid.{NormalMemory}
use Rattle.session.specs.Said.{Permitted}
use Rattle.pool.specs.declared.Given.{Given}
use Rattle.pool.specs.Pool.{surface_at}
use Rattle.pool.specs.Memory.{PoolMemory}
use Rattle.pool.specs.Said as Pool

-- how many words a session takes: 23 beside its sets and its store, 16 of its sets, 97 of its store
abbrev pub words : ℕ
words = 136

-- the number of the layout of a session's and a pool's memory: it goes up whenever a word is added, moved or means
-- something else
abbrev pub layout : ℕ
layout = 1

-- an answer on memory m: 1 exactly where it is a session in the normal form, and else 0
pub record SaysNormal (answer : ℕ) (m : Memory) : Type 0 where
  pub only : answer ≡ 1 → NormalMemory m
  pub always : NormalMemory m → answer ≡ 1
  pub flag : answer ≤ 1

abbrev pub answer_of : ℕ → ℕ → Answer
answer_of number len = record { number = number; len = len }

-- a call on memory m with record r and a buffer that holds `before`: what the contract of the session's `step` permits
abbrev pub Stepped : Memory → List ℕ → List ℕ → ℕ → ℕ → Memory → List ℕ → Type 0
Stepped m r before number len left after = Permitted m r before (answer_of number len) left after

-- how many words of 64 bits a pool takes beside its session
abbrev pub pool_words : ℕ
pool_words = 3

-- the surface is told by its number, 64 for none
abbrev pub given_of : ℕ → ℕ → ℕ → Given
given_of number len surface = record { number = number; len = len; surface = surface_at surface }

-- a call on the pool in memory m: what the contract of the pool's `step` permits
abbrev pub PoolStepped : PoolMemory → List ℕ → List ℕ → ℕ → ℕ → ℕ → PoolMemory → List ℕ → Type 0
PoolStepped m r before number len surface left after = Pool.Permitted m r before (given_of number len surface) left after
