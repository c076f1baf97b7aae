-- The memory that a pool lies in, and the pool that it is: every memory is some pool.
use Rattle.std.specs.Prelude.{ℕ, min, List, cond}
use Rattle.paper.specs.Numbers.{bit}
use Rattle.paper.specs.Reading.{opening}
use Rattle.store.specs.StoreWords.{word}
use Rattle.session.specs.View.{Memory, session_in}
use Rattle.pool.specs.Pool.{Pool, surface_limit}

-- the three words of the pool, of 64 bits each, and the memory of its session
pub record PoolMemory : Type 0 where
  pub words : List ℕ
  pub memory : Memory

abbrev pub pool_memory : List ℕ → Memory → PoolMemory
pool_memory ws m = record { words = ws; memory = m }

-- the place of each word: how many surfaces there are; bit x of the next is whether surface x is held, and of the last
-- whether a return is pending on it
abbrev pub SURFACES : ℕ
SURFACES = 0

abbrev pub HELD : ℕ
HELD = 1

abbrev pub PENDING : ℕ
PENDING = 2

-- one bit for each surface is enough: at most one return is pending on a surface. More than 64 surfaces are taken as 64
abbrev pub pool_in : PoolMemory → Pool
pool_in m =
    record {
      session = session_in m.memory;
      surfaces = min (word m.words SURFACES) surface_limit;
      held = λ x. bit x (word m.words HELD);
      pending = λ x. cond (bit x (word m.words PENDING)) 1 0;
      reading = opening;
    }

-- a pool as this memory can hold it: of more returns that are pending on a surface, one. A pool reached from a made one
-- is so
abbrev pub at_most_one : Pool → Pool
at_most_one p =
    record {
      session = p.session;
      surfaces = p.surfaces;
      held = p.held;
      pending = λ x. min (p.pending x) 1;
      reading = p.reading;
    }
