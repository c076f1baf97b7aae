-- The pool as a machine that answers the calls of a file.
use Rattle.filter.specs.Machine.{Machine}
use Rattle.pool.specs.Pool.{Pool}
use Rattle.pool.specs.History.{answer_to, after}
use Rattle.session.specs.View.{memory}
use Rattle.pool.specs.Memory.{pool_memory, pool_in, at_most_one}
use Rattle.poolrun.specs.declared.Memory.{Memory}
use Rattle.poolrun.specs.Files.{call_in, answer_kind, answer_bytes}

-- as document 02 defines it
abbrev pub exactly : Machine Pool
exactly = record { out = λ p c. answer_bytes (answer_kind c) (answer_to p (call_in c)); next = λ p c. after p (call_in c) }

-- as the memory holds it: of a pool that is reached from a made one, `at_most_one` is the pool itself
abbrev pub pools : Machine Pool
pools = record { out = exactly.out; next = λ p c. at_most_one (exactly.next p c) }

-- the pool that the program's memory is
abbrev pub pool_of : Memory → Pool
pool_of m = pool_in (pool_memory m.pool (memory m.front m.sets m.store))
