-- The zeros below the lowest free bit are as many as the lowest free surface says, and 64 where none is free.
use Rattle.pool.specs.Pool.{lowest_free}
use Rattle.pool.specs.Memory.{pool_memory, pool_in}
use Rattle.pool.proofs.MarkLaws.{lowest_is, at_none, at_some}
use Rattle.pool.proofs.marks.lowest_free.Goals as goal

pub returns-then-lowest-eq-NO_SURFACE : goal.returns-then-lowest-eq-NO_SURFACE
returns-then-lowest-eq-NO_SURFACE c = λ m.
    at_none (lowest_free (pool_in (pool_memory c.args.pool.now m))) (rw (c.all_below.ensures, c.surfaces_in.ensures, lowest_is c.args.pool.now m c.fits-pool) at c.if-lowest-eq-NO_SURFACE.true)

pub returns-else-lowest-eq-NO_SURFACE : goal.returns-else-lowest-eq-NO_SURFACE
returns-else-lowest-eq-NO_SURFACE c = λ m.
    rw (c.all_below.ensures, c.surfaces_in.ensures, lowest_is c.args.pool.now m c.fits-pool) (at_some (lowest_free (pool_in (pool_memory c.args.pool.now m))) (rw (c.all_below.ensures, c.surfaces_in.ensures, lowest_is c.args.pool.now m c.fits-pool) at c.if-lowest-eq-NO_SURFACE.false))
