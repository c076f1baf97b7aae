-- Where the bit of the surface is among the pending ones, it is cleared, and else every word stays.
use Rattle.pool.proofs.Bits.{bit_clear}
use Rattle.pool.proofs.MarkLaws.{gives_none, gives_back}
use Rattle.pool.proofs.give_back.Goals as goal

pub returns-then-pool-returned-eq0 : goal.returns-then-pool-returned-eq0
returns-then-pool-returned-eq0 c =
    gives_none c.args.pool.now c.args.surface c.bit_of-returned.result (rw c.surfaces_in.ensures at c.bit_of-returned.ensures) c.if-pool-returned-eq0.true

pub returns : goal.returns
returns c =
    gives_back c.args.pool.now c.args.surface c.bit_of-returned.result (rw c.surfaces_in.ensures at c.bit_of-returned.ensures) c.told-pool _
    (λ i. bit_clear i _ c.bit_of-returned.result (c.fits-pool 2) c.bit_of-returned.type_inv) c.if-pool-returned-eq0.false
