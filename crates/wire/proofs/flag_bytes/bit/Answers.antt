-- The mask of the bit leaves it alone.
use Rattle.wire.proofs.Powers.{masked}
use Rattle.wire.proofs.flag_bytes.bit.Goals as goal

pub returns-then-this-lt-BITS : goal.returns-then-this-lt-BITS
returns-then-this-lt-BITS g c = masked c.args.f g.row.N c.if-this-lt-BITS.true
