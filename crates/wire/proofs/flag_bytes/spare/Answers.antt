-- The mask of the bits below leaves the byte as it is where none above is set.
use Rattle.wire.proofs.Powers.{all_kept}
use Rattle.wire.proofs.flag_bytes.spare.Goals as goal

pub returns-else-this-ge-BITS : goal.returns-else-this-ge-BITS
returns-else-this-ge-BITS g c = all_kept c.args.f g.row.N c.if-this-ge-BITS.false
