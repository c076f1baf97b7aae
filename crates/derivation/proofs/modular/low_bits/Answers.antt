-- `derivation::modular::low_bits`: the mask M - 1 on the two's complement is the remainder modulo M.
use mir.Facts.{to_z-of_z}
use Rattle.derivation.proofs.Mask.{masked}
use Rattle.derivation.proofs.modular.low_bits.Goals as goal

pub returns : goal.returns
returns c =
    rw (c.cast_unsigned.ensures, to_z-of_z c.ranges.poc)
    (masked c.args.k c.modulus.result c.args.poc c.ranges.poc c.modulus.ensures)
