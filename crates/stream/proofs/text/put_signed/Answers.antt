-- A sign where the number is below 0, and the digits of how far it is from 0.
use Rattle.std.proofs.Common.{arith, to_z}
use Rattle.std.specs.Int.{w32}
use Rattle.std.proofs.lemmas.Int.{of_z-to_z}
use Rattle.stream.proofs.Spelling.{◌then◌, retold, signed_text}
use Rattle.stream.proofs.text.put_signed.Goals as goal

pub returns : goal.returns
returns c =
    let a = c.args in
    retold (rw (c.unsigned_abs.ensures.value, c.cast_signed-n.ensures, of_z-to_z w32 a.x (omega arith)) (signed_text (to_z w32 a.x))) (c.put_if-a.ensures then c.put_u32.ensures)
