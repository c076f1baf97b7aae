-- Each field is the number read at its place.
use mathlib.Core.Path.{◌≡◌}
use mir.Facts.{to_z-of_z}
use mir.Val.{to_z, of_z}
use mir.Syntax.{w32}
use Rattle.watch.proofs.ReplyLaws.{line_read}
use Rattle.watch.proofs.parts.line_begun.Goals as goal

pub returns : goal.returns
returns c =
    let z : to_z w32 (of_z w32 c.i32_at.result) ≡ c.i32_at.result = to_z-of_z {w = w32} (record { sfits = c.i32_at.type_inv }) in
    rw (line_read c.args.msg.now c.args.reply.now, z, c.u32_at.ensures, c.u32_at-2.ensures, c.i32_at.ensures, c.bit.ensures, c.byte.ensures)
