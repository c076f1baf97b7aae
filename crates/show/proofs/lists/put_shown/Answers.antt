-- Three numbers, with colons between.
use mathlib.Core.Path.{ap}
use Prim.Native.Nat.{ℕ}
use mir.Val.{to_z}
use mir.Syntax.{w32}
use Rattle.stream.specs.Text.{decimal, integer}
use Rattle.show.specs.Lists.{shown_text}
use Rattle.stream.proofs.Spelling.{◌then◌, retold}
use Rattle.show.proofs.lists.put_shown.Goals as goal

pub returns : goal.returns
unfolding shown_text
returns c =
    let serial = retold (ap decimal c.u32_at.ensures) c.put_u32-a.ensures in
    let surface = retold (ap decimal c.u32_at-2.ensures) c.put_u32-c.ensures in
    let poc = retold (ap (λ (x : ℕ). integer (to_z w32 x)) c.u32_at-3.ensures) c.put_signed.ensures in
    serial then c.put-b.ensures then surface then c.put-e.ensures then poc
