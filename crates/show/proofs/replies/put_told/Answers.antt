-- Each field at its place.
use mathlib.Core.Path.{sym, ap}
use Prim.Native.Nat.{ℕ}
use mir.Val.{to_z}
use mir.Syntax.{w32}
use Rattle.paper.specs.Numbers.{bit}
use Rattle.stream.specs.Text.{decimal, integer}
use Rattle.show.specs.Lines.{flags_text}
use Rattle.stream.proofs.Spelling.{◌then◌, retold}
use Rattle.show.proofs.Wording.{told_at}
use Rattle.show.proofs.replies.put_told.Goals as goal

pub returns : goal.returns
returns c =
    let poc = retold (ap (λ (x : ℕ). integer (to_z w32 x)) c.u32_at.ensures) c.put_signed-b.ensures in
    let flags = retold (ap (λ (n : ℕ). flags_text n (bit 0 n) (bit 1 n) (bit 2 n) (bit 3 n)) c.byte.ensures) c.put_flags-c.ensures in
    let serial = retold (ap decimal c.u32_at-2.ensures) c.put_u32.ensures in
    retold (sym (told_at c.args.reply.now)) (c.put-a.ensures then poc then flags then c.put-e.ensures then serial)
