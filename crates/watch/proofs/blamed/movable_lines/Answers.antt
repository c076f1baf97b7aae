-- An end of sequence, an abandon and the other calls have their lines each; the kind tells which it is.
use native.Mathlib.Omega.{arith}
use mathlib.Core.Path.{◌≡◌, ap, ◌∙◌}
use Prim.Native.Nat.{◌-◌}
use Rattle.derivation.proofs.Pad.{is_good, is_view}
use Rattle.paper.specs.Kinds.{reply_offset}
use Rattle.paper.specs.Records.{kind_of}
use Rattle.std.specs.Prelude.{Some}
use Rattle.format.specs.declared.kinds.Kind.TheVariants.{Abandon}
use Rattle.watch.proofs.ReplyKinds.{number_at}
use Rattle.watch.proofs.blamed.movable_lines.Goals as goal

pub joined-requires : goal.joined-requires
joined-requires c = (is_good c.none-in-Some-Abandon.ensures, omega (arith, c.none-in-Some-Abandon.ensures.long))

pub returns-in-Some-Abandon : goal.returns-in-Some-Abandon
returns-in-Some-Abandon c =
    let e = number_at Abandon c.kind_answered.result (kind_of c.args.reply.now) c.kind_answered.ensures (c.in-Some-Abandon.is ∙ ap Some c.in-Some-Abandon.field-0-is) in
    let k : kind_of c.args.reply.now - reply_offset ≡ 8 = omega (arith, e) in
    rw k (rw (is_view c.none-in-Some-Abandon.ensures) at c.joined.ensures)
