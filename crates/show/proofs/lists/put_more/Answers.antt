-- Each turn writes one item behind a comma.
use mathlib.Core.Path.{refl, sym, ap, ◌∙◌}
use Prim.Native.Nat.{ℕ, ◌+◌, ◌*◌}
use native.Mathlib.Omega.{arith}
use Rattle.show.specs.Items.{item_text}
use Rattle.stream.proofs.Spelling.{◌then◌, retold, roomier, blank}
use Rattle.show.proofs.Items.{none_more, one_more, step_on}
use Rattle.show.proofs.lists.put_more.Goals as goal

pub loop-i-init : goal.loop-i-init
loop-i-init c = (refl, retold (sym (none_more c.args.item c.args.reply.now c.args.from)) (blank _ _ _))

pub loop-i-preserved : goal.loop-i-preserved
loop-i-preserved c =
    let one = retold (ap (λ (w : ℕ). item_text c.args.item c.args.reply.now (c.args.from + w * c.loop-i.i)) c.width.ensures.0) c.put-end.ensures in
    let more = retold (sym (one_more c.args.item c.args.reply.now c.args.from c.loop-i.i)) (c.loop-i.invariant.1 then (c.put-behind.ensures then one)) in
    (c.put-end.auto.d ∙ c.put-behind.auto.d ∙ c.loop-i.invariant.0, roomier (omega (arith, step_on c.args.item c.loop-i.i)) more)
