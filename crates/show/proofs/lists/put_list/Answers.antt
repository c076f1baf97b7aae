-- Nothing, or the name, the first item and the rest.
use Prim.Native.Nat.{ℕ, ◌+◌, ◌-◌}
use mathlib.Core.Path.{sym, ap}
use native.Mathlib.Omega.{arith}
use Rattle.show.specs.Items.{more_text}
use Rattle.stream.proofs.Spelling.{◌then◌, retold, roomier, blank}
use Rattle.show.proofs.Items.{no_items, some_items, step_in}
use Rattle.show.proofs.lists.put_list.Goals as goal

pub returns-then-n-eq0 : goal.returns-then-n-eq0
returns-then-n-eq0 c =
    retold (sym (no_items c.args.item c.args.name.now c.args.reply.now c.args.from c.if-n-eq0.true)) (blank c.args.d.now c.args.at _)

pub returns : goal.returns
returns c =
    let rest = retold (ap (λ (w : ℕ). more_text c.args.item c.args.reply.now (c.args.from + w) (c.args.n - 1)) c.width.ensures.0) c.put_more.ensures in
    let all = c.put-a.ensures then c.put-b.ensures then rest in
    retold (sym (some_items c.args.item c.args.name.now c.args.reply.now c.args.from c.args.n (omega arith))) (roomier (omega (arith, step_in c.args.item (c.args.n - 1) c.args.n (omega arith))) all)
