-- The strangers from here on are all of them, since all before are known.
use native.Mathlib.Omega.{arith}
use mathlib.Core.Path.{◌≡◌, ◌∙◌, sym, ap}
use Rattle.watch.specs.Book.{view}
use lib.ListN.{drop}
use Prim.Native.Nat.{suc, ◌+◌, ◌-◌, ◌*◌}
use Rattle.watch.proofs.ReplyLaws.{known_next, strange_next, strange_end}
use Rattle.paper.specs.Blame.{first_serial}
use Rattle.watch.proofs.parts.stranger.Goals as goal

pub returns-then-not-is_known : goal.returns-then-not-is_known
unfolding first_serial
returns-then-not-is_known c =
    let e : c.args.n - c.loop-i.i ≡ suc (c.args.n - (c.loop-i.i + 1)) = omega arith in
    let m = rw c.u32_at.ensures at (sym c.is_known.ensures ∙ c.if-not-is_known.true) in
    rw c.u32_at.ensures (ap first_serial (sym (strange_next (view c.args.l) (c.args.n - (c.loop-i.i + 1)) (c.args.at + 4 * c.loop-i.i) c.args.reply.now m) ∙ rw e at c.loop-i.invariant))

pub loop-i-preserved : goal.loop-i-preserved
loop-i-preserved c =
    let e : c.args.n - c.loop-i.i ≡ suc (c.args.n - (c.loop-i.i + 1)) = omega arith in
    let f : c.args.at + 4 * (c.loop-i.i + 1) ≡ c.args.at + 4 * c.loop-i.i + 4 = omega arith in
    let m = rw c.u32_at.ensures at (sym c.is_known.ensures ∙ c.if-not-is_known.false) in
    rw f (sym (known_next (view c.args.l) (c.args.n - (c.loop-i.i + 1)) (c.args.at + 4 * c.loop-i.i) c.args.reply.now m) ∙ rw e at c.loop-i.invariant)

pub returns : goal.returns
unfolding first_serial
returns c =
    let e : c.args.n - c.loop-i.i ≡ 0 = omega arith in
    ap first_serial (sym (strange_end (view c.args.l) (drop (c.args.at + 4 * c.loop-i.i) c.args.reply.now)) ∙ rw e at c.loop-i.invariant)
