-- Each way out, in the order of the parts.
use native.Mathlib.Omega.{arith}
use mathlib.Core.Path.{sym}
use Rattle.std.proofs.lemmas.Result.{err_from_is_err_and}
use Rattle.derivation.proofs.Pad.{is_good, is_view}
use Prim.Native.Nat.{◌<◌, ◌≤◌, ◌-◌}
use Rattle.paper.specs.Kinds.{reply_offset}
use Rattle.paper.specs.Records.{kind_of}
use Rattle.watch.proofs.Walks.{idle}
use Rattle.watch.proofs.ReplyKinds.{finishes, discards}
use Rattle.watch.proofs.Ways.{lands_13, lands_9, lands_tail, lands_15, lands_16, lands_0}
use Rattle.watch.proofs.parts.landed.Goals as goal

pub returns-then-finishes-is_none : goal.returns-then-finishes-is_none
returns-then-finishes-is_none c =
    lands_13 c.args.b (kind_of c.args.reply.now - reply_offset) c.args.reply.now (rw (c.eq-finishes.ensures, finishes c.kind_answered-kind.result (kind_of c.args.reply.now) c.kind_answered-kind.ensures, sym (idle c.args.b.current c.is_none.ensures)) at c.if-finishes-is_none.true)

pub returns-then-ne-byte : goal.returns-then-ne-byte
returns-then-ne-byte c =
    let k = c.kind_answered-kind.ensures in
    lands_9 c.args.b (kind_of c.args.reply.now - reply_offset) c.args.reply.now (rw (c.eq-finishes.ensures, finishes c.kind_answered-kind.result (kind_of c.args.reply.now) k, sym (idle c.args.b.current c.is_none.ensures)) at c.if-finishes-is_none.false) c.byte.result (rw c.behind_shown-second.ensures.0 at c.byte.ensures) (rw (c.ne.ensures, discards c.kind_answered-kind.result (kind_of c.args.reply.now) k) at c.if-ne-byte.true)

pub tail-requires : goal.tail-requires
tail-requires c = (is_good c.joined-all.ensures, omega arith)

pub returns-in_err-held : goal.returns-in_err-held
returns-in_err-held c =
    let p = err_from_is_err_and c.from_residual.result c.from_residual.ensures.1 in
    let g = rw (is_view c.joined-all.ensures) at c.in_err-held.ensures in
    let k = c.kind_answered-kind.ensures in
    rw (p.1, p.2) (lands_tail c.args.b (kind_of c.args.reply.now - reply_offset) c.args.reply.now (rw (c.eq-finishes.ensures, finishes c.kind_answered-kind.result (kind_of c.args.reply.now) k, sym (idle c.args.b.current c.is_none.ensures)) at c.if-finishes-is_none.false) c.byte.result (rw c.behind_shown-second.ensures.0 at c.byte.ensures) (rw (c.ne.ensures, discards c.kind_answered-kind.result (kind_of c.args.reply.now) k) at c.if-ne-byte.false) c.in_err-held.field-0.0 g)

pub returns-then-finishes-held : goal.returns-then-finishes-held
returns-then-finishes-held c =
    let g = rw (is_view c.joined-all.ensures) at c.in_ok-held.ensures in
    let k = c.kind_answered-kind.ensures in
    lands_15 c.args.b (kind_of c.args.reply.now - reply_offset) c.args.reply.now (rw (c.eq-finishes.ensures, finishes c.kind_answered-kind.result (kind_of c.args.reply.now) k, sym (idle c.args.b.current c.is_none.ensures)) at c.if-finishes-is_none.false) c.byte.result (rw c.behind_shown-second.ensures.0 at c.byte.ensures) (rw (c.ne.ensures, discards c.kind_answered-kind.result (kind_of c.args.reply.now) k) at c.if-ne-byte.false) c.in_ok-held.held g (rw (c.eq-finishes.ensures, finishes c.kind_answered-kind.result (kind_of c.args.reply.now) k) at c.if-finishes-held.true)

pub returns-then-held-gt-CAPACITY : goal.returns-then-held-gt-CAPACITY
returns-then-held-gt-CAPACITY c =
    let g = rw (is_view c.joined-all.ensures) at c.in_ok-held.ensures in
    let k = c.kind_answered-kind.ensures in
    let m : 16 < c.in_ok-held.held.len = omega (arith, c.if-held-gt-CAPACITY.true) in
    lands_16 c.args.b (kind_of c.args.reply.now - reply_offset) c.args.reply.now (rw (c.eq-finishes.ensures, finishes c.kind_answered-kind.result (kind_of c.args.reply.now) k, sym (idle c.args.b.current c.is_none.ensures)) at c.if-finishes-is_none.false) c.byte.result (rw c.behind_shown-second.ensures.0 at c.byte.ensures) (rw (c.ne.ensures, discards c.kind_answered-kind.result (kind_of c.args.reply.now) k) at c.if-ne-byte.false) c.in_ok-held.held g (rw (c.eq-finishes.ensures, finishes c.kind_answered-kind.result (kind_of c.args.reply.now) k) at c.if-finishes-held.false) m

pub returns : goal.returns
returns c =
    let g = rw (is_view c.joined-all.ensures) at c.in_ok-held.ensures in
    let k = c.kind_answered-kind.ensures in
    let m : c.in_ok-held.held.len ≤ 16 = omega (arith, c.if-held-gt-CAPACITY.false) in
    lands_0 c.args.b (kind_of c.args.reply.now - reply_offset) c.args.reply.now (rw (c.eq-finishes.ensures, finishes c.kind_answered-kind.result (kind_of c.args.reply.now) k, sym (idle c.args.b.current c.is_none.ensures)) at c.if-finishes-is_none.false) c.byte.result (rw c.behind_shown-second.ensures.0 at c.byte.ensures) (rw (c.ne.ensures, discards c.kind_answered-kind.result (kind_of c.args.reply.now) k) at c.if-ne-byte.false) c.in_ok-held.held g (rw (c.eq-finishes.ensures, finishes c.kind_answered-kind.result (kind_of c.args.reply.now) k) at c.if-finishes-held.false) m
