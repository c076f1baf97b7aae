-- The picture is finished and the store emptied under the limits of the words, and the tail of both is the reply.
use Rattle.store.proofs.Ends.{tail_good}
use Rattle.session.proofs.Saying.{drained_now_lem, idles}
use borrow.Author.Rules.{rules}
use Rattle.session.proofs.calls.drain_current.Goals as goal

pub put_done-requires : goal.put_done-requires
put_done-requires c =
    (tail_good c.finish_and_drain-m.ensures.tail, search rules)

pub returns : goal.returns
returns c =
    drained_now_lem c.before.before.args.front.now c.before.before.args.store.now c.before.before.args.c c.before.before.requires.0 c.before.before.requires.1 c.limits_in-l.ensures c.prev_in-q.ensures c.prev_after.ensures
    c.finish_and_drain-m.ensures (idles (c.put_idle.ensures.front, c.put_idle.ensures.words)) c.put_done.ensures
