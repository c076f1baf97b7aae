-- The store is emptied, and its tail is the reply.
use Rattle.store.proofs.Ends.{tail_good}
use Rattle.session.proofs.Saying.{drained_idle, idles}
use borrow.Author.Rules.{rules}
use Rattle.session.proofs.calls.drain_idle.Goals as goal

pub put_done-requires : goal.put_done-requires
put_done-requires c = (tail_good c.drain-m.ensures.tail, search rules)

pub returns : goal.returns
returns c =
    drained_idle c.before.args.front.now c.before.args.store.now c.before.requires.0 c.prev_in-q.ensures c.drain-m.ensures (idles (c.put_idle.ensures.front, c.put_idle.ensures.words)) c.put_done.ensures
