-- The store clears, the current picture first, and its tail is the reply.
use Rattle.store.proofs.Ends.{tail_good}
use Rattle.session.proofs.Saying.{discard_does, idles}
use borrow.Author.Rules.{rules}
use Rattle.session.proofs.calls.discard.Goals as goal

pub put_done-requires : goal.put_done-requires
put_done-requires c = (tail_good c.discard-m.ensures.tail, search rules)

pub returns : goal.returns
returns c =
    λ xs. discard_does c.before.before.args.front.now xs c.before.before.args.store.now c.now_in-x.ensures c.prev_in-q.ensures c.discard-m.ensures (idles (c.put_idle.ensures.front, c.put_idle.ensures.words)) c.put_done.ensures
