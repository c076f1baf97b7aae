-- The current picture is dropped, and the store stays.
use Rattle.store.proofs.Ends.{tail_good}
use Rattle.session.proofs.Saying.{abandon_does, idles}
use borrow.Author.Rules.{rules}
use Rattle.session.proofs.calls.abandon_at.Goals as goal

pub put_done-requires : goal.put_done-requires
put_done-requires c = (tail_good c.abandon-m.ensures, search rules)

pub returns : goal.returns
returns c =
    λ xs t. abandon_does c.before.args.front.now xs t c.before.args.c c.before.requires.0 c.prev_in-q.ensures c.abandon-m.ensures (idles (c.put_idle.ensures.front, c.put_idle.ensures.words)) c.put_done.ensures
