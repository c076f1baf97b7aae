-- The tail from 6 on, and the head before it.
use native.Mathlib.Omega.{arith}
use Rattle.paper.specs.Replies.{tail_bytes}
use Rattle.store.specs.Tails.{tail_in}
use Rattle.session.specs.Said.{reply_kind}
use Rattle.session.proofs.Bytes.{tail_room, framed_last}
use Rattle.session.proofs.replies.put_done.Goals as goal

pub overflow_cast-len : goal.overflow_cast-len
overflow_cast-len c =
    omega (arith, tail_room c.args.x c.requires.0)

pub returns : goal.returns
returns c =
    framed_last c.args.d.now (tail_bytes (tail_in c.args.x)) (reply_kind c.args.kind) c.put_tail-len.ensures (omega (arith, tail_room c.args.x c.requires.0)) (rw c.reply.ensures at c.put_head.ensures)
