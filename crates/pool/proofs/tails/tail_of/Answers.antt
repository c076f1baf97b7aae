-- A refusal and accepted lists tell nothing; any other reply tells its tail, which stands where the kind and the counts
-- say.
use mathlib.Core.Path.{sym, subst}
use Rattle.paper.specs.Output.{Tail}
use Rattle.paper.specs.Reading.{opening}
use Rattle.paper.specs.Ledger.{read_reply}
use Rattle.paper.specs.Accounts.{tail_in}
use Rattle.pool.specs.Marks.{Tells}
use Rattle.pool.proofs.TailLaws.{tells_quiet, quiet_reply, tail_is}
use Rattle.pool.proofs.tails.tail_of.Goals as goal

pub returns-then-refused-u16_at : goal.returns-then-refused-u16_at
returns-then-refused-u16_at c =
    tells_quiet c.args.n (tail_in (read_reply opening c.args.reply.now)) (quiet_reply opening c.args.reply.now (rw (c.u16_at-refused.ensures, c.u16_at.ensures, c.reply.ensures) at c.if-refused-u16_at.true))

pub returns : goal.returns
returns c =
    let t = rw (c.u16_at-refused.ensures, c.u16_at.ensures, c.reply.ensures) at c.if-refused-u16_at.false in
    subst (λ (v : Tail). Tells c.args.n v c.tail_at.result) (sym (tail_is opening c.args.reply.now t)) (rw (c.opening.ensures, c.tail_place.ensures.0) at c.tail_at.ensures)
