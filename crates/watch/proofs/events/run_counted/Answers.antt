-- A count, and as many events behind it.
use Rattle.watch.proofs.Bytes.{counted_is}
use Rattle.watch.proofs.events.run_counted.Goals as goal

pub returns : goal.returns
returns c =
    rw (counted_is c.args.st c.args.p c.args.at c.args.reply.now, ← c.byte-n.ensures) c.run.ensures
