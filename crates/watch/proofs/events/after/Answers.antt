-- Each way of the match is a walk with the contract of that way.
use Rattle.paper.specs.Ledger.{upon}
use Rattle.watch.proofs.events.after.Goals as goal

pub returns-in-Throw : goal.returns-in-Throw
unfolding upon
returns-in-Throw c = rw c.in-Throw.is c.change_all-in-Throw.ensures

pub returns-in-Free : goal.returns-in-Free
unfolding upon
returns-in-Free c = rw c.in-Free.is c.freed.ensures

pub returns-in-Hand : goal.returns-in-Hand
unfolding upon
returns-in-Hand c = rw c.in-Hand.is c.change_all.ensures
