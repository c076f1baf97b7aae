-- Each way of the match is what the definition names.
use Rattle.paper.specs.Blame.{event_blame}
use Rattle.watch.proofs.events.event_blame.Goals as goal

pub returns-in-Hand : goal.returns-in-Hand
unfolding event_blame
returns-in-Hand c = rw c.in-Hand.is

pub returns-in-Throw : goal.returns-in-Throw
unfolding event_blame
returns-in-Throw c = rw c.in-Throw.is c.found.ensures

pub returns-in-Free : goal.returns-in-Free
unfolding event_blame
returns-in-Free c = rw c.in-Free.is c.found-in-Free.ensures
