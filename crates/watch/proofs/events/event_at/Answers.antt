-- Each way of the match reads an event of that part.
use Rattle.watch.specs.Events.{event_at}
use Rattle.watch.proofs.events.event_at.Goals as goal

pub returns-in-Handed : goal.returns-in-Handed
unfolding event_at
returns-in-Handed c = rw (c.in-Handed.is, c.shown_at.ensures)

pub returns-in-Thrown : goal.returns-in-Thrown
unfolding event_at
returns-in-Thrown c = rw (c.in-Thrown.is, c.u32_at.ensures)

pub returns-in-Released : goal.returns-in-Released
unfolding event_at
returns-in-Released c = rw (c.in-Released.is, c.u32_at-in-Released.ensures)
