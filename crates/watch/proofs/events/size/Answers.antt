-- `size`: the width of each kind of event, one by one.
use mathlib.Core.Path.{refl}
use native.Mathlib.Omega.{arith}
use Rattle.watch.specs.Events.{size_of}
use Rattle.watch.proofs.events.size.Goals as goal

pub returns-in-Handed : goal.returns-in-Handed
unfolding size_of
returns-in-Handed c = rw c.in-Handed.is (c.shown_width.ensures, omega arith)

pub returns-in-Thrown : goal.returns-in-Thrown
unfolding size_of
returns-in-Thrown c = rw c.in-Thrown.is (refl, omega arith)

pub returns-in-Released : goal.returns-in-Released
unfolding size_of
returns-in-Released c = rw c.in-Released.is (refl, omega arith)
