-- A line is there or not, and the definition says the same of both.
use Rattle.paper.specs.Blame.{first_line}
use Rattle.watch.proofs.held.of_line.Goals as goal

pub returns-in-None : goal.returns-in-None
unfolding first_line
returns-in-None c = rw c.in-None.is

pub returns-in-Some : goal.returns-in-Some
unfolding first_line
returns-in-Some c = rw c.in-Some.is
