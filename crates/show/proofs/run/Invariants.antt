-- Some turns led here from the first reply, and the run goes on.
use Prim.Native.Nat.{◌≤◌}
use mathlib.Core.Path.{◌≡◌}
use Rattle.filter.specs.declared.Next.TheVariants.{More}
use lib.ListN.{length}
use Rattle.stream.proofs.Running.{Reached}
use Rattle.show.specs.Turns.{standing, Starts, Turns}
use Rattle.show.proofs.run.Given as goal

abbrev pub invariant-loop : goal.invariant-loop
invariant-loop g l = (l.t.held ≤ length l.input) × (l.t.next ≡ More) × Reached Starts Turns (standing l.t l.input l.output)
