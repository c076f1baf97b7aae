-- Some turns led here, and the run goes on.
use Prim.Native.Nat.{◌≤◌}
use mathlib.Core.Path.{◌≡◌}
use lib.ListN.{length}
use Rattle.stream.proofs.Running.{Reached}
use Rattle.filter.specs.declared.Next.TheVariants.{More}
use Rattle.filter.specs.Turns.{standing, Starts, Turns}
use Rattle.filter.proofs.run.Given as goal

abbrev pub invariant-loop : goal.invariant-loop
invariant-loop g l = let m = g.M.Machine in record {
  held : l.t.held ≤ length l.input;
  long : length l.input ≡ length l.initial.input;
  room : length l.output ≡ length l.initial.output;
  on : l.t.next ≡ More;
  reached : Reached (Starts (m.state l.initial.machine)) (Turns m.moves) (standing (m.state l.machine) l.t l.input l.output);
}
