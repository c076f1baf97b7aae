-- Some turns led here from number 0, the sources are those of the two files, and the run goes on.
use Prim.Native.Nat.{◌≤◌}
use mathlib.Core.Path.{◌≡◌}
use Rattle.compare.specs.declared.Next.TheVariants.{More}
use lib.ListN.{length}
use Rattle.stream.proofs.Running.{Reached}
use Rattle.compare.specs.Turns.{standing, Starts, Turning}
use Rattle.compare.proofs.run.Given as goal

abbrev pub invariant-loop : goal.invariant-loop
invariant-loop g l =
    (l.s.first.held ≤ length l.first.bytes) × (l.s.second.held ≤ length l.second.bytes) × (l.first.source.fd ≡ l.s.first.fd) × (l.second.source.fd ≡ l.s.second.fd) × (l.s.next ≡ More)
    × Reached (Starts l.first_fd l.second_fd) Turning (standing l.s l.first.bytes l.second.bytes l.out)
