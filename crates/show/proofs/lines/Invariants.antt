use Prim.Native.Nat.{◌-◌, ◌≤◌}
use mathlib.Core.Path.{◌≡◌}
use lib.ListN.{length}
use Rattle.show.specs.Stream.{Lines}
use Rattle.show.proofs.lines.Given as goal

abbrev pub invariant-loop-made : goal.invariant-loop-made
invariant-loop-made l = (l.taken ≤ length l.bytes) × (l.made ≤ length l.out) × (length l.out ≡ length l.initial.out) × Lines l.initial.reading l.number l.bytes l.reading l.next l.taken l.made l.initial.out l.out × (l.next ≤ 18446744073709551615)

abbrev pub decreases-loop-made : goal.decreases-loop-made
decreases-loop-made l = length l.bytes - l.taken
