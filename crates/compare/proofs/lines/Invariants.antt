use Prim.Native.Nat.{◌+◌, ◌-◌, ◌≤◌}
use lib.ListN.{length}
use Rattle.compare.specs.Pairs.{Paired}
use Rattle.compare.proofs.lines.Given as goal

abbrev pub invariant-loop-c : goal.invariant-loop-c
invariant-loop-c l = (l.c.first ≤ length l.first.bytes.now) × (l.c.second ≤ length l.second.bytes.now) × (l.c.made ≤ length l.out) × Paired l.number l.first.bytes.now l.first.ended l.second.bytes.now l.second.ended l.initial.out l.c l.out

abbrev pub decreases-loop-c : goal.decreases-loop-c
decreases-loop-c l = (length l.first.bytes.now - l.c.first) + (length l.second.bytes.now - l.c.second)
