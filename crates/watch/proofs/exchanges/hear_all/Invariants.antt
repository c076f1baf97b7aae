use Prim.Native.Nat.{◌-◌, ◌≤◌}
use lib.ListN.{length}
use Rattle.std.specs.Prelude.{None}
use Rattle.watch.specs.Pairs.{paired_of, Watches}
use Rattle.watch.proofs.exchanges.hear_all.Given as goal

abbrev pub invariant-loop-n : goal.invariant-loop-n
invariant-loop-n l = (l.taken ≤ length l.records) × ((l.answered ≤ length l.replies) × ((l.pairs ≤ l.taken) × Watches l.initial.book l.records l.replies (paired_of l.book l.taken l.answered l.pairs None)))

abbrev pub decreases-loop-n : goal.decreases-loop-n
decreases-loop-n l = length l.records - l.taken
