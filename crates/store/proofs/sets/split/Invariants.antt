use Rattle.store.proofs.Filling.{Parted}
use Rattle.store.proofs.sets.split.Given as goal

abbrev pub invariant-loop-i : goal.invariant-loop-i
invariant-loop-i l = Parted l.found l.wishes l.from l.initial.r l.i l.r
