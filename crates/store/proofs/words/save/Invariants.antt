use Rattle.store.proofs.Saving.{Saved}
use Rattle.store.proofs.words.save.Given as goal

abbrev pub invariant-loop-i : goal.invariant-loop-i
invariant-loop-i l = Saved l.m.places l.initial.store l.store l.i
