use Rattle.store.specs.Walks.{change_by}
use Rattle.store.proofs.Saving.{Loaded}
use Rattle.store.proofs.words.load.Given as goal

abbrev pub invariant-loop-i : goal.invariant-loop-i
invariant-loop-i l = Loaded (change_by l.x) l.store l.places l.i
