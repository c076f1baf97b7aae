use mathlib.Core.List.{map}
use lib.ListN.{take}
use Rattle.watch.specs.Book.{Holds, view}
use Rattle.watch.specs.Walks.{changing}
use Rattle.watch.proofs.held.change_all.Given as goal

abbrev pub invariant-loop-e : goal.invariant-loop-e
invariant-loop-e l = Holds l.t (map (changing l.off) (take l.e-index (view l.fn.l)))
