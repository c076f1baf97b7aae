use lib.ListN.{take}
use Rattle.paper.specs.Words.{keep}
use Rattle.watch.specs.Book.{Holds, view}
use Rattle.watch.specs.Walks.{away}
use Rattle.watch.proofs.held.freed.Given as goal

abbrev pub invariant-loop-e : goal.invariant-loop-e
invariant-loop-e l = Holds l.t (keep (away l.x) (take l.e-index (view l.fn.l)))
