use mathlib.Core.Path.{◌≡◌}
use lib.ListN.{drop}
use Rattle.store.specs.Walks.{passing, found_of}
use Rattle.store.proofs.lent.first_in.Given as goal

abbrev pub invariant-loop-p : goal.invariant-loop-p
invariant-loop-p l = found_of (passing l.t) (drop l.p-index l.ps) ≡ found_of (passing l.t) l.ps
