-- The length is taken as 16 at most.
use native.Mathlib.Omega.{arith}
use Rattle.watch.specs.Book.{view, clamped}
use Rattle.watch.proofs.Walks.{map_same, used_length}
use Rattle.watch.proofs.held.held_of.Goals as goal

pub returns : goal.returns
returns c =
    let h = rw (c.within_capacity.ensures, map_same (view (clamped c.args.l))) at c.change_all.ensures in
    (h, omega (arith, h.long, used_length (clamped c.args.l).len c.args.l.items))
