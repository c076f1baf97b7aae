-- The places built so far hold the lines walked over, changed.
use Rattle.derivation.proofs.Pad.{is_good, is_view}
use Rattle.watch.proofs.Walks.{map_more}
use Rattle.watch.specs.Book.{no_line, view}
use Rattle.watch.specs.Walks.{changing}
use Rattle.watch.proofs.held.change_all.Goals as goal

pub push-t-requires-clause-good : goal.push-t-requires-clause-good
push-t-requires-clause-good c = is_good c.loop-e.invariant

pub loop-e-preserved : goal.loop-e-preserved
loop-e-preserved c =
    let lines = c.in_use-e-items.ensures.lines in
    let lt = rw lines at c.loop-e-test.true in
    rw (is_view c.loop-e.invariant, c.changed.ensures, lines, ← map_more (changing c.args.off) (view c.args.l) c.loop-e.e-index no_line lt) at c.push-t.ensures
