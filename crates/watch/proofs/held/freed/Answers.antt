-- The places built so far hold what the filter keeps of the lines walked over.
use native.Mathlib.Omega.{arith}
use mathlib.Core.Path.{◌∙◌, sym}
use lib.ListN.{length-take, take}
use lib.Seq.{take_all}
use Rattle.derivation.proofs.Pad.{is_good, is_view}
use Rattle.paper.specs.Words.{keep}
use Rattle.paper.specs.Ledger.{free}
use Rattle.watch.proofs.Walks.{keep_hit_more, keep_miss_more, keep_short}
use Rattle.watch.specs.Book.{no_line, view}
use Rattle.watch.specs.Walks.{away}
use Rattle.watch.proofs.held.freed.Goals as goal
use Rattle.watch.proofs.held.freed.Goals.{then-stays, else-stays}

pub loop-e-init : goal.loop-e-init
unfolding keep
loop-e-init c = c.none-t.ensures

pub push-t-requires-clause-good : goal.push-t-requires-clause-good
push-t-requires-clause-good c = is_good c.loop-e.invariant

pub push-t-requires-clause-len_bound : goal.push-t-requires-clause-len_bound
push-t-requires-clause-len_bound c =
    let lt = rw c.in_use-e-items.ensures.lines at c.loop-e-test.true in
    let k = keep_short (away c.args.x) (take c.loop-e.e-index (view c.args.l)) in
    let m = length-take c.loop-e.e-index (view c.args.l) in
    omega (arith, c.loop-e.invariant.long, c.in_use-e-items.ensures.few)

pub loop-e-preserved : goal.loop-e-preserved
loop-e-preserved c =
    let lines = c.in_use-e-items.ensures.lines in
    let lt = rw lines at c.loop-e-test.true in
    let f = away c.args.x in
    let v = view c.args.l in
    let i = c.loop-e.e-index in
    elim c.if-stays.branch [
      | then-stays w ↦ let k = rw lines at (sym c.stays.ensures ∙ w.if-stays.true) in rw (w.t-is, keep_hit_more f v i no_line lt k, ← is_view c.loop-e.invariant) (rw lines at w.push-t.ensures)
      | else-stays w ↦ let k = rw lines at (sym c.stays.ensures ∙ w.if-stays.false) in rw (w.t-is, keep_miss_more f v i no_line lt k) c.loop-e.invariant
    ]

pub returns : goal.returns
unfolding free
returns c =
    let v = view c.args.l in
    let le = rw c.in_use-e-items.ensures.lines at c.loop-e-test.false in
    rw (take_all c.loop-e.e-index v le) at c.loop-e.invariant
