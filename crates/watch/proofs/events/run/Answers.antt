-- From here on the events give the part and the lines that all of them give.
use Rattle.derivation.proofs.Pad.{is_good}
use Rattle.watch.proofs.Numbers.{positive}
use Rattle.watch.proofs.PartLaws.{stops, run_stops, run_again, run_ends}
use Rattle.watch.specs.Events.{event_in}
use Rattle.paper.specs.Watch.{event_part}
use native.Mathlib.Omega.{arith}
use mathlib.Core.List.{[]}
use mathlib.Core.Path.{◌≡◌, ◌∙◌, sym}
use Rattle.watch.specs.Book.{view}
use Rattle.watch.proofs.events.run.Goals as goal

pub returns-in-Err : goal.returns-in-Err
returns-in-Err c =
    let h = rw c.in-Err.is at c.may_happen.ensures in
    let q : event_part (event_in c.event_at-e.result) (view c.loop.lines) ≡ 0 → ⊥ = λ z. positive c.in-Err.part (h ∙ z) in
    let f = run_stops c.args.st c.args.p c.args.reply.now c.loop.place c.args.n c.loop.counter _ [] _ c.loop.lines (event_in c.event_at-e.result) c.event_at-e.ensures q (omega arith) c.loop.invariant.1.1.1.0 c.loop.invariant.1.1.1.1.1 in
    stops (h ∙ f.0) (c.event_blame-blamed.ensures ∙ f.1)

pub loop-preserved : goal.loop-preserved
loop-preserved c =
    let h = rw c.in_default.is at c.may_happen.ensures in
    let g = run_again c.args.st c.args.p c.args.reply.now c.loop.place c.args.n c.loop.counter _ _ _ c.loop.lines (event_in c.event_at-e.result) c.size-step.result c.after-lines.result c.size-step.ensures.0 c.event_at-e.ensures (sym h) (omega arith) c.after-lines.ensures c.loop.invariant.1.1.1.0 c.loop.invariant.1.1.1.1.0 c.loop.invariant.1.1.1.1.1 in
    (omega arith, (omega (arith, c.size-step.ensures.1), (is_good c.after-lines.ensures, (g.0, (g.1, g.2)))))

pub returns : goal.returns
returns c =
    let g = run_ends c.args.st c.args.p c.args.reply.now c.loop.place c.args.n c.loop.counter _ _ _ c.loop.lines (omega arith) c.loop.invariant.1.1.1.0 c.loop.invariant.1.1.1.1.0 c.loop.invariant.1.1.1.1.1 in
    record { part = g.0; lines = rw g.1 at c.loop.invariant.1.1.0; blamed = tt }
