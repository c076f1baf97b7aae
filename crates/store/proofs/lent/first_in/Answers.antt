-- None of the pictures passed is sought, so the first that is ends the walk.
use mathlib.Core.Path.{sym, ◌∙◌}
use Rattle.store.specs.Walks.{passing}
use Rattle.store.proofs.Walks.{found_here, found_later, found_end}
use Rattle.store.proofs.lent.first_in.Goals as goal

pub returns-then-passes : goal.returns-then-passes
returns-then-passes c = sym (found_here (passing c.args.t) c.args.ps.now c.loop-p.p-index c.loop-p-test.true (sym c.passes.ensures ∙ c.if-passes.true)) ∙ c.loop-p.invariant

pub loop-p-preserved : goal.loop-p-preserved
loop-p-preserved c = found_later (passing c.args.t) c.args.ps.now c.loop-p.p-index c.loop-p-test.true (sym c.passes.ensures ∙ c.if-passes.false) ∙ c.loop-p.invariant

pub returns : goal.returns
returns c = sym (found_end (passing c.args.t) c.args.ps.now c.loop-p.p-index c.loop-p-test.false) ∙ c.loop-p.invariant
