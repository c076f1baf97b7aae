-- Each turn passes one place over or puts its serial behind the others; all but those is as it was.
use mathlib.Core.List.{List}
use mathlib.Core.Path.{refl, sym, ap, ◌∙◌}
use native.Mathlib.Omega.{arith}
use Rattle.paper.specs.declared.Picture.{Picture}
use Rattle.store.specs.Walks.{serial_of}
use Rattle.store.specs.Places.{place_at}
use Rattle.store.specs.Tails.{waits}
use Rattle.store.proofs.Gone.{pushed_none, pushed_take, pushed_pass}
use Rattle.store.proofs.removal.throw_waiting.Goals as goal
use Rattle.store.proofs.removal.throw_waiting.Goals.{then-p, else-p}

pub loop-i-init : goal.loop-i-init
loop-i-init c = (refl, refl, c.requires.0.tail.handed, c.requires.0.tail.released, pushed_none _ _ _ c.requires.0.tail.thrown)

pub loop-i-preserved : goal.loop-i-preserved
loop-i-preserved c =
    let e = ap (λ (ps : List Picture). place_at ps c.loop-i.i) c.loop-i.invariant.0 in
    elim c.if-p.branch [
      | then-p w ↦ rw w.r-is (c.loop-i.invariant.0, c.loop-i.invariant.1, c.loop-i.invariant.2, c.loop-i.invariant.3, pushed_take c.loop-i.invariant.4 _ (ap serial_of e) (omega (arith, c.requires.1, c.loop-i.invariant.4.few)) (ap waits (sym e) ∙ w.if-p.true))
      | else-p w ↦ rw w.r-is (c.loop-i.invariant.0, c.loop-i.invariant.1, c.loop-i.invariant.2, c.loop-i.invariant.3, pushed_pass c.loop-i.invariant.4 (ap waits (sym e) ∙ w.if-p.false))
    ]
