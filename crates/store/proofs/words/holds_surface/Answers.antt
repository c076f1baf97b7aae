-- None of the pictures passed holds it, so the first that does ends the walk.
use Prim.Native.Nat.{◌<◌}
use mathlib.Core.Path.{sym, ap, ◌∙◌}
use native.Mathlib.Omega.{arith}
use Rattle.paper.specs.Step.{held_by}
use Rattle.store.specs.StoreWords.{picture_at, count_in}
use Rattle.store.proofs.Walks.{any_none, any_miss, any_hit}
use Rattle.store.proofs.words.holds_surface.Goals as goal

pub loop-i-init : goal.loop-i-init
loop-i-init c = any_none _ _

pub returns-then-passes : goal.returns-then-passes
returns-then-passes c =
    let a = c.args in
    let n : c.loop-i.i < count_in a.store.now = omega (arith, c.used_places-i-end.ensures.0) in
    sym (any_hit (held_by a.x) (picture_at a.store.now) c.loop-i.i _ n (ap (held_by a.x) (sym c.picture_at.ensures) ∙ sym c.passes.ensures ∙ c.if-passes.true))

pub loop-i-preserved : goal.loop-i-preserved
loop-i-preserved c =
    let a = c.args in
    any_miss (held_by a.x) (picture_at a.store.now) c.loop-i.i c.loop-i.invariant (ap (held_by a.x) (sym c.picture_at.ensures) ∙ sym c.passes.ensures ∙ c.if-passes.false)
