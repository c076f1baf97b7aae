-- Each turn marks one place or leaves it, and the places from it on are as they were.
use Prim.Native.Nat.{◌≤◌}
use mathlib.Core.Path.{◌≡◌, ◌∙◌, ap}
use mathlib.Core.List.{List, ◌++◌}
use native.Mathlib.Omega.{arith}
use lib.ListN.{length, take, drop, length-take}
use Rattle.paper.specs.declared.Picture.{Picture}
use Rattle.store.specs.Walks.{blank}
use Rattle.store.specs.Places.{place_at}
use Rattle.store.specs.Runs.{members_at, marking}
use Rattle.store.proofs.Filling.{changed_none, changed_more, changed_front, marking_on, marking_off}
use Rattle.store.proofs.lent.mark_where_in.Goals as goal
use Rattle.store.proofs.lent.mark_where_in.Goals.{then-is_among-inside, else-is_among-inside}

pub loop-p-init : goal.loop-p-init
loop-p-init c = changed_none _ _ _

pub loop-p-preserved : goal.loop-p-preserved
loop-p-preserved c =
    let a = c.args in
    let ns = members_at a.xs a.from a.n in
    let g = marking a.inside a.mark ns in
    let ps = take a.m a.ps.now in
    let i = c.loop-p.p-index in
    let p = place_at c.loop-p.p-items i in
    elim c.if-is_among-inside.branch [
      | then-is_among-inside w ↦ w.p-items-is ∙ changed_more blank g ps i c.loop-p.p-items _ c.loop-p.invariant (w.set_mark.ensures ∙ marking_on a.mark ns p a.inside _ c.is_among.ensures w.if-is_among-inside.true)
      | else-is_among-inside w ↦ w.p-items-is ∙ changed_more blank g ps i c.loop-p.p-items _ c.loop-p.invariant (marking_off a.mark ns p a.inside _ c.is_among.ensures w.if-is_among-inside.false)
    ]

pub returns : goal.returns
returns c =
    let a = c.args in
    let g = marking a.inside a.mark (members_at a.xs a.from a.n) in
    let long : a.m ≤ length a.ps.now = omega arith in
    let e : c.loop-p.p-index ≡ a.m = omega (arith, c.loop-p.auto.p-index-end, c.loop-p-test.false, length-take a.m a.ps.now) in
    ap (λ (l : List Picture). l ++ drop a.m a.ps.now) (rw e at c.loop-p.invariant) ∙ changed_front blank g a.ps.now a.m long a.m (omega arith)
