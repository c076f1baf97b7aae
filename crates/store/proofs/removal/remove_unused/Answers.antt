-- Each turn moves a picture up or puts its surface behind the others, and the places from it on are as they were.
use mathlib.Core.Bool.{not}
use mathlib.Core.Path.{◌≡◌, sym, ap, ◌∙◌}
use native.Mathlib.Omega.{arith}
use lib.ListN.{length}
use Rattle.paper.specs.Output.{in_use}
use Rattle.paper.specs.declared.Picture.{Picture}
use Rattle.store.specs.Walks.{surface_of}
use Rattle.store.specs.Places.{place_at}
use Rattle.store.proofs.Gone.{kept_none, kept_is, kept_take, kept_pass, pushed_first, pushed_take, pushed_pass}
use Rattle.store.proofs.removal.remove_unused.Goals as goal
use Rattle.store.proofs.removal.remove_unused.Goals.{then-is_used, else-is_used}

pub loop-i-init : goal.loop-i-init
loop-i-init c =
    let l : length c.args.s.places ≡ 16 = c.well_formed.0.1.1.0.1.0.1 in
    (kept_none _ _ l, pushed_first _ _ _ c.none-released.ensures)

pub loop-i-preserved : goal.loop-i-preserved
loop-i-preserved c =
    let u : in_use (place_at c.loop-i.places c.loop-i.i) ≡ c.is_used.result = sym c.is_used.ensures in
    let x = kept_is c.loop-i.invariant.0 in
    let y = ap (λ (q : Picture). not (in_use q)) (sym x) ∙ ap not u in
    elim c.if-is_used.branch [
      | then-is_used w ↦ rw (w.places-is, w.released-is, w.k-is) (kept_take c.loop-i.invariant.0 (u ∙ w.if-is_used.true) (omega arith), pushed_pass c.loop-i.invariant.1 (y ∙ ap not w.if-is_used.true))
      | else-is_used w ↦ rw (w.places-is, w.released-is ∙ w.push.ensures, w.k-is) (kept_pass c.loop-i.invariant.0 (u ∙ w.if-is_used.false), pushed_take c.loop-i.invariant.1 _ (ap surface_of x) (omega (arith, c.loop-i.invariant.1.few)) (y ∙ ap not w.if-is_used.false))
    ]
