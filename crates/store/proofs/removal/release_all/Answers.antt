-- Each turn puts one surface behind the others; all but those is as it was.
use mathlib.Core.Path.{◌≡◌, refl, ap}
use native.Mathlib.Omega.{arith}
use mathlib.Core.List.{List}
use Rattle.paper.specs.declared.Picture.{Picture}
use Rattle.store.specs.Places.{place_at, front}
use Rattle.store.specs.Walks.{surface_of}
use Rattle.store.proofs.Gone.{pushed_none, pushed_take, keep_everything}
use Rattle.store.proofs.removal.release_all.Goals as goal

pub loop-i-init : goal.loop-i-init
loop-i-init c = let t = c.requires.0.tail in (refl, t.handed, t.thrown, pushed_none _ _ _ t.released)

pub loop-i-preserved : goal.loop-i-preserved
loop-i-preserved c =
    let v = c.loop-i.invariant in
    let e = ap (λ (ps : List Picture). surface_of (place_at ps c.loop-i.i)) v.0 in
    (v.0, v.1, v.2, pushed_take v.3 _ e (omega (arith, c.requires.1, v.3.few)) refl)

pub returns : goal.returns
returns c =
    let m = c.args.m in
    let v = c.loop-i.invariant in
    let e : c.loop-i.i ≡ m.len = omega arith in
    record { len = refl; tail = record { handed = v.1; thrown = v.2; released = rw (keep_everything (front m.places m.len)) at (rw e at v.3.holds) } }
