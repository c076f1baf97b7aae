-- The picture is stored, and one round over the pictures is made.
use Prim.Native.Nat.{◌≤◌}
use mathlib.Core.Path.{subst}
use native.Mathlib.Omega.{arith}
use Rattle.store.specs.Tails.{HoldsMoved}
use Rattle.store.proofs.Ends.{empty_room, finishes}
use Rattle.store.proofs.operations.finish_picture.Goals as goal

pub bump_as_needed-requires : goal.bump_as_needed-requires
bump_as_needed-requires c =
    let t = c.store_picture-t in
    let few : t.result.len ≤ 16 = omega (arith, t.ensures.0) in
    let r = empty_room c.none.ensures few in
    (r.0, r.1, r.2, rw c.latency_of.ensures at c.find_lowest_poc_for_bumping-f.ensures)

pub returns : goal.returns
returns c =
    let l = c.args.l in
    let t = c.store_picture-t in
    let x = c.none in
    subst (HoldsMoved c.bump_as_needed.result) (finishes l t.result.places t.result.len _ x.result x.ensures t.ensures.1) c.bump_as_needed.ensures
