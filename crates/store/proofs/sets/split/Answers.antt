-- What stood in the runs stands in front, and behind it what the entries walked over found, each in the run that its
-- flag names.
use Prim.Native.Nat.{◌+◌, ◌<◌}
use native.Mathlib.Omega.{arith}
use Rattle.store.proofs.Filling.{parted_none, parted_used, parted_rest}
use Rattle.store.proofs.sets.split.Goals as goal
use Rattle.store.proofs.sets.split.Goals.{then-wishes-at, else-wishes-at}

pub loop-i-init : goal.loop-i-init
loop-i-init c = parted_none _ _ _ c.requires.0

pub loop-i-preserved : goal.loop-i-preserved
loop-i-preserved c =
    let room : c.loop-i.r.used.len + c.loop-i.r.rest.len < 16 = omega arith in
    elim c.if-wishes-at.branch [
      | then-wishes-at w ↦ rw (w.r-is, w.push.ensures) (parted_used c.loop-i.invariant room w.if-wishes-at.true)
      | else-wishes-at w ↦ rw (w.r-is, w.push-else-wishes-at.ensures) (parted_rest c.loop-i.invariant room w.if-wishes-at.false)
    ]
