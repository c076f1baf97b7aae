-- Those that wait are thrown away, and all are released.
use native.Mathlib.Omega.{arith}
use Rattle.store.proofs.Ends.{moved_good, throws_holds, clears}
use Rattle.store.proofs.operations.clear.Goals as goal

pub release_all-requires : goal.release_all-requires
release_all-requires c =
    let h = throws_holds c.requires.0 c.throw_waiting.ensures in
    (moved_good h, omega (arith, h.tail.released.long, c.requires.0.tail.released.long, h.few, c.requires.2))

pub returns : goal.returns
returns c = clears c.requires.0 c.throw_waiting.ensures c.release_all.ensures
