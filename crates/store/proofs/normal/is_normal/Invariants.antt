use Prim.Native.Nat.{ℕ, ◌<◌}
use Rattle.store.specs.StoreWords.{InOrder}
use Rattle.store.proofs.normal.is_normal.Given as goal

abbrev pub invariant-loop-i : goal.invariant-loop-i
invariant-loop-i l = (j : ℕ) → j < l.i → InOrder l.store l.n j
