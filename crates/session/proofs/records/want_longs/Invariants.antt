use mathlib.Core.Path.{◌≡◌}
use lib.ListN.{length}
use Rattle.std.proofs.Common.{Ok}
use Prim.Native.Nat.{◌+◌, ◌*◌, ◌^◌, min}
use Rattle.session.specs.Parts.{longs_at, WantsAll}
use Rattle.session.proofs.records.want_longs.Given as goal

abbrev pub invariant-loop-i : goal.invariant-loop-i
invariant-loop-i l = (WantsAll (longs_at (2 ^ (min l.k 16)) l.poc l.msg (16 + 5 * l.from) l.i) l.from l.initial.wishes (Ok tt) l.wishes) × (length l.wishes ≡ 16)
