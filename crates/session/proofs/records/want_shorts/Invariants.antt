use mathlib.Core.Path.{◌≡◌}
use lib.ListN.{length}
use Rattle.std.proofs.Common.{Ok}
use Rattle.session.specs.Parts.{shorts_at, WantsAll}
use Rattle.session.proofs.records.want_shorts.Given as goal

abbrev pub invariant-loop-i : goal.invariant-loop-i
invariant-loop-i l = (WantsAll (shorts_at l.poc l.msg 16 l.i) 0 l.initial.wishes (Ok tt) l.wishes) × (length l.wishes ≡ 16)
