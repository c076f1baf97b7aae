use mathlib.Core.Path.{◌≡◌}
use Prim.Native.Nat.{◌*◌}
use lib.ListN.{length}
use Rattle.stream.specs.Text.{Wrote}
use Rattle.show.specs.Items.{step_of, more_text}
use Rattle.show.proofs.lists.put_more.Given as goal

abbrev pub invariant-loop-i : goal.invariant-loop-i
invariant-loop-i l = (length l.d ≡ length l.initial.d) × Wrote l.initial.d l.at (more_text l.item l.reply l.from l.i) (step_of l.item * l.i) l.end l.d
