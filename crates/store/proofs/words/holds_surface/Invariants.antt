use mathlib.Core.Bool.{false}
use mathlib.Core.Path.{◌≡◌}
use Rattle.paper.specs.Words.{any_b}
use Rattle.paper.specs.Step.{held_by}
use Rattle.store.specs.StoreWords.{pictures}
use Rattle.store.proofs.words.holds_surface.Given as goal

abbrev pub invariant-loop-i : goal.invariant-loop-i
invariant-loop-i l = any_b (held_by l.x) (pictures l.store l.i) ≡ false
