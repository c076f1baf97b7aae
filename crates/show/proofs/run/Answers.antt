-- Some turns led here from the first reply, and one turn more does where it ends.
use Rattle.std.proofs.Common.{arith, refl, ap, rules}
use Rattle.stream.proofs.Running.{no_turn, next_turn}
use Rattle.filter.specs.Next.{is_more}
use Rattle.show.specs.Turns.{Starts, Turns}
use Rattle.show.proofs.Running.{shows}
use Rattle.show.proofs.run.Goals as goal

pub loop-init : goal.loop-init
loop-init g c = (omega arith, refl, no_turn Starts Turns _ (refl, refl, refl, c.opening.ensures))

pub loop-preserved : goal.loop-preserved
loop-preserved g c =
    (c.turn-t.ensures.held_in_bounds_2, search rules, next_turn Starts Turns _ _ c.loop.invariant.2 (ap is_more c.loop.invariant.1, c.turn-t.ensures.turned))

pub returns-then-ne : goal.returns-then-ne
returns-then-ne g c = shows _ (next_turn Starts Turns _ _ c.loop.invariant.2 (ap is_more c.loop.invariant.1, c.turn-t.ensures.turned))

pub returns-after-loop : goal.returns-after-loop
returns-after-loop g c = shows _ c.loop.invariant.2
