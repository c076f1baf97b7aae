-- Some turns led here, and one turn more leads on.
use Rattle.std.proofs.Common.{arith, refl, ap, rules, ◌∙◌}
use Rattle.stream.proofs.Running.{no_turn, next_turn}
use Rattle.filter.specs.Next.{is_more}
use Rattle.filter.specs.Turns.{Starts, Turns}
use Rattle.filter.proofs.Running.{serves}
use Rattle.filter.proofs.run.Goals as goal

pub loop-init : goal.loop-init
loop-init g c =
    rw c.start-t.ensures
    (record {
      held = omega arith;
      long = refl;
      room = refl;
      on = refl;
      reached = no_turn (Starts _) (Turns g.M.Machine.moves) _ (refl, refl, refl);
    })

pub loop-preserved : goal.loop-preserved
loop-preserved g c =
    let l = c.loop in
    let t = c.turn-t in
    record {
      held = t.ensures.held_in_bounds_2;
      long = t.auto.input ∙ l.invariant.long;
      room = t.auto.output ∙ l.invariant.room;
      on = search rules;
      reached = next_turn (Starts _) (Turns g.M.Machine.moves) _ _ l.invariant.reached (ap is_more l.invariant.on, t.ensures.turned);
    }

pub returns-after-loop : goal.returns-after-loop
returns-after-loop g c = serves g.M.Machine.moves _ _ c.loop.invariant.reached

pub returns-then-ne : goal.returns-then-ne
returns-then-ne g c =
    let l = c.loop.invariant in serves g.M.Machine.moves _ _ (next_turn (Starts _) (Turns g.M.Machine.moves) _ _ l.reached (ap is_more l.on, c.turn-t.ensures.turned))
