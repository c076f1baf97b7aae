-- Some turns led here from number 0, and one turn more does where it ends.
use mathlib.Core.Path.{refl, ap}
use mir.Facts.{to_z-of_z}
use borrow.Author.Rules.{rules}
use Rattle.stream.proofs.Sides.{none_held}
use Rattle.stream.proofs.Running.{no_turn, next_turn}
use Rattle.compare.specs.Next.{is_more}
use Rattle.compare.specs.Turns.{Turning}
use Rattle.compare.proofs.Running.{compares}
use Rattle.compare.proofs.run.Goals as goal

pub loop-init : goal.loop-init
loop-init g c =
    let a = c.unread.ensures in
    let b = c.unread-2.ensures in
    (none_held a, none_held b, search rules, search rules, refl, no_turn _ Turning _ (record { number = refl; first = a; second = b; more = refl }))

pub loop-preserved : goal.loop-preserved
loop-preserved g c =
    (search rules, search rules, search rules, search rules, search rules, next_turn _ Turning _ _ c.loop.invariant.5 (ap is_more c.loop.invariant.4, c.turn-s.ensures.turned))

pub returns-then-ne : goal.returns-then-ne
returns-then-ne g c =
    rw (to_z-of_z c.ranges.first_fd, to_z-of_z c.ranges.second_fd) at (compares _ _ _ (next_turn _ Turning _ _ c.loop.invariant.5 (ap is_more c.loop.invariant.4, c.turn-s.ensures.turned)))

pub returns-after-loop : goal.returns-after-loop
returns-after-loop g c = rw (to_z-of_z c.ranges.first_fd, to_z-of_z c.ranges.second_fd) at (compares _ _ _ c.loop.invariant.5)
