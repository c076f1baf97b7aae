-- Some turns led here from a new book, and one turn more leads on.
use mathlib.Core.Path.{refl}
use borrow.Author.Rules.{rules}
use mir.Facts.{to_z-of_z}
use Rattle.stream.proofs.Running.{no_turn, next_turn}
use Rattle.stream.proofs.Sides.{none_held}
use Rattle.ledger.specs.Turns.{Turning}
use Rattle.ledger.proofs.Running.{judges}
use Rattle.ledger.proofs.run.Goals as goal

pub loop-init : goal.loop-init
loop-init g c =
    let a = c.unread.ensures in
    let b = c.unread-2.ensures in
    record {
      held = none_held a;
      also = none_held b;
      long = refl;
      wide = refl;
      from = search rules;
      with = search rules;
      on = refl;
      reached = no_turn _ Turning _ (record { book = c.new.ensures; number = refl; records = a; replies = b; more = refl });
    }

pub loop-preserved : goal.loop-preserved
loop-preserved g c = let l = c.loop.invariant in record {
  held = search rules;
  also = search rules;
  long = search rules;
  wide = search rules;
  from = search rules;
  with = search rules;
  on = search rules;
  reached = next_turn _ Turning _ _ l.reached (l.on, c.turn-s.ensures.turned);
}

pub returns-then-not-s : goal.returns-then-not-s
returns-then-not-s g c =
    let l = c.loop.invariant in
    rw (to_z-of_z c.ranges.records_fd, to_z-of_z c.ranges.replies_fd) at (judges _ _ _ (next_turn _ Turning _ _ l.reached (l.on, c.turn-s.ensures.turned)))

pub returns-after-loop : goal.returns-after-loop
returns-after-loop g c = rw (to_z-of_z c.ranges.records_fd, to_z-of_z c.ranges.replies_fd) at (judges _ _ _ c.loop.invariant.reached)
