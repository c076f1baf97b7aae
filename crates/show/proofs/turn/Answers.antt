-- What is taken and what is written lies within the buffers, so the rest of the input can be moved to the start. Where
-- nothing is taken no reply is whole, so what waits is shorter than the input buffer.
use mathlib.Core.Path.{refl}
use borrow.Author.Rules.{rules}
use Rattle.show.proofs.Turning.{waited, lined}
use Rattle.show.proofs.turn.Goals as goal
use Rattle.show.proofs.turn.Goals.{then-wrote, else-wrote}

pub returns-then-l-eq0-clause-turned : goal.returns-then-l-eq0-clause-turned
returns-then-l-eq0-clause-turned g c =
    (waited _ c.args.input.now c.requires.held_in_bounds c.lines-l.ensures.lines c.if-l-eq0.true c.lines-l.ensures.all c.requires.in_bounds (λ k. search rules) c.read_behind-read.ensures c.fed.ensures).1

pub returns-clause-turned : goal.returns-clause-turned
returns-clause-turned g c =
    let l = c.lines-l.ensures in
    elim c.if-wrote.branch [
      | then-wrote w ↦ rw w.result-is (lined _ _ c.requires.held_in_bounds l.lines refl refl c.if-l-eq0.false l.within.0 c.shift.ensures)
      | else-wrote w ↦ rw w.result-is (lined _ _ c.requires.held_in_bounds l.lines refl refl c.if-l-eq0.false l.within.0 c.shift.ensures)
    ]
