-- What is taken and what is written lies within the buffers, so the rest of each file can be moved to the start. Where
-- nothing is taken no pair waits.
use mathlib.Core.Path.{refl}
use native.Mathlib.Omega.{arith}
use Rattle.compare.proofs.Turning.{starved, lined}
use Rattle.compare.proofs.turn.Goals as goal

pub returns-then-l-clause-turned : goal.returns-then-l-clause-turned
returns-then-l-clause-turned g c =
    let l = rw (c.waiting.ensures.waits.0, c.waiting.ensures.waits.1, c.waiting-2.ensures.waits.0, c.waiting-2.ensures.waits.1) at c.lines-l.ensures in
    starved c.args.s c.args.first.now.bytes c.args.second.now.bytes c.requires.held_in_bounds c.requires.in_bounds (c.waiting.ensures.room (omega arith), c.waiting-2.ensures.room (omega arith)) l.paired c.if-l.true l.all c.go_on.ensures.went

pub returns-then-wrote-clause-turned : goal.returns-then-wrote-clause-turned
returns-then-wrote-clause-turned g c =
    let l = rw (c.waiting.ensures.waits.0, c.waiting.ensures.waits.1, c.waiting-2.ensures.waits.0, c.waiting-2.ensures.waits.1) at c.lines-l.ensures in
    rw (c.without.ensures, c.without-2.ensures)
    (lined c.args.s c.args.first.now.bytes c.args.second.now.bytes c.requires.held_in_bounds c.requires.in_bounds (c.waiting.ensures.room (omega arith), c.waiting-2.ensures.room (omega arith)) l.paired refl refl c.if-l.false l.within c.shift.ensures c.shift-2.ensures)

pub returns-else-wrote-clause-turned : goal.returns-else-wrote-clause-turned
returns-else-wrote-clause-turned g c =
    let l = rw (c.waiting.ensures.waits.0, c.waiting.ensures.waits.1, c.waiting-2.ensures.waits.0, c.waiting-2.ensures.waits.1) at c.lines-l.ensures in
    rw (c.without.ensures, c.without-2.ensures)
    (lined c.args.s c.args.first.now.bytes c.args.second.now.bytes c.requires.held_in_bounds c.requires.in_bounds (c.waiting.ensures.room (omega arith), c.waiting-2.ensures.room (omega arith)) l.paired refl refl c.if-l.false l.within c.shift.ensures c.shift-2.ensures)
