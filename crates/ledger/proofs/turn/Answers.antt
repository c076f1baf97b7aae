-- What is taken lies within what is held, so the rest can be moved to the start. Where nothing is taken no exchange is
-- whole.
use Rattle.ledger.proofs.Turning.{starved}
use Rattle.ledger.proofs.Taking.{none_taken, takes}
use Rattle.watch.proofs.Numbers.{no_part}
use Rattle.ledger.proofs.turn.Goals as goal

pub returns-then-taken-eq0-clause-turned : goal.returns-then-taken-eq0-clause-turned
returns-then-taken-eq0-clause-turned g c =
    let z = none_taken c.args.s c.args.records.now c.args.replies.now c.requires.held_in_bounds.0 c.requires.held_in_bounds.1 c.hear_all-p.ensures c.if-taken-eq0.true in
    starved c.args.s c.args.records.now c.args.replies.now c.requires.held_in_bounds.0 c.requires.held_in_bounds.1 z c.starve.ensures.went

pub returns-clause-turned : goal.returns-clause-turned
returns-clause-turned g c =
    rw (c.plus.ensures, c.without-x.ensures, c.without-y.ensures, no_part c.hear_all-p.result.broken c.is_none.ensures)
    (takes c.args.s c.args.records.now c.args.replies.now c.requires.held_in_bounds.0 c.requires.held_in_bounds.1 c.hear_all-p.ensures c.shift.ensures c.shift-2.ensures c.if-taken-eq0.false)
