-- The buffer first; then what was tried, with the six bytes of a refusal.
use native.Mathlib.Omega.{arith}
use Rattle.session.proofs.Steps.{answered_ok, answered_err, unanswered}
use Rattle.session.proofs.step_at.Goals as goal

pub returns-then-reply-lt-REPLY : goal.returns-then-reply-lt-REPLY
returns-then-reply-lt-REPLY c = rw c.no_room.ensures (unanswered c.if-reply-lt-REPLY.true)

pub returns-in-Ok : goal.returns-in-Ok
returns-in-Ok c = answered_ok (omega arith) c.tried.ensures c.in-Ok.is

pub returns-in-Err : goal.returns-in-Err
returns-in-Err c = answered_err (omega arith) c.tried.ensures c.in-Err.is c.refused_kind.ensures c.refuse.ensures
