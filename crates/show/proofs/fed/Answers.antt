-- `fed`: case after case, each with what its end gives.
use Rattle.show.proofs.Turning.{fed_some, fed_unread}
use Rattle.show.proofs.fed.Goals as goal

pub returns-in-Ok : goal.returns-in-Ok
returns-in-Ok g c = rw c.in-Ok.is (fed_some c.args.t.held c.in-Ok.held c.if-t-held.true)

pub returns-in-Err : goal.returns-in-Err
returns-in-Err g c = rw c.in-Err.is (fed_unread c.args.t.held)
