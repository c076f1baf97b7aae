-- Only the flag is set, and the tail is empty.
use Rattle.session.proofs.Saying.{end_does}
use Rattle.session.proofs.calls.end.Goals as goal

pub returns : goal.returns
returns c =
    λ xs t. end_does c.args.front.now xs t c.put_ended.ensures.front c.put_ended.ensures.words c.put_quiet.ensures
