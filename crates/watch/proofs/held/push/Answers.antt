-- The new line stands in the first place behind the used ones, which was no_line.
use Rattle.derivation.proofs.Pad.{is_push}
use Rattle.watch.proofs.held.push.Goals as goal

pub returns : goal.returns
returns c = is_push c.requires.good c.args.e c.requires.len_bound
