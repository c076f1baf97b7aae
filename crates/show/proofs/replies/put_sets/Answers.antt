-- The short-term sets, then the long-term ones.
use Rattle.stream.proofs.Spelling.{◌then◌}
use Rattle.show.proofs.replies.put_sets.Goals as goal

pub returns : goal.returns
returns c =
    c.put_short-a.ensures then c.put_long.ensures
