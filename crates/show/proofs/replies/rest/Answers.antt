-- The number, how many bytes, and why.
use native.Mathlib.Omega.{arith}
use Rattle.show.specs.Lines.{rest_of}
use Rattle.stream.proofs.Spelling.{◌then◌, from_start, roomier}
use Rattle.show.proofs.replies.rest.Goals as goal

pub returns : goal.returns
unfolding rest_of
returns c =
    from_start c.requires (roomier (omega arith) (c.put_u64-a.ensures then c.put-b.ensures then c.put_u64-c.ensures then c.put.ensures))
