-- The number, the reply and a line feed.
use Rattle.show.specs.Lines.{line_of}
use Rattle.stream.proofs.Spelling.{◌then◌, from_start}
use Rattle.show.proofs.replies.line.Goals as goal

pub returns : goal.returns
unfolding line_of
returns c =
    from_start c.requires (c.put_u64-a.ensures then c.put-b.ensures then c.put_reply-c.ensures then c.put.ensures)
