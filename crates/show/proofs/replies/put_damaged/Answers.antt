-- The length and the kind.
use mathlib.Core.Path.{ap}
use Rattle.stream.specs.Text.{decimal}
use Rattle.show.specs.Lines.{damaged_text}
use Rattle.stream.proofs.Spelling.{◌then◌, retold}
use Rattle.show.proofs.replies.put_damaged.Goals as goal

pub returns : goal.returns
unfolding damaged_text
returns c =
    let kind = retold (ap decimal c.u16_at.ensures) c.put_u32.ensures in
    c.put-a.ensures then c.put_u64-b.ensures then c.put-c.ensures then kind
