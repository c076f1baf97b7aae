-- The picture, its sets, the tail behind their members.
use mathlib.Core.Path.{ap}
use Prim.Native.Nat.{ℕ}
use mathlib.Core.List.{List}
use Rattle.paper.specs.Ledger.{read_tail}
use Rattle.show.specs.Lists.{tail_text}
use Rattle.stream.proofs.Spelling.{◌then◌, retold}
use Rattle.show.proofs.Wording.{begun_tail}
use Rattle.show.proofs.replies.put_begun.Goals as goal

pub returns : goal.returns
returns c =
    let tail = retold (ap (λ (l : List ℕ). tail_text (read_tail c.args.st l)) (begun_tail c.args.reply.now c.members.result c.members.ensures.0)) c.put_tail.ensures in
    c.put_told-a.ensures then c.put_sets-b.ensures then tail
