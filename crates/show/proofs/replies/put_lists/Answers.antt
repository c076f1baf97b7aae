-- One list behind the other.
use mathlib.Core.Path.{sym}
use native.Mathlib.Omega.{arith}
use Rattle.stream.proofs.Spelling.{◌then◌, retold, roomier}
use Rattle.show.proofs.Wording.{listed_at}
use Rattle.show.proofs.replies.put_lists.Goals as goal

pub returns : goal.returns
returns c =
    let all = c.put-a.ensures then c.put_list-b.ensures then c.put_list.ensures in
    retold (sym (listed_at c.args.reply.now c.byte-n.result c.byte-m.result c.byte-n.ensures c.byte-m.ensures)) (roomier (omega (arith, c.byte-n.type_inv, c.byte-m.type_inv)) all)
