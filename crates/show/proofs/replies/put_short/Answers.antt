-- Each set behind the one before it.
use mathlib.Core.Path.{sym}
use native.Mathlib.Omega.{arith}
use Rattle.stream.proofs.Spelling.{◌then◌, retold, roomier}
use Rattle.show.proofs.Wording.{short_at}
use Rattle.show.proofs.replies.put_short.Goals as goal

pub returns : goal.returns
returns c =
    let all = c.put_list-a.ensures then c.put_list-b.ensures then c.put_list.ensures in
    retold (sym (short_at c.args.reply.now c.byte-before.result c.byte-after.result c.byte-foll.result c.byte-before.ensures c.byte-after.ensures c.byte-foll.ensures)) (roomier (omega (arith, c.byte-before.type_inv, c.byte-after.type_inv, c.byte-foll.type_inv)) all)
