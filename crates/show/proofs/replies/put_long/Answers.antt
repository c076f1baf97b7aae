-- Behind the short-term sets.
use mathlib.Core.Path.{sym}
use native.Mathlib.Omega.{arith}
use Rattle.stream.proofs.Spelling.{◌then◌, retold, roomier}
use Rattle.show.proofs.Wording.{long_at}
use Rattle.show.proofs.replies.put_long.Goals as goal

pub returns : goal.returns
returns c =
    let all = c.put_list-a.ensures then c.put_list.ensures in
    retold (sym (long_at c.args.reply.now c.short_members.result c.byte-curr.result c.byte-foll.result c.short_members.ensures.0 c.byte-curr.ensures c.byte-foll.ensures)) (roomier (omega (arith, c.byte-curr.type_inv, c.byte-foll.type_inv)) all)
