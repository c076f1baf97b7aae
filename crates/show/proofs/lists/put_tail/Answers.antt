-- Each part stands behind the one before it.
use Prim.Native.Nat.{◌+◌, ◌*◌}
use mathlib.Core.Path.{◌≡◌, sym, ◌∙◌}
use native.Mathlib.Omega.{arith}
use Rattle.stream.proofs.Spelling.{◌then◌, retold, roomier}
use Rattle.format.proofs.Ends.{past_count_lem}
use Rattle.paper.specs.Kinds.{shown_width}
use Rattle.show.proofs.Places.{tail_behind}
use Rattle.show.proofs.lists.put_tail.Goals as goal

pub returns : goal.returns
returns c =
    let all = c.put_list-a.ensures then c.put_list-c.ensures then c.put_list.ensures in
    let k = c.behind_shown-b.ensures.0 ∙ past_count_lem shown_width c.args.reply.now c.args.from (omega (arith, c.requires.0)) in
    let e : c.behind_shown-b.result ≡ c.args.from + 1 + shown_width * c.byte-handed.result = omega (arith, k, c.byte-handed.ensures) in
    retold (sym (tail_behind c.args.st c.args.reply.now c.args.from c.byte-handed.result c.behind_shown-b.result c.byte-thrown.result c.byte-released.result e c.byte-handed.ensures c.byte-thrown.ensures c.byte-released.ensures)) (roomier (omega arith) all)
