-- The flags by name where the spare bits are 0, else the byte: each bit is the digit that the text asks for.
use mathlib.Core.Path.{sym, ◌∙◌}
use native.Mathlib.Omega.{arith}
use Rattle.paper.specs.Numbers.{bit}
use Rattle.stream.proofs.Spelling.{◌then◌, retold, roomier}
use Rattle.show.proofs.Wording.{spare_flags, plain_flags}
use Rattle.show.proofs.replies.put_flags.Goals as goal

pub returns-then-not-spare : goal.returns-then-not-spare
returns-then-not-spare c =
    let f = c.args.flags in
    roomier (omega arith) (retold (sym (spare_flags f (bit 0 f) (bit 1 f) (bit 2 f) (bit 3 f) (sym c.spare.ensures ∙ c.if-not-spare.true))) (c.put-a.ensures then c.put_u32.ensures))

pub returns : goal.returns
returns c =
    retold (plain_flags c.args.flags c.bit.result c.bit-2.result c.bit-3.result c.bit-4.result (sym c.spare.ensures ∙ c.if-not-spare.false) c.bit.ensures c.bit-2.ensures c.bit-3.ensures c.bit-4.ensures) (c.put_if-a.ensures then c.put_if-b.ensures then c.put_if-c.ensures then c.put_if.ensures)
