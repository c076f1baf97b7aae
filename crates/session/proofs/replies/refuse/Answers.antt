-- The head alone is the framed refusal.
use native.Mathlib.Omega.{arith}
use Rattle.session.specs.Numbered.{number_of}
use Rattle.session.proofs.Bytes.{refused_says}
use Rattle.session.proofs.replies.refuse.Goals as goal

pub returns : goal.returns
returns c =
    refused_says c.args.kind (number_of c.args.why) c.args.reply.now c.from-n.ensures c.put_head-len.ensures (omega (arith, c.requires.room))
