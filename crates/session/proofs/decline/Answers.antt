-- A buffer that is too small is left as it was, and else the head alone is the framed refusal.
use Prim.Native.Nat.{◌≤◌}
use mathlib.Core.Path.{refl}
use native.Mathlib.Omega.{arith}
use lib.ListN.{length}
use Rattle.session.proofs.Bytes.{refused_says}
use Rattle.session.proofs.decline.Goals as goal

pub returns : goal.returns
returns c =
    let le : 512 ≤ length c.args.reply.now = omega (arith, c.if-reply-lt-REPLY.false) in
    record { small = λ h. absurd (omega arith); refuses = λ _. refused_says c.args.kind c.args.n c.args.reply.now refl c.put_head-len.ensures (omega arith) }
