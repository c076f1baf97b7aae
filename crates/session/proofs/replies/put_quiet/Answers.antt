-- The head and three counts of nothing are the framed empty tail.
use Prim.Native.Nat.{ℕ}
use mathlib.Core.List.{List, [], ◌∷◌, ◌++◌}
use mathlib.Core.Path.{◌∙◌}
use native.Mathlib.Omega.{arith}
use Rattle.paper.specs.Output.{quiet}
use Rattle.paper.specs.Replies.{words, tail_bytes, framed}
use Rattle.paper.specs.Numbers.{bytes16}
use Rattle.paper.specs.Words.{flat}
use Rattle.wire.proofs.Laws.{sets_over}
use Rattle.session.specs.Said.{reply_kind}
use Rattle.session.proofs.Bytes.{run_on}
use Rattle.session.proofs.replies.put_quiet.Goals as goal

pub returns : goal.returns
unfolding tail_bytes words flat
returns c =
    let H : List ℕ = bytes16 5 ++ bytes16 (reply_kind c.args.kind) ++ bytes16 0 in
    let e1 = run_on c.args.d.now 0 H (0 ∷ []) (rw c.reply.ensures at c.put_head-n.ensures) c.put_u8-a.ensures in
    let e2 = run_on c.args.d.now 0 (H ++ (0 ∷ [])) (0 ∷ []) e1 c.put_u8-b.ensures in
    let e3 = run_on c.args.d.now 0 (H ++ (0 ∷ []) ++ (0 ∷ [])) (0 ∷ []) e2 c.put_u8.ensures in
    record { long = e3.0; bytes = e3.1 ∙ sets_over (framed (reply_kind c.args.kind) 0 (tail_bytes quiet)) c.args.d.now (omega (arith, c.requires.room)) }
