-- Two lengths and two runs of serials from 6 on, and the head before them.
use mathlib.Core.Path.{◌≡◌}
use mathlib.Core.List.{[], ◌∷◌, ◌++◌}
use Prim.Native.Nat.{◌*◌}
use native.Mathlib.Omega.{arith}
use lib.ListN.{length, take}
use Rattle.paper.specs.Kinds.{lists_kind, reply_to}
use Rattle.paper.specs.Numbers.{serial_nos}
use Rattle.paper.specs.Replies.{words}
use Rattle.paper.specs.declared.Serial.{Serial}
use Rattle.session.proofs.Bytes.{run, run_on, framed_last, length_words, held_long, listed}
use Rattle.session.proofs.replies.put_lists.Goals as goal

pub returns : goal.returns
returns c =
    let us = take c.args.x.len c.args.x.items in
    let vs = take c.args.y.len c.args.y.items in
    let X = words (serial_nos us) in
    let Y = words (serial_nos vs) in
    let lx : length X ≡ 4 * length us = length_words (λ (n : Serial). n.0) us in
    let ly : length Y ≡ 4 * length vs = length_words (λ (n : Serial). n.0) vs in
    let e1 = run_on c.args.d.now 6 (c.args.x.len ∷ []) (c.args.y.len ∷ []) c.put_u8-a.ensures c.put_u8-b.ensures in
    let e2 = run_on c.args.d.now 6 (c.args.x.len ∷ c.args.y.len ∷ []) X e1 (run c.put_u8-b.new.d c.put_u8-b.result X lx c.put_words-c.ensures) in
    let e3 = run_on c.args.d.now 6 (c.args.x.len ∷ c.args.y.len ∷ X) Y e2 (run c.put_words-c.new.d c.put_words-c.result Y ly c.put_words-len.ensures) in
    rw (listed c.args.x c.args.y c.requires.0 c.requires.1)
    (framed_last c.args.d.now ((c.args.x.len ∷ c.args.y.len ∷ X) ++ Y) (reply_to lists_kind) e3
    (omega (arith, lx, ly, held_long c.requires.0.holds, held_long c.requires.1.holds, c.requires.0.holds.room, c.requires.1.holds.room, c.requires.2.room)) (rw c.reply.ensures at c.put_head.ensures))
