-- What is told, the sizes, the members and the tail from 6 on, and the head before them.
use Prim.Native.Nat.{◌+◌, ◌≤◌}
use mathlib.Core.List.{◌++◌}
use mathlib.Core.Path.{◌≡◌, ◌∙◌}
use native.Mathlib.Omega.{arith}
use lib.ListN.{length}
use Rattle.paper.specs.Kinds.{begin_kind, reply_to}
use Rattle.paper.specs.Replies.{tail_bytes}
use Rattle.session.specs.Written.{told_bytes, sizes_bytes, member_bytes}
use Rattle.store.specs.Tails.{tail_in}
use Rattle.session.proofs.Bytes.{run, run_on, length_told, tail_room, members_room, framed_last}
use Rattle.session.proofs.replies.put_begun.Goals as goal

pub put_tail-len-requires : goal.put_tail-len-requires
put_tail-len-requires c =
    let m : c.put_members-e.result ≤ 84 = omega (arith, members_room c.args.x c.args.first c.args.second c.requires.0, c.put_told-a.ensures.0, c.put_sizes-b.ensures.0, c.put_members-e.ensures.0) in
    let l : length c.put_members-e.new.d ≡ length c.args.d.now = c.put_members-e.auto.d ∙ c.put_sizes-b.auto.d ∙ c.put_told-a.auto.d in
    let e : c.put_members-e.result + 350 ≤ length c.put_members-e.new.d = omega (arith, c.requires.1.1.room) in
    (c.requires.1.0, e)

pub overflow_cast-len : goal.overflow_cast-len
overflow_cast-len c =
    let m : c.put_members-e.result ≤ 84 = omega (arith, members_room c.args.x c.args.first c.args.second c.requires.0, c.put_told-a.ensures.0, c.put_sizes-b.ensures.0, c.put_members-e.ensures.0) in
    let e : c.put_tail-len.result ≤ 415 = omega (arith, c.put_tail-len.ensures.0, tail_room c.args.y c.requires.1.0) in
    omega arith

pub returns : goal.returns
returns c =
    let P = told_bytes c.args.t in
    let M = member_bytes c.args.x c.args.first c.args.second in
    let T = tail_bytes (tail_in c.args.y) in
    let e1 = run c.args.d.now 6 P (length_told c.args.t) c.put_told-a.ensures in
    let e2 = run_on c.args.d.now 6 P (sizes_bytes c.args.x) e1 c.put_sizes-b.ensures in
    let e3 = run_on c.args.d.now 6 (P ++ sizes_bytes c.args.x) M e2 c.put_members-e.ensures in
    let e4 = run_on c.args.d.now 6 (P ++ sizes_bytes c.args.x ++ M) T e3 c.put_tail-len.ensures in
    let m : c.put_members-e.result ≤ 84 = omega (arith, members_room c.args.x c.args.first c.args.second c.requires.0, c.put_told-a.ensures.0, c.put_sizes-b.ensures.0, c.put_members-e.ensures.0) in
    let n : c.put_tail-len.result ≤ 415 = omega (arith, c.put_tail-len.ensures.0, tail_room c.args.y c.requires.1.0) in
    framed_last c.args.d.now (P ++ sizes_bytes c.args.x ++ M ++ T) (reply_to begin_kind) e4 (omega (arith, n, c.requires.1.1.room)) (rw c.reply.ensures at c.put_head.ensures)
