-- A full store is refused with 9; else the store finishes the picture and its tail is the reply.
use Prim.Native.Nat.{ℕ}
use mathlib.Core.Path.{◌≡◌, sym, ap, ◌∙◌}
use mathlib.Core.List.{List}
use Rattle.std.specs.Result.{is_err}
use Rattle.std.proofs.lemmas.Result.{err_from_is_err_and}
use Rattle.paper.specs.Calls.{full}
use Rattle.session.specs.View.{memory, session_in}
use Rattle.store.proofs.Ends.{tail_good}
use Rattle.session.proofs.Saying.{full_err, full_is, finish_9, finish_does, idles}
use borrow.Author.Rules.{rules}
use Rattle.session.proofs.calls.finish_at.Goals as goal

pub returns-in_err-room_in : goal.returns-in_err-room_in
returns-in_err-room_in c =
    let p = err_from_is_err_and c.from_residual.result c.from_residual.ensures.1 in
    let tested : (xs : List ℕ) → is_err c.room_in.result ≡ full (session_in (memory c.args.front.now xs c.args.store.now)) =
    λ xs. full_is c.args.front.now xs c.args.store.now c.limits_in-l.ensures (full_err c.room_in.ensures.answer)
    in
    rw (p.1, p.2) (λ xs. finish_9 c.args.front.now xs c.args.store.now c.args.c c.requires.0 (sym (tested xs) ∙ ap is_err c.in_err-room_in.was))

pub put_done-requires : goal.put_done-requires
put_done-requires c =
    (tail_good c.finish_picture-m.ensures.tail, search rules)

pub returns : goal.returns
returns c =
    let tested : (xs : List ℕ) → is_err c.room_in.result ≡ full (session_in (memory c.args.front.now xs c.args.store.now)) =
    λ xs. full_is c.args.front.now xs c.args.store.now c.limits_in-l.ensures (full_err c.room_in.ensures.answer)
    in
    λ xs.
    finish_does c.args.front.now xs c.args.store.now c.args.c c.requires.0 (sym (tested xs) ∙ ap is_err c.in_ok-room_in.was) c.limits_in-l.ensures c.prev_in-q.ensures c.prev_after.ensures
    c.finish_picture-m.ensures (idles (c.put_idle.ensures.front, c.put_idle.ensures.words)) c.put_done.ensures
