-- The three ways out: a begin for which no surface is left, a refusal of the session, and a reply that the pool is
-- told.
use Rattle.session.specs.View.{memory}
use Rattle.pool.specs.Memory.{pool_memory}
use Rattle.pool.proofs.StepLaws.{reply_fits, reply_taken, refuses_begin, refuses, accepts}
use Rattle.pool.proofs.step.Goals as goal

pub slice_bounds-account-end : goal.slice_bounds-account-end
slice_bounds-account-end c = reply_fits c.step_at-a.ensures

pub slice_bounds-account-end-2 : goal.slice_bounds-account-end-2
slice_bounds-account-end-2 c = reply_taken c.step_at-a.ensures

pub returns-in-Err : goal.returns-in-Err
returns-in-Err c =
    let m = memory c.args.front.now c.args.sets.now c.args.store.now in
    let k = rw c.in-Err.is at (c.surface_for.ensures m) in
    rw c.declined.ensures
    (refuses_begin (pool_memory c.args.pool.now m) c.args.msg.now c.args.reply.now c.decline-a.result c.decline-a.new.reply (rw k.0 at k)
    (rw (c.from.ensures, c.reply.ensures, k.0) at c.decline-a.ensures))

pub returns-then-a-ne0 : goal.returns-then-a-ne0
returns-then-a-ne0 c =
    let m = memory c.args.front.now c.args.sets.now c.args.store.now in
    rw c.declined-then-a-ne0.ensures
    (refuses (pool_memory c.args.pool.now m) c.args.msg.now c.args.reply.now c.in-Ok.surface (rw c.in-Ok.is at (c.surface_for.ensures m))
    c.step_at-a.result (memory c.step_at-a.new.front c.step_at-a.new.sets c.step_at-a.new.store) c.step_at-a.new.reply c.step_at-a.ensures
    c.if-a-ne0.true)

pub returns : goal.returns
returns c =
    let m = memory c.args.front.now c.args.sets.now c.args.store.now in
    accepts (pool_memory c.args.pool.now m) c.args.msg.now c.args.reply.now c.in-Ok.surface (rw c.in-Ok.is at (c.surface_for.ensures m)) c.step_at-a.result
    (memory c.step_at-a.new.front c.step_at-a.new.sets c.step_at-a.new.store) c.step_at-a.new.reply c.step_at-a.ensures c.account.new.pool
    c.if-a-ne0.false c.account.ensures
