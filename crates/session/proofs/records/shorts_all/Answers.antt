-- The test of the entries so far holds, until one entry fails it.
use borrow.Author.Rules.{rules}
use mathlib.Core.Path.{◌≡◌, sym, ◌∙◌}
use mir.Syntax.{w32}
use mir.Val.{to_z, of_z}
use native.Mathlib.Omega.{arith}
use lib.IntN.{pos}
use Rattle.paper.specs.Records.{short_at}
use Rattle.session.proofs.Entries.{last_none, run_none, run_on, run_out}
use Rattle.session.proofs.records.shorts_all.Goals as goal

pub loop-i-init : goal.loop-i-init
loop-i-init g c = let f = short_at c.args.msg.now c.args.at in (sym (last_none (pos 0) f), run_none g.met.S.Sign.runs (pos 0) f)

pub loop-i-preserved : goal.loop-i-preserved
loop-i-preserved g c =
    let f = short_at c.args.msg.now c.args.at in
    let z : to_z w32 (of_z w32 c.short_entry-e.result.delta) ≡ c.short_entry-e.result.delta = search rules in
    let k = run_on g.met.S.Sign.runs f c.loop-i.i c.loop-i.invariant.0 c.short_entry-e.ensures c.may_follow.ensures c.if-not-may_follow.false c.loop-i.invariant.1 in (z ∙ k.0, k.1)

pub returns-then-not-may_follow : goal.returns-then-not-may_follow
returns-then-not-may_follow g c =
    let f = short_at c.args.msg.now c.args.at in
    run_out g.met.S.Sign.runs f c.loop-i.i c.loop-i.invariant.0 c.short_entry-e.ensures c.may_follow.ensures c.args.n (omega arith) c.if-not-may_follow.true
