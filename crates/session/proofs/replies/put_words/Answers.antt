-- Each turn writes one number of four bytes behind those before it.
use mathlib.Core.Path.{sym, ap, ◌∙◌}
use lib.Seq.{sets}
use native.Mathlib.Omega.{arith}
use Rattle.paper.specs.Numbers.{bytes32}
use Rattle.session.proofs.Bytes.{written_none, written_more, written_all, length_bytes32, words_of}
use Rattle.session.proofs.replies.put_words.Goals as goal

pub loop-x-init : goal.loop-x-init
loop-x-init g c = written_none (λ (x : g.row.T.Denot). bytes32 (g.T.Named.number x)) 4 (λ (x : g.row.T.Denot). length_bytes32 (g.T.Named.number x)) c.args.xs.now c.args.d.now c.args.at

pub loop-x-preserved : goal.loop-x-preserved
loop-x-preserved g c = written_more (λ (x : g.row.T.Denot). bytes32 (g.T.Named.number x)) 4 (λ (x : g.row.T.Denot). length_bytes32 (g.T.Named.number x)) c.x-item.result c.x-item.result c.loop-x.invariant c.loop-x-test.true c.x-item.is (rw c.number.ensures at c.put_u32-end.ensures) c.put_u32-end.auto.d

pub returns : goal.returns
returns g c =
    let w = written_all (λ (x : g.row.T.Denot). bytes32 (g.T.Named.number x)) 4 (λ (x : g.row.T.Denot). length_bytes32 (g.T.Named.number x)) c.loop-x.invariant (omega arith) in
    (w.0, w.1 ∙ ap (sets c.args.d.now c.args.at) (sym (words_of g.T.Named.number c.args.xs.now)))
