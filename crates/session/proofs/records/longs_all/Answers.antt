-- The test of the entries so far holds, until one entry fails it.
use mathlib.Core.Path.{◌≡◌, sym, ◌∙◌}
use Prim.Native.Nat.{ℕ, ◌^◌, min}
use native.Mathlib.Omega.{arith}
use Rattle.paper.specs.Ranges.{long_ok}
use Rattle.paper.specs.Records.{long_at}
use Rattle.paper.specs.Words.{all_b, table}
use Rattle.session.proofs.Entries.{all_none, all_table, goes_on, stops}
use Rattle.session.proofs.records.longs_all.Goals as goal

pub loop-i-init : goal.loop-i-init
loop-i-init c = all_none (long_ok (2 ^ (min c.args.k 16))) (long_at c.args.msg.now c.args.at)

pub returns-then-not-long_ok : goal.returns-then-not-long_ok
returns-then-not-long_ok c =
    let f = long_at c.args.msg.now c.args.at in
    let p = long_ok (2 ^ (min c.args.k 16)) in
    let e : c.long_ok.result ≡ p (f c.loop-i.i) = c.long_ok.ensures ∙ rw c.long_entry.ensures in
    sym (stops (λ (j : ℕ). all_b p (table f j)) (λ (j : ℕ). p (f j)) (all_table p f) c.loop-i.i c.args.n (omega arith) (sym e ∙ c.if-not-long_ok.true))

pub loop-i-preserved : goal.loop-i-preserved
loop-i-preserved c =
    let f = long_at c.args.msg.now c.args.at in
    let p = long_ok (2 ^ (min c.args.k 16)) in
    let e : c.long_ok.result ≡ p (f c.loop-i.i) = c.long_ok.ensures ∙ rw c.long_entry.ensures in
    goes_on (λ (j : ℕ). all_b p (table f j)) (λ (j : ℕ). p (f j)) (all_table p f) c.loop-i.i c.loop-i.invariant (sym e ∙ c.if-not-long_ok.false)
