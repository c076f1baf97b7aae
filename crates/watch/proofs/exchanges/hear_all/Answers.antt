-- Each turn hears one exchange more, and nothing before it breaks a part.
use native.Mathlib.Omega.{arith}
use mathlib.Core.Path.{ap}
use lib.Dec.{eqb}
use lib.ListN.{drop}
use Prim.Native.Nat.{ℕ}
use Rattle.format.specs.Cut.{size_of}
use Rattle.paper.proofs.Bools.{or_right}
use Rattle.format.proofs.Fitting.{size_at, size_end}
use Rattle.watch.proofs.Numbers.{positive}
use Rattle.watch.proofs.Sizes.{none_at}
use Rattle.watch.proofs.ExchangeLaws.{nothing_heard, heard_wrong, heard_right}
use Rattle.watch.proofs.exchanges.hear_all.Goals as goal

pub loop-n-init : goal.loop-n-init
loop-n-init c = (omega arith, (omega arith, (omega arith, nothing_heard _ _ _)))

pub returns-in_default-whole : goal.returns-in_default-whole
returns-in_default-whole c =
    let i = c.loop-n.invariant in
    record {
      watches = i.1.1.1;
      taken = i.0;
      answered = i.1.0;
      rest =
          λ _.
          or_right (eqb (size_of (drop c.loop-n.taken c.args.records.now)) 0) (eqb (size_of (drop c.loop-n.answered c.args.replies.now)) 0)
          (ap (λ (k : ℕ). eqb k 0) (none_at c.args.replies.now c.loop-n.answered c.in_default-whole.ensures));
    }

pub returns-in-Err : goal.returns-in-Err
returns-in-Err c =
    let i = c.loop-n.invariant in
    let n = c.in-Some.ensures in
    let m = c.in-Some-whole.ensures in
    record {
      watches =
          heard_wrong c.loop-n.taken c.loop-n.answered c.loop-n.pairs c.in-Some.n c.in-Some-whole.m n.1 (size_at c.args.records.now c.loop-n.taken n.0) m.1 (size_at c.args.replies.now c.loop-n.answered m.0) i.1.1.1
          c.hear.result c.hear.ensures c.in-Err.part c.in-Err.is c.blame-blamed.result c.blame-blamed.ensures;
      taken = size_end c.args.records.now c.loop-n.taken n.0 i.0;
      answered = size_end c.args.replies.now c.loop-n.answered m.0 i.1.0;
      rest = λ y. absurd (positive c.in-Err.part y);
    }

pub loop-n-preserved : goal.loop-n-preserved
loop-n-preserved c =
    let i = c.loop-n.invariant in
    let n = c.in-Some.ensures in
    let m = c.in-Some-whole.ensures in
    let e = size_end c.args.records.now c.loop-n.taken n.0 i.0 in
    let f = size_end c.args.replies.now c.loop-n.answered m.0 i.1.0 in (
      e,
      (
        f,
        (
          omega (arith, i.1.1.0, n.1),
          heard_right c.loop-n.taken c.loop-n.answered c.loop-n.pairs c.in-Some.n c.in-Some-whole.m n.1 (size_at c.args.records.now c.loop-n.taken n.0) m.1 (size_at c.args.replies.now c.loop-n.answered m.0) i.1.1.1
              c.hear.result c.hear.ensures c.in-Ok.next c.in-Ok.is,
        ),
      ),
    )
