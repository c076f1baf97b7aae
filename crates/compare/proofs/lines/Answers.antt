-- Each turn takes one pair, and its line goes behind the others; nothing is taken where no pair waits.
use mathlib.Core.Path.{◌≡◌, refl, ap₂}
use mathlib.Core.Bool.{Bool, true, false}
use mathlib.Core.List.{List}
use Prim.Native.Nat.{ℕ}
use native.Mathlib.Omega.{arith}
use borrow.Author.Rules.{rules}
use lib.ListN.{take, drop}
use Rattle.stream.proofs.Spelling.{retold}
use Rattle.compare.specs.Pairs.{reply_size, goes_with, goes, pair_text}
use Rattle.compare.proofs.Pairing.{off_fits}
use Rattle.compare.proofs.Lining.{nothing_yet, goes_more, one_pair}
use Rattle.compare.proofs.lines.Goals as goal

none_goes : (b : Bool) → (b ≡ true → ⊥) → b ≡ false
none_goes true h = absurd (h refl)
none_goes false h = refl

pub loop-c-init : goal.loop-c-init
loop-c-init c = (omega arith, omega arith, omega arith, nothing_yet _ _ _ _ _ _)

pub returns-in_default-clause-all : goal.returns-in_default-clause-all
returns-in_default-clause-all c =
    let k = none_goes _ c.in_default.ensures in
    λ _. rw (c.behind-a.ensures.0, c.behind-a.ensures.1, c.behind-b.ensures.0, c.behind-b.ensures.1) at k

pub loop-c-smaller : goal.loop-c-smaller
loop-c-smaller c =
    let n : c.in-Some.n ≡ reply_size c.args.first.ended (drop c.loop-c.c.first c.args.first.bytes.now) = search rules in
    let m : c.in-Some.m ≡ reply_size c.args.second.ended (drop c.loop-c.c.second c.args.second.bytes.now) = search rules in
    let t : goes c.loop-c.c.number c.args.first.ended (drop c.loop-c.c.first c.args.first.bytes.now) c.args.second.ended (drop c.loop-c.c.second c.args.second.bytes.now) ≡ true = search rules in
    let w : goes_with c.loop-c.c.number c.args.first.ended c.in-Some.n c.args.second.ended c.in-Some.m ≡ true = rw (n, m) t in
    let k = off_fits c.args.first.ended c.args.first.bytes.now c.loop-c.c.first c.loop-c.invariant.0 n in
    let l = off_fits c.args.second.ended c.args.second.bytes.now c.loop-c.c.second c.loop-c.invariant.1 m in
    omega (arith, k, l, goes_more c.loop-c.c.number c.args.first.ended c.in-Some.n c.args.second.ended c.in-Some.m w)

pub loop-c-preserved : goal.loop-c-preserved
loop-c-preserved c =
    let n : c.in-Some.n ≡ reply_size c.args.first.ended (drop c.loop-c.c.first c.args.first.bytes.now) = search rules in
    let m : c.in-Some.m ≡ reply_size c.args.second.ended (drop c.loop-c.c.second c.args.second.bytes.now) = search rules in
    let t : goes c.loop-c.c.number c.args.first.ended (drop c.loop-c.c.first c.args.first.bytes.now) c.args.second.ended (drop c.loop-c.c.second c.args.second.bytes.now) ≡ true = search rules in
    let w : goes_with c.loop-c.c.number c.args.first.ended c.in-Some.n c.args.second.ended c.in-Some.m ≡ true = rw (n, m) t in
    let p = retold (ap₂ (λ (x y : List ℕ). pair_text c.loop-c.c.number (take c.in-Some.n x) (take c.in-Some.m y)) c.behind-a.ensures.0 c.behind-b.ensures.0) c.put_line-made.ensures in (
      off_fits c.args.first.ended c.args.first.bytes.now c.loop-c.c.first c.loop-c.invariant.0 n,
      off_fits c.args.second.ended c.args.second.bytes.now c.loop-c.c.second c.loop-c.invariant.1 m,
      omega (arith, c.put_line-made.ensures.fits, c.put_line-made.auto.out, c.loop-c-test.true),
      one_pair c.args.first.ended c.args.second.ended c.args.first.bytes.now c.args.second.bytes.now c.loop-c.c.first c.loop-c.c.second c.loop-c.invariant.0 c.loop-c.invariant.1 n m w c.loop-c-test.true c.loop-c.invariant.3 p,
    )
