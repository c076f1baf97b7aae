-- Each turn takes one whole reply, and its line goes behind the others.
use mathlib.Core.Path.{refl, ◌∙◌}
use native.Mathlib.Omega.{arith}
use Rattle.show.proofs.Lining.{nothing_yet, follows, one_lined}
use Rattle.format.proofs.Fitting.{size_at, size_end}
use Rattle.show.proofs.lines.Goals as goal

pub loop-made-init : goal.loop-made-init
loop-made-init c = (omega arith, omega arith, refl, nothing_yet _ _ _ _, omega (arith, c.ranges.number))

pub loop-made-preserved : goal.loop-made-preserved
loop-made-preserved c =
    let l = c.loop-made in
    let n = c.in-Some.ensures in
    let line = c.line_at-made in (
      size_end c.args.bytes.now l.taken n.0 l.invariant.0,
      omega (arith, line.ensures.fits, line.auto.out),
      line.auto.out ∙ l.invariant.2,
      one_lined l.taken l.made c.in-Some.n _ n.1 (size_at _ l.taken n.0) (follows (omega (arith, l.invariant.4)) c.saturating_add-next.ensures) c.further-reading.ensures l.invariant.3 line.ensures,
      omega (arith, c.saturating_add-next.ensures),
    )
