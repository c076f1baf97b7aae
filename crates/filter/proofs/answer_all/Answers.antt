-- Each turn of the loop takes one whole message, and its answer goes behind the others.
use Rattle.std.proofs.Common.{arith, refl, ◌∙◌}
use Rattle.format.proofs.Fitting.{size_at, size_end}
use Rattle.filter.proofs.Answering.{nothing_yet, one_answered}
use Rattle.filter.proofs.answer_all.Goals as goal

pub loop-output-init : goal.loop-output-init
loop-output-init g c = record {
  within = omega arith;
  room = omega arith;
  same = refl;
  answers = nothing_yet g.M.Machine.moves _ _ _;
}

pub loop-output-preserved : goal.loop-output-preserved
loop-output-preserved g c =
    let l = c.loop-output in
    let n = c.in-Some.ensures in
    let a = c.answer-made in
    record {
      within = size_end c.args.bytes.now l.taken n.0 l.invariant.within;
      room = omega (arith, a.ensures.fits, a.auto.output);
      same = a.auto.output ∙ l.invariant.same;
      answers = one_answered g.M.Machine.moves l.taken l.made _ _ n.1 (size_at _ l.taken n.0) l.invariant.answers a.ensures;
    }
