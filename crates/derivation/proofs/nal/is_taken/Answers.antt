-- `derivation::nal::is_taken`: the class answers it, by a computed test over all bytes.
use mathlib.Core.Path.{◌∙◌}
use Rattle.paper.specs.Nal.{taken}
use Rattle.derivation.specs.Classes.{class_of, taken_in}
use Rattle.derivation.proofs.ByClass.{by_class}
use Rattle.derivation.proofs.nal.is_taken.Goals as goal

pub returns : goal.returns
unfolding class_of
returns c = c.is_taken.ensures ∙ by_class taken taken_in tt c.args.t c.ranges.t.fits c.nal_class.ensures.class
