-- `derivation::nal::pic_output`: the class says whether a type is RASL, by a computed test over all bytes.
use mathlib.Core.Path.{◌∙◌}
use Rattle.paper.specs.Nal.{rasl}
use Rattle.derivation.specs.Classes.{class_of, rasl_in}
use Rattle.derivation.proofs.ByClass.{by_class}
use Rattle.derivation.proofs.nal.pic_output.Goals as goal

pub returns : goal.returns
unfolding class_of
returns c =
    rw (c.is_rasl.ensures ∙ by_class rasl rasl_in tt c.args.t c.ranges.t.fits c.nal_class.ensures.class)
