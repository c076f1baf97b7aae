-- `derivation::nal::is_idr`: the class answers it, by a computed test over all bytes.
use mathlib.Core.Path.{◌∙◌}
use Rattle.paper.specs.Nal.{idr}
use Rattle.derivation.specs.Classes.{class_of, idr_in}
use Rattle.derivation.proofs.ByClass.{by_class}
use Rattle.derivation.proofs.nal.is_idr.Goals as goal

pub returns : goal.returns
unfolding class_of
returns c = c.is_idr.ensures ∙ by_class idr idr_in tt c.args.t c.ranges.t.fits c.nal_class.ensures.class
