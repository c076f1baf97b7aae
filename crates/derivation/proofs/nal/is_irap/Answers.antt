-- `derivation::nal::is_irap`: the class answers it, by a computed test over all bytes.
use mathlib.Core.Path.{◌∙◌}
use Rattle.paper.specs.Nal.{irap}
use Rattle.derivation.specs.Classes.{class_of, irap_in}
use Rattle.derivation.proofs.ByClass.{by_class}
use Rattle.derivation.proofs.nal.is_irap.Goals as goal

pub returns : goal.returns
unfolding class_of
returns c = c.is_irap.ensures ∙ by_class irap irap_in tt c.args.t c.ranges.t.fits c.nal_class.ensures.class
