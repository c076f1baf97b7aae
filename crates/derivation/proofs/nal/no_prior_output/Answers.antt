-- `derivation::nal::no_prior_output`: the class says whether a type is IRAP and whether it is CRA.
use mathlib.Core.Path.{◌∙◌}
use Rattle.paper.specs.Nal.{irap, cra}
use Rattle.derivation.specs.Classes.{class_of, irap_in, cra_in}
use Rattle.derivation.proofs.ByClass.{by_class}
use Rattle.derivation.proofs.nal.no_prior_output.Goals as goal

pub returns : goal.returns
unfolding class_of
returns c =
    let e = c.nal_class-class.ensures.class in
    rw (
      c.is_irap.ensures ∙ by_class irap irap_in tt c.args.t c.ranges.t.fits e,
      c.is_cra.ensures ∙ by_class cra cra_in tt c.args.t c.ranges.t.fits e,
    )
