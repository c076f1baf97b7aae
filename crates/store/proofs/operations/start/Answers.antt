-- No surface is released yet.
use mathlib.Core.Path.{subst}
use Rattle.derivation.proofs.Pad.{is_good}
use Rattle.store.specs.Tails.{HoldsMoved}
use Rattle.store.proofs.Ends.{first_still}
use Rattle.store.proofs.operations.start.Goals as goal

pub untouched-requires : goal.untouched-requires
untouched-requires c = (is_good c.none.ensures, c.requires)

pub returns : goal.returns
returns c =
    let s = c.args.s in
    let x = c.none in
    subst (HoldsMoved c.untouched.result) (first_still s.places s.len x.result x.ensures) c.untouched.ensures
