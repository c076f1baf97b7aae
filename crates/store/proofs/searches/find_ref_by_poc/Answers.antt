-- The walk of this test over the used places; a POC in an i32 is read back from its bits.
use mathlib.Core.Path.{◌≡◌, ◌∙◌}
use lib.ListN.{length}
use mir.Syntax.{w32}
use mir.Val.{SFits}
use mir.ValLaws.{to_z-of_z}
use borrow.Author.Rules.{rules}
use Rattle.store.proofs.Walks.{stored_take}
use Rattle.store.proofs.searches.find_ref_by_poc.Goals as goal

pub returns : goal.returns
returns c =
    let f : SFits w32 c.args.poc = search rules in
    let long : length c.args.s.places ≡ 16 = c.well_formed.0.1.1.0.1.0.1 in
    c.find_first.ensures ∙ rw (c.used_in.ensures, stored_take c.args.s long, to_z-of_z w32 c.args.poc f)
