-- Each place walked over holds what its entry finds; every other is as it was.
use mathlib.Core.Path.{ap, ◌∙◌}
use Rattle.store.specs.declared.pictures.Sought.{Sought}
use Rattle.store.specs.Walks.{passing, found_of, member_of}
use Rattle.store.specs.Runs.{member_for}
use Rattle.store.proofs.Filling.{filled_none, filled_more}
use Rattle.store.proofs.lent.find_members_in.Goals as goal

pub loop-i-init : goal.loop-i-init
loop-i-init c = filled_none _ _ _

pub loop-i-preserved : goal.loop-i-preserved
loop-i-preserved c =
    let x = c.member_of.ensures ∙ ap member_of (c.first_in.ensures ∙ ap (λ (t : Sought). found_of (passing t) c.args.ps.now) c.sought_for.ensures) in
    filled_more (member_for c.args.long c.args.k c.args.ps.now c.args.wishes.now) c.args.from c.args.found.now c.loop-i.i c.loop-i.found _ c.loop-i.invariant x
