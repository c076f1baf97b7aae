-- The store that is cleared is the one that the words hold.
use mathlib.Core.Path.{subst}
use mathlib.Core.List.{List}
use Rattle.paper.specs.Calls.{discarded}
use Rattle.paper.specs.declared.Picture.{Picture}
use Rattle.store.specs.Tails.{HoldsMoved}
use Rattle.store.proofs.Fetched.{leaves, as_it_is}
use Rattle.store.proofs.words.discard.Goals as goal

pub returns : goal.returns
returns c =
    leaves (subst (λ (ps : List Picture). HoldsMoved c.discard-m.result (discarded ps c.before.args.x)) (as_it_is c.load.ensures.holds) c.discard-m.ensures) (c.save.ensures.pics, c.save.ensures.normal)
