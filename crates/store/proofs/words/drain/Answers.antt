-- The store that is emptied is the one that the words hold.
use mathlib.Core.Path.{subst}
use mathlib.Core.List.{List}
use Rattle.paper.specs.Output.{emptied}
use Rattle.paper.specs.declared.Picture.{Picture}
use Rattle.store.specs.Tails.{HoldsMoved}
use Rattle.store.proofs.Fetched.{leaves, as_it_is}
use Rattle.store.proofs.words.drain.Goals as goal

pub returns : goal.returns
returns c =
    leaves (subst (λ (ps : List Picture). HoldsMoved c.drain-m.result (emptied ps)) (as_it_is c.load.ensures.holds) c.drain-m.ensures) (c.save.ensures.pics, c.save.ensures.normal)
