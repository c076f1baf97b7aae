-- The counts rose as the pictures were read, and the last place is free or taken.
use mathlib.Core.Path.{subst}
use mathlib.Core.List.{List, [], ◌∷◌, ◌++◌}
use mathlib.Core.Bool.{false}
use Rattle.paper.specs.Output.{and_then, hand_while, due, emptied}
use Rattle.paper.specs.Calls.{raised, finished, drained}
use Rattle.paper.specs.Calls as Calls
use Rattle.paper.specs.declared.Picture.{Picture}
use Rattle.store.specs.StoreWords.{stored}
use Rattle.store.specs.Tails.{HoldsMoved}
use Rattle.store.proofs.Fetched.{leaves, roomy_read}
use Rattle.store.proofs.words.finish_and_drain.Goals as goal

pub returns : goal.returns
unfolding finished drained
returns c =
    let e = roomy_read raised c.load.result.places (stored c.before.args.store.now) c.load.result.len c.load.ensures.few.1 c.load.ensures.holds in
    leaves (subst (λ (ps : List Picture). HoldsMoved c.finish_and_drain-m.result (and_then (hand_while (due false c.before.args.l) (ps ++ (Calls.stored c.before.args.c ∷ []))) emptied)) e c.finish_and_drain-m.ensures) (c.save.ensures.pics, c.save.ensures.normal)
