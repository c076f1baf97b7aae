use mathlib.Core.Bool.{false}
use mathlib.Core.List.{[]}
use Rattle.paper.specs.Output.{in_use}
use Rattle.store.specs.Walks.{surface_of}
use Rattle.store.specs.Tails.{no_surface, unused}
use Rattle.store.proofs.Gone.{Kept, Pushed}
use Rattle.store.proofs.removal.remove_unused.Given as goal

abbrev pub invariant-loop-i : goal.invariant-loop-i
invariant-loop-i l =
    Kept in_use l.initial.places l.places l.k l.i × Pushed 17 no_surface (unused false) surface_of l.initial.places [] 0 l.released.items l.released.len l.i
