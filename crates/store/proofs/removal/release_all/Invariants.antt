use mathlib.Core.Bool.{true}
use mathlib.Core.Path.{◌≡◌}
use Rattle.derivation.specs.Pad.{Padded}
use Rattle.derivation.specs.Lists.{blank_serial}
use Rattle.store.specs.Walks.{surface_of}
use Rattle.store.specs.Tails.{no_shown, no_surface, tail_in, unused}
use Rattle.store.proofs.Gone.{Pushed}
use Rattle.store.proofs.removal.release_all.Given as goal

abbrev pub invariant-loop-i : goal.invariant-loop-i
invariant-loop-i l =
    (l.r.places ≡ l.initial.r.places) × Padded 16 no_shown l.r.handed l.r.shown (tail_in l.initial.r).handed × Padded 17 blank_serial l.r.thrown l.r.dropped (tail_in l.initial.r).thrown
    × Pushed 17 no_surface (unused true) surface_of l.initial.r.places (tail_in l.initial.r).released l.initial.r.freed l.r.released l.r.freed l.i
