use mathlib.Core.Path.{◌≡◌}
use Rattle.derivation.specs.Pad.{Padded}
use Rattle.derivation.specs.Lists.{blank_serial}
use Rattle.store.specs.Walks.{serial_of}
use Rattle.store.specs.Tails.{no_shown, no_surface, tail_in, waits}
use Rattle.store.proofs.Gone.{Pushed}
use Rattle.store.proofs.removal.throw_waiting.Given as goal

abbrev pub invariant-loop-i : goal.invariant-loop-i
invariant-loop-i l =
    (l.r.places ≡ l.initial.r.places) × (l.r.len ≡ l.initial.r.len) × Padded 16 no_shown l.r.handed l.r.shown (tail_in l.initial.r).handed × Padded 17 no_surface l.r.released l.r.freed (tail_in l.initial.r).released
    × Pushed 17 blank_serial waits serial_of l.initial.r.places (tail_in l.initial.r).thrown l.initial.r.dropped l.r.thrown l.r.dropped l.i
