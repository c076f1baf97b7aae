use mathlib.Core.Path.{◌≡◌}
use lib.ListN.{length}
use Rattle.store.specs.Bumps.{Scans, latency_by}
use Rattle.store.proofs.Rounds.{Turned}
use Rattle.store.proofs.bumping.bump_as_needed.Given as goal

abbrev pub invariant-loop : goal.invariant-loop
invariant-loop l =
    (length l.places ≡ 16) × (Turned l.rule l.initial.places l.n l.initial.released l.counter l.places l.len l.handed l.released) × Scans l.places l.len (latency_by l.rule) l.c
