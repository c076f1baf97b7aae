use Rattle.store.specs.Bumps.{Scans}
use Rattle.store.proofs.bumping.find_lowest_poc_for_bumping.Given as goal

abbrev pub invariant-loop-i : goal.invariant-loop-i
invariant-loop-i l = Scans l.places l.i l.latency l.c
