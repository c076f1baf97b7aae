use mathlib.Core.Path.{◌≡◌}
use Rattle.store.specs.Runs.{member_for, filled}
use Rattle.store.proofs.lent.find_members_in.Given as goal

abbrev pub invariant-loop-i : goal.invariant-loop-i
invariant-loop-i l = l.found ≡ filled (member_for l.long l.k l.ps l.wishes) l.from l.i l.initial.found
