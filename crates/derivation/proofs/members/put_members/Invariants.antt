use mathlib.Core.Path.{◌≡◌}
use Prim.Native.Nat.{ℕ, ◌<◌, ◌≤◌}
use lib.ListN.{length, get_or}
use Rattle.derivation.specs.Lists.{serial_at, member_at}
use Rattle.derivation.proofs.members.put_members.Given as goal

abbrev pub invariant-loop-i : goal.invariant-loop-i
invariant-loop-i l = record {
  long : length l.sets ≡ 16;
  written : (j : ℕ) → j < l.i → serial_at l.sets j ≡ member_at l.xs j;
  behind : (j : ℕ) → l.i ≤ j → get_or l.sets j 0 ≡ get_or l.initial.sets j 0;
}
