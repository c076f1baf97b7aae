-- The digits of what is left of the number go in front of those that stand.
use Rattle.std.proofs.Common.{◌≡◌, ◌^◌, ◌≤◌, ◌<◌, ◌++◌, length, drop}
use Rattle.stream.specs.Text.{digits}
use Rattle.stream.proofs.text.digits_of.Given as goal

abbrev pub invariant-loop-rest : goal.invariant-loop-rest
invariant-loop-rest l = record {
  some : 1 ≤ l.i;
  within : l.i ≤ 20;
  long : length l.digits ≡ 20;
  room : l.rest < 10 ^ l.i;
  all : digits l.i l.rest ++ drop l.i l.digits ≡ digits 20 l.n;
}

abbrev pub decreases-loop-rest : goal.decreases-loop-rest
decreases-loop-rest l = l.rest
