-- The answers to the messages that were taken so far stand in the output.
use Prim.Native.Nat.{◌-◌, ◌≤◌}
use mathlib.Core.Path.{◌≡◌}
use lib.ListN.{length}
use Rattle.filter.specs.Answers.{Answers}
use Rattle.filter.proofs.answer_all.Given as goal

abbrev pub invariant-loop-output : goal.invariant-loop-output
invariant-loop-output g l = let m = g.M.Machine in record {
  within : l.taken ≤ length l.bytes;
  room : l.made ≤ length l.output;
  same : length l.output ≡ length l.initial.output;
  answers : Answers m.moves (m.state l.initial.machine) l.bytes (m.state l.machine) l.taken l.made l.initial.output l.output;
}

abbrev pub decreases-loop-output : goal.decreases-loop-output
decreases-loop-output g l = length l.bytes - l.taken
