use mathlib.Core.Bool.{true}
use mathlib.Core.Path.{◌≡◌}
use Prim.Native.Nat.{◌^◌, min}
use Rattle.paper.specs.Ranges.{long_ok}
use Rattle.paper.specs.Records.{long_at}
use Rattle.paper.specs.Words.{all_b, table}
use Rattle.session.proofs.records.longs_all.Given as goal

abbrev pub invariant-loop-i : goal.invariant-loop-i
invariant-loop-i l = (all_b (long_ok (2 ^ (min l.k 16))) (table (long_at l.msg l.at) l.i) ≡ true)
