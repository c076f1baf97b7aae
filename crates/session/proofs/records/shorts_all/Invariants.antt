use mathlib.Core.Bool.{true}
use mathlib.Core.Path.{◌≡◌}
use lib.IntN.{pos}
use Rattle.paper.specs.Records.{short_at}
use Rattle.paper.specs.Words.{table}
use Rattle.session.proofs.Entries.{last_of}
use Rattle.session.proofs.records.shorts_all.Given as goal

abbrev pub invariant-loop-i : goal.invariant-loop-i
invariant-loop-i g l = (l.last ≡ last_of (pos 0) (table (short_at l.msg l.at) l.i)) × (g.S.Sign.in_range (pos 0) (table (short_at l.msg l.at) l.i) ≡ true)
