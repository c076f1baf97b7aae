use Rattle.pool.specs.Marks.{surfaces_in, BitsOf}
use Rattle.pool.proofs.tails.named.Given as goal

abbrev pub invariant-loop-i : goal.invariant-loop-i
invariant-loop-i l = BitsOf l.n (surfaces_in l.reply l.at l.width l.i) l.bits
