use Rattle.store.proofs.Tidy.{Blanks}
use Rattle.store.proofs.words.blank_from.Given as goal

abbrev pub invariant-loop-i : goal.invariant-loop-i
invariant-loop-i l = Blanks l.initial.store l.store l.k l.n l.i
