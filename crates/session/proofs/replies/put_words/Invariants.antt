use Rattle.paper.specs.Numbers.{bytes32}
use Rattle.session.proofs.Bytes.{Written}
use Rattle.session.proofs.replies.put_words.Given as goal

abbrev pub invariant-loop-x : goal.invariant-loop-x
invariant-loop-x g l = Written (λ (x : g.row.T.Denot). bytes32 (g.T.Named.number x)) 4 l.xs l.initial.d l.at l.x-index l.end l.d
