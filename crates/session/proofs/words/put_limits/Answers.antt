-- Each limit is written where it is read.
use native.Mathlib.Omega.{arith}
use borrow.Author.Rules.{rules}
use Rattle.session.proofs.Fronts.{front_limits, words_limits}
use Rattle.session.proofs.words.put_limits.Goals as goal

pub returns : goal.returns
returns c = record { front = front_limits c.args.h.now (omega arith) c.args.l (search rules) (search rules) (search rules) (search rules) (search rules); words = λ f e. words_limits c.args.h.now f e c.args.l }
