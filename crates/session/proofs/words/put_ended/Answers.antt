-- One word is written.
use native.Mathlib.Omega.{arith}
use Rattle.session.proofs.Fronts.{front_ended, words_ended}
use Rattle.session.proofs.words.put_ended.Goals as goal

pub returns : goal.returns
returns c = record { front = front_ended c.args.h.now (omega arith); words = λ f e. words_ended c.args.h.now f e }
