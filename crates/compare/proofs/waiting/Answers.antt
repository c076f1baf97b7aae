-- A reply that is not whole is shorter than the buffer.
use borrow.Author.Rules.{rules}
use Rattle.format.proofs.Fitting.{room_left}
use Rattle.compare.proofs.waiting.Goals as goal

pub returns-clause-room : goal.returns-clause-room
returns-clause-room c = λ q z. room_left c.args.f.held c.args.bytes.now (λ k. search rules) q c.requires z
