-- The tail breaks a part, or leaves these lines.
use mathlib.Core.Path.{◌∙◌}
use lib.ListN.{drop}
use Rattle.paper.specs.Kinds.{rest_place}
use Rattle.paper.specs.Ledger.{read_tail}
use Rattle.watch.specs.Book.{view}
use Rattle.watch.proofs.Blames.{moved_left}
use Rattle.watch.proofs.blamed.moved_blame.Goals as goal

pub returns-in-Ok : goal.returns-in-Ok
returns-in-Ok c =
    c.found.ensures ∙ moved_left (read_tail c.args.st (drop rest_place c.args.reply.now)) (view c.args.l) c.in-Ok.left (rw c.in-Ok.is at c.tail.ensures)
