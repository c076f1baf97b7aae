-- The three counts and the bit that the test asks for, each read at its place.
use native.Mathlib.Omega.{arith}
use mathlib.Core.Path.{◌∙◌}
use Rattle.format.proofs.Ends.{past_count_lem}
use Rattle.watch.specs.Book.{view}
use Rattle.watch.proofs.Ways.{clear_is}
use Rattle.paper.specs.Kinds.{shown_width}
use Rattle.watch.proofs.parts.is_clear.Goals as goal

pub returns : goal.returns
returns c =
    rw (c.byte-2.ensures, c.bit-said.ensures, c.byte.ensures, c.byte-3.ensures, c.behind_shown-second.ensures.0 ∙ past_count_lem shown_width c.args.reply.now c.args.at (omega arith))
    (clear_is c.args.st (view c.args.left) c.args.reply.now c.args.at c.args.left.len c.requires.0.long)
