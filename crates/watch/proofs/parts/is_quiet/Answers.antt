-- All three counts are 0.
use native.Mathlib.Omega.{arith}
use mathlib.Core.Path.{◌∙◌, sym}
use Rattle.format.proofs.Ends.{past_count_lem}
use Rattle.watch.proofs.Bytes.{quiet_tail}
use Rattle.paper.specs.Kinds.{word_width, shown_width}
use Rattle.watch.proofs.parts.is_quiet.Goals as goal

pub returns : goal.returns
returns c =
    rw (c.byte.ensures, c.byte-2.ensures, c.byte-3.ensures, c.behind-third.ensures.0 ∙ past_count_lem word_width c.args.reply.now c.behind_shown-second.result (omega arith), c.behind_shown-second.ensures.0 ∙ past_count_lem shown_width c.args.reply.now c.args.at (omega arith)) (sym (quiet_tail c.args.st c.args.at c.args.reply.now))
