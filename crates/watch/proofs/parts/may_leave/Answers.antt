-- Each way out, in the order of the parts.
use mathlib.Core.Path.{◌∙◌, sym}
use Rattle.watch.specs.Book.{view}
use Rattle.watch.proofs.Ways.{left_19, left_12, left_0}
use Rattle.watch.proofs.parts.may_leave.Goals as goal

pub returns-then-not-is_clear : goal.returns-then-not-is_clear
returns-then-not-is_clear c =
    sym (left_19 c.args.st (view c.args.l) c.args.reply.now c.args.n (sym c.is_clear.ensures ∙ c.if-not-is_clear.true))

pub returns : goal.returns
returns c =
    sym (left_0 c.args.st (view c.args.l) c.args.reply.now c.args.n (sym c.is_clear.ensures ∙ c.if-not-is_clear.false) (sym c.names_known.ensures ∙ c.if-not-names_known.false))

pub returns-then-not-names_known : goal.returns-then-not-names_known
returns-then-not-names_known c =
    sym (left_12 c.args.st (view c.args.l) c.args.reply.now c.args.n (sym c.is_clear.ensures ∙ c.if-not-is_clear.false) (sym c.names_known.ensures ∙ c.if-not-names_known.true))
