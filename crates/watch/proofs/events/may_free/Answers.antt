-- The two tests of a released surface are the definition's, in its order.
use mathlib.Core.Path.{◌∙◌, sym}
use Rattle.watch.specs.Book.{view}
use Rattle.watch.proofs.PartLaws.{free_10, free_11, free_0}
use Rattle.watch.proofs.events.may_free.Goals as goal

pub returns-then-not-has_any : goal.returns-then-not-has_any
returns-then-not-has_any c = sym (free_10 (view c.args.l) c.args.x (sym c.has_any.ensures ∙ c.if-not-has_any.true))

pub returns-then-has_any : goal.returns-then-has_any
returns-then-has_any c = sym (free_11 (view c.args.l) c.args.x (sym c.has_any.ensures ∙ c.if-not-has_any.false) (sym c.has_any-2.ensures ∙ c.if-has_any.true))

pub returns : goal.returns
returns c = sym (free_0 (view c.args.l) c.args.x (sym c.has_any.ensures ∙ c.if-not-has_any.false) (sym c.has_any-2.ensures ∙ c.if-has_any.false))
