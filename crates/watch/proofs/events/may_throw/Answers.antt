-- The test of a picture thrown away is the definition's.
use mathlib.Core.Path.{◌∙◌, sym}
use Rattle.watch.specs.Book.{view}
use Rattle.watch.proofs.PartLaws.{throw_8, throw_0}
use Rattle.watch.proofs.events.may_throw.Goals as goal

pub returns : goal.returns
returns c = sym (throw_0 (view c.args.l) c.args.n (sym c.has_any.ensures ∙ c.if-not-has_any.false))

pub returns-then-not-has_any : goal.returns-then-not-has_any
returns-then-not-has_any c = sym (throw_8 (view c.args.l) c.args.n (sym c.has_any.ensures ∙ c.if-not-has_any.true))
