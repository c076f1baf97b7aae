-- The two tests of a picture handed out are the definition's, in its order.
use mathlib.Core.Path.{◌∙◌, sym}
use Rattle.watch.specs.Book.{view}
use Rattle.watch.proofs.PartLaws.{hand_6, hand_7, hand_0}
use Rattle.watch.proofs.events.may_hand.Goals as goal

pub returns-then-not-has_any : goal.returns-then-not-has_any
returns-then-not-has_any c = sym (hand_6 (view c.args.l) c.args.x (sym c.has_any.ensures ∙ c.if-not-has_any.true))

pub returns : goal.returns
returns c = sym (hand_0 (view c.args.l) c.args.x (sym c.has_any.ensures ∙ c.if-not-has_any.false) (sym c.has_any-2.ensures ∙ c.if-not-has_any-2.false))

pub returns-then-not-has_any-2 : goal.returns-then-not-has_any-2
returns-then-not-has_any-2 c = sym (hand_7 (view c.args.l) c.args.x (sym c.has_any.ensures ∙ c.if-not-has_any.false) (sym c.has_any-2.ensures ∙ c.if-not-has_any-2.true))
