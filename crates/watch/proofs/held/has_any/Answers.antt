-- `any` of std and the definition go over the lines alike.
use mathlib.Core.Path.{◌∙◌}
use Rattle.std.proofs.Common.{rules, tests}
use Rattle.std.proofs.lemmas.Iterator.{YieldsList-from_slice}
use Rattle.std.proofs.lemmas.Iterator.Search.{any_from_yields_List}
use Rattle.watch.specs.Book.{view}
use Rattle.watch.specs.Walks.{asking}
use Rattle.watch.proofs.Walks.{any_is}
use Rattle.watch.proofs.held.has_any.Goals as goal

pub returns : goal.returns
returns c =
    any_from_yields_List (asking c.args.q) _ _ _ c.any.ensures.ran (YieldsList-from_slice (view c.args.l) cc) (λ x b q k. search (rules, tests))
    ∙ any_is (asking c.args.q) (view c.args.l)
