-- The first line that is found is the first of those that are kept.
use mathlib.Core.Path.{◌∙◌, ap}
use Rattle.std.specs.Prelude.{Option}
use Rattle.paper.specs.Blame.{first_line}
use Rattle.paper.specs.declared.Line.{Line}
use Rattle.watch.specs.Book.{view, current_in}
use Rattle.watch.specs.Walks.{asking}
use Rattle.watch.proofs.Walks.{first_found}
use Rattle.watch.proofs.held.found.Goals as goal

pub returns : goal.returns
returns c =
    c.of_line.ensures ∙ ap (λ (x : Option Line). first_line c.args.other (current_in x)) c.find.ensures ∙ first_found c.args.other (asking c.args.q) (view c.args.l)
