-- Those that pass the filter are those that wait.
use mathlib.Core.Bool.{Bool}
use mathlib.Core.Path.{◌∙◌, ap}
use lib.ListN.{length}
use Rattle.std.proofs.Common.{rules, tests}
use Rattle.std.proofs.lemmas.Iterator.{YieldsList-from_slice}
use Rattle.std.proofs.lemmas.Iterator.Consumers.{count_from_yields_List, YieldsList-from_filter}
use Rattle.paper.specs.Accounts.{wanting}
use Rattle.paper.specs.declared.Line.{Line}
use Rattle.watch.specs.Book.{view, clamped}
use Rattle.watch.proofs.Walks.{kept}
use Rattle.watch.proofs.totals.waiting.Goals as goal

abbrev waits : Line → Bool
waits e = e.wants

pub returns : goal.returns
unfolding wanting
returns c =
    let held = view (clamped c.args.b.held) in
    count_from_yields_List c.filter.result _ c.count.ensures.ran (YieldsList-from_filter _ waits (YieldsList-from_slice held cc) c.filter.ensures.closure (λ x b q k. search (rules, tests)))
    ∙ ap length (kept waits held)
