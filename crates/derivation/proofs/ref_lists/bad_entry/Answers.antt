-- `derivation::ref_lists::bad_entry`: std's test of a list is the paper's.
use mathlib.Core.Path.{◌∙◌}
use lib.Dec.{leb}
use Rattle.std.proofs.Common.{rules, tests}
use Rattle.std.proofs.lemmas.Iterator.{YieldsList-from_slice}
use Rattle.std.proofs.lemmas.Iterator.Search.{any_from_yields_List}
use Rattle.derivation.proofs.Runs.{any_is}
use Rattle.derivation.proofs.ref_lists.bad_entry.Goals as goal

pub returns : goal.returns
returns c =
    let es = c.args.entries.now in
    any_from_yields_List (leb c.args.n) _ _ c.any.result c.any.ensures.ran (YieldsList-from_slice es cc) (λ x b q k. search (rules, tests))
    ∙ any_is (leb c.args.n) es
