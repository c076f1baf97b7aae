use mathlib.Core.Path.{◌≡◌}
use Rattle.store.specs.Walks.{blank}
use Rattle.store.specs.Runs.{members_at, marking, changed}
use Rattle.store.proofs.lent.mark_where_in.Given as goal

abbrev pub invariant-loop-p : goal.invariant-loop-p
invariant-loop-p l = l.p-items ≡ changed blank (marking l.inside l.mark (members_at l.xs l.from l.n)) l.p-index l.initial.p-items
