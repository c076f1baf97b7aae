-- `finish`: refused where no picture is current, else `finish_at` of that picture; the definition asks the same.
use mathlib.Core.Path.{sym, ◌∙◌}
use Rattle.session.proofs.Saying.{finish_4}
use Rattle.session.proofs.calls.finish.Goals as goal

pub returns-in-None : goal.returns-in-None
returns-in-None c =
    λ xs. finish_4 c.before.args.front.now xs c.before.args.store.now (sym c.now_in.ensures ∙ c.in-None.is)
