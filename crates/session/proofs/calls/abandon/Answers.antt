-- `abandon`: refused where no picture is current, else `abandon_at` of that picture; the definition asks the same.
use mathlib.Core.Path.{sym, ◌∙◌}
use Rattle.session.proofs.Saying.{abandon_4}
use Rattle.session.proofs.calls.abandon.Goals as goal

pub returns-in-None : goal.returns-in-None
returns-in-None c =
    λ xs t. abandon_4 c.before.args.front.now xs t (sym c.now_in.ensures ∙ c.in-None.is)
