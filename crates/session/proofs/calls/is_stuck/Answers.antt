-- The two tests, one after the other.
use mathlib.Core.Path.{sym, ap₂, ◌∙◌}
use mathlib.Core.Bool.{Bool, ◌&&◌}
use Rattle.session.proofs.Fronts.{is_now}
use Rattle.session.proofs.Saying.{full_err, full_is}
use Rattle.session.proofs.calls.is_stuck.Goals as goal

pub returns : goal.returns
returns c =
    λ xs. ap₂ (λ (x y : Bool). x && y) (c.is_busy.ensures ∙ sym (is_now c.args.front.now)) (full_is c.args.front.now xs c.args.store.now c.limits_in-l.ensures (c.is_err.ensures.value ∙ full_err c.room_in.ensures.answer))
