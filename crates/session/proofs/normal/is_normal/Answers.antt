-- The front is in order part by part, and the store is in normal form.
use native.Mathlib.Omega.{arith}
use Rattle.session.proofs.Layouts.{memory_told}
use Rattle.session.proofs.normal.is_normal.Goals as goal

pub returns : goal.returns
returns c =
    memory_told c.args.front.now c.args.sets.now c.args.store.now (omega arith) (omega arith)
    c.flags_laid.ensures
    c.limits_laid.ensures
    c.prev_laid.ensures
    c.current_laid.ensures
    c.sizes_laid.ensures
    c.is_normal.ensures
