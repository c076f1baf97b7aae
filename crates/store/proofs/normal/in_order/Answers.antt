-- A used place is written as its picture is, any other as a blank one.
use native.Mathlib.Omega.{arith}
use Rattle.store.proofs.Deciding.{unused_told}
use Rattle.store.proofs.normal.in_order.Goals as goal

pub returns-else-i-n : goal.returns-else-i-n
returns-else-i-n c = let a = c.args in unused_told a.store.now a.i (omega arith) c.is_blank.ensures
