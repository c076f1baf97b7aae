-- Each turn blanks one place more.
use native.Mathlib.Omega.{arith}
use Rattle.store.proofs.Tidy.{blanks_more}
use Rattle.store.proofs.words.blank_from.Goals as goal

pub loop-i-preserved : goal.loop-i-preserved
loop-i-preserved c = blanks_more c.loop-i.invariant c.loop-i.auto.i (omega arith) c.put_blank.ensures
