-- Each turn writes one picture more; then the places behind them are blanked, and their number is written.
use mathlib.Core.Path.{◌≡◌, ◌∙◌}
use native.Mathlib.Omega.{arith}
use Rattle.store.proofs.Saving.{saved_all, saved_tidy}
use Rattle.store.proofs.words.save.Goals as goal

pub returns : goal.returns
returns c =
    let e : c.loop-i.i ≡ c.args.m.len = omega (arith, c.loop-i-test.false) in
    let h = rw e at c.loop-i.invariant in record { pics = c.set_used.ensures.pics ∙ c.blank_from.ensures.kept ∙ saved_all h; normal = λ f. c.set_used.ensures.normal (c.blank_from.ensures.tidy (saved_tidy h c.used_places-was.ensures.0 c.max.ensures f)) }
