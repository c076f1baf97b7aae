-- Each turn reads one picture more, changed.
use Prim.Native.Nat.{ℕ}
use mathlib.Core.Path.{◌≡◌, ap, ◌∙◌}
use mathlib.Core.List.{map}
use native.Mathlib.Omega.{arith}
use Rattle.store.specs.Walks.{change_by}
use Rattle.store.specs.StoreWords.{pictures}
use Rattle.store.proofs.Saving.{loaded_all}
use Rattle.store.proofs.words.load.Goals as goal

pub returns : goal.returns
returns c =
    let a = c.args in
    let u = c.used_places-n in
    let e : c.loop-i.i ≡ u.result = omega arith in
    let h = rw e at c.loop-i.invariant in record { few = (u.ensures.0, u.ensures.1); holds = loaded_all h ∙ ap (λ (n : ℕ). map (change_by a.x) (pictures a.store.now n)) u.ensures.0 }
