-- Those behind the place move up, all at once.
use Prim.Native.Nat.{◌+◌, ◌-◌}
use mathlib.Core.Path.{◌≡◌, ap, ◌∙◌}
use native.Mathlib.Omega.{arith}
use Rattle.store.specs.Walks.{blank}
use Rattle.store.specs.Places.{place_at}
use Rattle.store.proofs.Taken.{moved_up}
use Rattle.store.proofs.bumping.remove.Goals as goal

pub returns : goal.returns
returns c =
    let a = c.args in
    let x = c.copy_within.ensures.by_index in
    moved_up a.ps _ c.requires.1 (λ j l. x.1 j blank l)
    (λ j le lt. let e : a.at + 1 + (j - a.at) ≡ j + 1 = omega arith in x.0 j blank le (omega arith) ∙ ap (place_at a.ps) e)
