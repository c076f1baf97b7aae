-- The library's test of a part of the run is that of its members.
use Prim.Native.Nat.{◌+◌, ◌≤◌}
use mathlib.Core.Path.{ap, ◌∙◌}
use native.Mathlib.Omega.{arith}
use lib.ListN.{length}
use Rattle.paper.specs.Sets.{is_in}
use Rattle.store.proofs.Walks.{members_run, serial_in}
use Rattle.store.proofs.marks.is_among.Goals as goal

pub returns : goal.returns
returns c =
    let a = c.args in
    let le : a.from + a.n ≤ length a.xs = omega arith in
    c.contains.ensures.value ∙ serial_in a.x _ ∙ ap (is_in a.x) (members_run a.xs a.from a.n le)
