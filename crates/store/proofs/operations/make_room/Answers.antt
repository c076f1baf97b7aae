-- The unused pictures are released and leave; then a round is made, or none is due and a round would do nothing.
use mathlib.Core.Path.{sym, ◌∙◌, subst}
use native.Mathlib.Omega.{arith}
use Rattle.derivation.proofs.Pad.{is_good}
use Rattle.store.specs.Tails.{HoldsMoved}
use Rattle.store.proofs.Ends.{removes_room, makes_room, keeps_room}
use Rattle.store.proofs.operations.make_room.Goals as goal

pub bump_as_needed-requires : goal.bump_as_needed-requires
bump_as_needed-requires c = (
  is_good c.remove_unused-f.ensures.freed,
  omega (arith, c.remove_unused-f.ensures.few, c.requires),
  removes_room c.args.s.places c.args.s.len c.remove_unused-f.result.places c.remove_unused-f.result.len c.remove_unused-f.ensures.freed c.remove_unused-f.ensures.left c.requires,
  rw c.latency_of.ensures at c.find_lowest_poc_for_bumping-c.ensures,
)

pub untouched-requires : goal.untouched-requires
untouched-requires c =
    (is_good c.remove_unused-f.ensures.freed, omega (arith, c.remove_unused-f.ensures.few, c.requires))

pub returns-then-is_due : goal.returns-then-is_due
returns-then-is_due c =
    subst (HoldsMoved c.bump_as_needed.result) (makes_room c.args.s.places c.args.s.len c.remove_unused-f.result.places c.remove_unused-f.result.len c.remove_unused-f.ensures.freed c.remove_unused-f.ensures.left c.args.l) c.bump_as_needed.ensures

pub returns-else-is_due : goal.returns-else-is_due
returns-else-is_due c =
    let scan = rw c.latency_of.ensures at c.find_lowest_poc_for_bumping-c.ensures in
    let none = sym c.is_due.ensures ∙ c.if-is_due.false in
    subst (HoldsMoved c.untouched.result) (keeps_room c.args.s.places c.args.s.len c.remove_unused-f.result.places c.remove_unused-f.result.len c.remove_unused-f.ensures.freed c.remove_unused-f.ensures.left c.args.l scan none) c.untouched.ensures
