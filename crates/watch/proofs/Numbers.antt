-- The parts and their numbers: none is 0, and each number has one part.
use Prim.Native.Nat.{ℕ}
use mathlib.Core.Path.{◌≡◌, refl, sym, ap, ◌∙◌}
use mathlib.Core.Bool.{Bool, true, false, cond, not}
use native.Mathlib.Omega.{arith}
use lib.Dec.{eqb}
use borrow.Author.Tests.{ne_eqb}
use Rattle.std.specs.Prelude.{Option, None, Some, is_some}
use Rattle.watch.specs.Parts.{number_of, part_at, blamed_at}
use Rattle.watch.specs.declared.demand.Part.{Part}
use Rattle.watch.specs.declared.demand.Part.TheVariants.{NotWhole, OtherReply, BegunWhileCurrent, NotNextSerial, BegunOnHeld, HandedNotWaiting}
use Rattle.watch.specs.declared.demand.Part.TheVariants.{HandedElsewhere, ThrownNotWaiting, ThrownByCall, ReleasedNothing, ReleasedWaiting, NamesNotHeld}
use Rattle.watch.specs.declared.demand.Part.TheVariants.{NoCurrent, EndMoves, LeavesSome, StoresTooMany, RecordAlone, ReplyAlone}
use Rattle.watch.specs.declared.demand.Part.TheVariants.{ThrownByBegin}
use Rattle.watch.specs.declared.demand.Broken.{Broken}

pub positive : (p : Part) → number_of p ≡ 0 → ⊥
positive NotWhole e = omega arith
positive OtherReply e = omega arith
positive BegunWhileCurrent e = omega arith
positive NotNextSerial e = omega arith
positive BegunOnHeld e = omega arith
positive HandedNotWaiting e = omega arith
positive HandedElsewhere e = omega arith
positive ThrownNotWaiting e = omega arith
positive ThrownByCall e = omega arith
positive ReleasedNothing e = omega arith
positive ReleasedWaiting e = omega arith
positive NamesNotHeld e = omega arith
positive NoCurrent e = omega arith
positive EndMoves e = omega arith
positive LeavesSome e = omega arith
positive StoresTooMany e = omega arith
positive RecordAlone e = omega arith
positive ReplyAlone e = omega arith
positive ThrownByBegin e = omega arith

numbered : ℕ → Part
numbered n =
    cond (eqb n 1) NotWhole
    (cond (eqb n 2) OtherReply
    (cond (eqb n 3) BegunWhileCurrent
    (cond (eqb n 4) NotNextSerial
    (cond (eqb n 5) BegunOnHeld
    (cond (eqb n 6) HandedNotWaiting
    (cond (eqb n 7) HandedElsewhere
    (cond (eqb n 8) ThrownNotWaiting
    (cond (eqb n 9) ThrownByCall
    (cond (eqb n 10) ReleasedNothing
    (cond (eqb n 11) ReleasedWaiting
    (cond (eqb n 12) NamesNotHeld
    (cond (eqb n 13) NoCurrent
    (cond (eqb n 14) EndMoves
    (cond (eqb n 15) LeavesSome
    (cond (eqb n 16) StoresTooMany
    (cond (eqb n 17) RecordAlone
    (cond (eqb n 18) ReplyAlone
    ThrownByBegin)))))))))))))))))

back : (p : Part) → numbered (number_of p) ≡ p
unfolding numbered
back NotWhole = refl
back OtherReply = refl
back BegunWhileCurrent = refl
back NotNextSerial = refl
back BegunOnHeld = refl
back HandedNotWaiting = refl
back HandedElsewhere = refl
back ThrownNotWaiting = refl
back ThrownByCall = refl
back ReleasedNothing = refl
back ReleasedWaiting = refl
back NamesNotHeld = refl
back NoCurrent = refl
back EndMoves = refl
back LeavesSome = refl
back StoresTooMany = refl
back RecordAlone = refl
back ReplyAlone = refl
back ThrownByBegin = refl

pub same_number : (p q : Part) → number_of p ≡ number_of q → p ≡ q
same_number p q e = sym (back p) ∙ ap numbered e ∙ back q

pub one_broken : (x y : Option Broken) → part_at x ≡ part_at y → blamed_at x ≡ blamed_at y → x ≡ y
one_broken None None e f = refl
one_broken None (Some y) e f = absurd (positive y.part (sym e))
one_broken (Some x) None e f = absurd (positive x.part e)
one_broken (Some x) (Some y) e f = let p = same_number x.part y.part e in λ i. Some (record { part = p i; blamed = f i })

pub no_part : (x : Option Broken) {r : Bool} → is_some x ≡ not r → r ≡ eqb (part_at x) 0
no_part None {r = true} e = refl
no_part None {r = false} e = e
no_part (Some y) {r = true} e = e ∙ sym (ne_eqb (number_of y.part) 0 (positive y.part))
no_part (Some y) {r = false} e = sym (ne_eqb (number_of y.part) 0 (positive y.part))
