-- Two answers on one memory are equal, for each is 1 exactly where the memory is in the normal form, and else 0.
-- Assumes nothing.
use Prim.Native.Nat.{ℕ}
use mathlib.Core.Path.{◌≡◌, sym, ◌∙◌}
use native.Mathlib.Omega.{arith}
use lib.Dec.{eqb}
use borrow.Author.Tests.{eqb-true, eqb-false}
use Rattle.paper.proofs.Bools.{split}
use Rattle.session.specs.View.{Memory}
use Rattle.embed.specs.Lent.{SaysNormal}

pub one_say : {a b : ℕ} {m : Memory} → SaysNormal a m → SaysNormal b m → a ≡ b
one_say {a} {b} x y =
    split (eqb a 1)
    (λ t. let e : a ≡ 1 = eqb-true a 1 t in e ∙ sym (y.always (x.only e)))
    (λ t.
    split (eqb b 1)
    (λ u. let e : b ≡ 1 = eqb-true b 1 u in x.always (y.only e) ∙ sym e)
    (λ u. let na = eqb-false a 1 t in let nb = eqb-false b 1 u in let fa = x.flag in let fb = y.flag in omega arith))
