-- `derivation::poc::msb_exact`: each answer is its case of `msb_of`.
use native.Mathlib.Omega.{arith}
use Rattle.std.proofs.lemmas.Bool.Decides.{nat_tests}
use Rattle.std.proofs.lemmas.Int.{ints}
use Rattle.paper.specs.Poc.{msb_of}
use Rattle.derivation.proofs.poc.msb_exact.Goals.{else-lsb-q-via-then-lsb-q+else-from-half, else-lsb-q-via-else-lsb-q, else-lsb-q-2-via-then-lsb-q-2+else-from-half-2, else-lsb-q-2-via-else-lsb-q-2}
use Rattle.derivation.proofs.poc.msb_exact.Goals as goal

pub returns-then-from-half : goal.returns-then-from-half
unfolding msb_of
returns-then-from-half c = grind (arith, ints, nat_tests)

pub returns-then-from-half-2 : goal.returns-then-from-half-2
unfolding msb_of
returns-then-from-half-2 c =
    elim c.else-lsb-q.branch [
      | else-lsb-q-via-then-lsb-q+else-from-half w ↦ grind (arith, ints, nat_tests)
      | else-lsb-q-via-else-lsb-q w ↦ grind (arith, ints, nat_tests)
    ]

pub returns : goal.returns
unfolding msb_of
returns c =
    elim c.else-lsb-q.branch [
      | else-lsb-q-via-then-lsb-q+else-from-half w ↦ elim c.else-lsb-q-2.branch [
        | else-lsb-q-2-via-then-lsb-q-2+else-from-half-2 v ↦ grind (arith, ints, nat_tests)
        | else-lsb-q-2-via-else-lsb-q-2 v ↦ grind (arith, ints, nat_tests)
      ]
      | else-lsb-q-via-else-lsb-q w ↦ elim c.else-lsb-q-2.branch [
        | else-lsb-q-2-via-then-lsb-q-2+else-from-half-2 v ↦ grind (arith, ints, nat_tests)
        | else-lsb-q-2-via-else-lsb-q-2 v ↦ grind (arith, ints, nat_tests)
      ]
    ]
