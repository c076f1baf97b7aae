-- `derivation::wishes::long_exact`: no part leaves an i64, since cycle·M is below 2^48.
use mathlib.Core.Path.{◌≡◌, ◌∙◌}
use Prim.Native.Nat.{ℕ, ◌*◌, ◌^◌, ◌<◌, ◌≤◌, min}
use native.Mathlib.Nat.{mul-le-mul, le_of_lt}
use native.Mathlib.Omega.{arith}
use mir.Facts.{to_z-of_z}
use Rattle.std.proofs.lemmas.Int.{ints}
use Rattle.paper.specs.Poc.{mod_z}
use Rattle.derivation.proofs.Mask.{pow_most}
use Rattle.derivation.proofs.wishes.long_exact.Goals as goal

turns_most : (k cycle m : ℕ) → cycle < 2 ^ 32 → m ≡ 2 ^ min k 16 → cycle * m ≤ 2 ^ 32 * 65536
turns_most k cycle m h e = mul-le-mul {n₂ = 2 ^ 32} {m₂ = 65536} (le_of_lt h) (omega (arith, pow_most k))

pub overflow_sub-result : goal.overflow_sub-result
overflow_sub-result c =
    omega (arith, ints, turns_most c.args.k c.from.result c.from-2.result (omega arith) (omega arith))

pub returns : goal.returns
returns c =
    let w : c.low_bits.result ≡ mod_z c.args.poc (2 ^ min c.args.k 16) = c.low_bits.ensures ∙ rw (to_z-of_z c.ranges.poc) in
    let p : c.from.result * c.from-2.result ≡ c.args.cycle * 2 ^ min c.args.k 16 = cc in
    omega (arith, ints, turns_most c.args.k c.from.result c.from-2.result (omega arith) (omega arith))
