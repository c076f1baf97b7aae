-- The bit of a surface of the pool, and no bit for any other.
use Prim.Native.Nat.{◌*◌, ◌%◌, ◌^◌}
use mathlib.Core.Path.{◌≡◌, sym, ◌∙◌}
use native.Mathlib.Omega.{arith}
use Rattle.std.proofs.Common.{rules}
use Rattle.pool.proofs.Bits.{bit_zero}
use Rattle.pool.proofs.MarkLaws.{bit_of_one, not_of}
use Rattle.pool.proofs.marks.bit_of.Goals as goal

pub returns-then-x-n : goal.returns-then-x-n
returns-then-x-n c = λ i.
    let e : 1 * 2 ^ c.args.x % 18446744073709551616 ≡ 2 ^ c.args.x = search rules in
    rw e (bit_of_one c.args.n c.args.x i (omega arith))

pub returns-else-x-n : goal.returns-else-x-n
returns-else-x-n c = λ i. bit_zero i ∙ sym (not_of c.args.n c.args.x i (omega arith))
