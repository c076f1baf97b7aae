-- No surface has no bit, and one surface more is one bit more.
use Rattle.pool.proofs.Bits.{bit_zero}
use Rattle.pool.proofs.MarkLaws.{hit_none}
use Rattle.pool.proofs.TailLaws.{bits_more}
use mathlib.Core.Path.{sym, ◌∙◌}
use Rattle.pool.proofs.tails.named.Goals as goal

pub loop-i-init : goal.loop-i-init
loop-i-init c = λ i. bit_zero i ∙ sym (hit_none c.args.n i)

pub loop-i-preserved : goal.loop-i-preserved
loop-i-preserved c =
    bits_more c.args.n c.args.reply.now c.args.at c.args.width c.loop-i.i c.loop-i.bits c.bit_of-bits.result c.loop-i.invariant (rw c.u32_at.ensures at c.bit_of-bits.ensures)
