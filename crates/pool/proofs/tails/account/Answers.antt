-- What is released is held no more, then the surface of the begin is held; what is handed out is pending.
use Prim.Native.Nat.{ℕ, ◌≤◌, ◌<◌, ◌^◌}
use mathlib.Core.Path.{◌≡◌, refl, sym, ◌∙◌}
use native.Mathlib.Omega.{arith}
use Rattle.std.proofs.Common.{rules}
use Rattle.paper.specs.Numbers.{bit}
use Rattle.paper.specs.Reading.{opening}
use Rattle.paper.specs.Ledger.{read_reply}
use Rattle.paper.specs.Accounts.{tail_in}
use Rattle.pool.specs.Pool.{number_at}
use Rattle.pool.specs.Marks.{is_of}
use Rattle.pool.proofs.Bits.{bit_zero, bit_clear}
use Rattle.pool.proofs.MarkLaws.{not_of}
use Rattle.pool.proofs.TailLaws.{told_tail}
use Rattle.pool.proofs.tails.account.Goals.{in-Some, in-None}
use Rattle.pool.proofs.tails.account.Goals as goal

pub returns : goal.returns
returns c =
    let wide : c.tail_of-t.result.released < 2 ^ 64 = search rules in
    let few : c.surfaces_in-n.result ≤ 64 = omega (arith, c.surfaces_in-n.ensures) in
    let begun : (i : ℕ) → bit i c.match-begun.begun ≡ is_of c.surfaces_in-n.result (number_at c.args.begun) i = λ i.
    elim c.match-begun.branch [
      | in-Some w ↦ rw (w.begun-is, w.in-Some.is) (w.bit_of-begun.ensures i)
      | in-None w ↦ rw (w.begun-is, w.in-None.is) (bit_zero i ∙ sym (not_of c.surfaces_in-n.result 64 i few))
    ] in
    told_tail c.args.pool.now c.told-pool _ (number_at c.args.begun) (tail_in (read_reply opening c.args.reply.now)) c.tail_of-t.result _ c.match-begun.begun refl
    (rw c.surfaces_in-n.ensures at c.tail_of-t.ensures) (rw c.surfaces_in-n.ensures at begun)
    (λ i. bit_clear i _ c.tail_of-t.result.released (c.fits-pool 1) wide)
