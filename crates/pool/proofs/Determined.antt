-- Any two results that the contract of `step` permits are equal: a caller need not ask which code answered. Answer,
-- buffer and pool always, and so the pool's three words; and, from memory in its normal form, the
-- session's words, as the session's own theorem says. Assumes nothing.
use Prim.Native.Nat.{ℕ, zero, suc, ◌<◌}
use mathlib.Core.Path.{◌≡◌, refl, sym, ap, ◌∙◌}
use mathlib.Core.List.{List}
use mathlib.Core.Bool.{Bool, true, false, cond}
use native.Mathlib.Omega.{arith}
use lib.ListN.{length}
use lib.Seq.{ext_get_or}
use Rattle.paper.specs.Numbers.{bit}
use Rattle.store.specs.StoreWords.{word}
use Rattle.session.specs.Laid.{NormalMemory}
use Rattle.session.proofs.Bridge.{same_words}
use Rattle.pool.specs.declared.Given as goal
use Rattle.pool.specs.Pool.{Pool}
use Rattle.pool.specs.Calls.{pool_step}
use Rattle.pool.specs.Memory.{PoolMemory, pool_in, HELD, PENDING}
use Rattle.pool.specs.Said.{Permitted}
use Rattle.pool.proofs.Bits.{bits_same}

flags_same : (a b : Bool) → ◌≡◌ {A = ℕ} (cond a 1 0) (cond b 1 0) → a ≡ b
flags_same true true e = refl
flags_same true false e = absurd (omega arith)
flags_same false true e = absurd (omega arith)
flags_same false false e = refl

three_same : (us vs : List ℕ) → length us ≡ 3 → length vs ≡ 3 → word us 0 ≡ word vs 0 → word us 1 ≡ word vs 1 → word us 2 ≡ word vs 2 → us ≡ vs
three_same us vs n k p q s = ext_get_or 0 us vs (n ∙ sym k) (λ i h. go i (omega arith))
  where
    go : (i : ℕ) → i < 3 → word us i ≡ word vs i
    go zero h = p
    go (suc zero) h = q
    go (suc (suc zero)) h = s
    go (suc (suc (suc i))) h = absurd (omega arith)

module _ {m : PoolMemory} {r before : List ℕ} {a b : goal.Given} {m1 m2 : PoolMemory} {x y : List ℕ} (p : Permitted m r before a m1 x) (q : Permitted m r before b m2 y) where
  pub one_step : (a ≡ b) × (x ≡ y) × (pool_in m1 ≡ pool_in m2)
  one_step = (p.answer ∙ sym q.answer, p.bytes ∙ sym q.bytes, p.next ∙ sym q.next)

  -- in every word of the pool
  pub one_step_words : length m1.words ≡ 3 → length m2.words ≡ 3 → m1.words ≡ m2.words
  one_step_words f g =
      let e = p.next ∙ sym q.next in
      three_same m1.words m2.words f g (p.surfaces ∙ sym q.surfaces)
      (bits_same (word m1.words HELD) (word m2.words HELD) (λ i. ap (λ (v : Pool). v.held i) e))
      (bits_same (word m1.words PENDING) (word m2.words PENDING) (λ i. flags_same (bit i (word m1.words PENDING)) (bit i (word m2.words PENDING)) (ap (λ (v : Pool). v.pending i) e)))

  -- and of its session
  pub one_step_memory : NormalMemory m.memory
      → (m1.memory.front ≡ m2.memory.front) × ((i : ℕ) → word m1.memory.sets i ≡ word m2.memory.sets i) × ((j : ℕ) → j < 97 → word m1.memory.store j ≡ word m2.memory.store j)
  one_step_memory n =
      same_words (pool_step (pool_in m) r (length before)).next.session m.memory.sets
      (ap (λ (v : Pool). v.session) p.next) (ap (λ (v : Pool). v.session) q.next) (p.normal n) (q.normal n) p.sets q.sets
