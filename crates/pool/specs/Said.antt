-- What a call of the pool answers, writes and leaves: the contracts of `make`, `step` and `give_back`.
use Rattle.std.specs.Prelude.{ℕ, ◌≤◌, ◌≡◌, List, true, false, cond, ◌&&◌, eqb, length, replicate, Option, None, is_none, Result, MatchResult}
use Rattle.wire.specs.Bytes.{over}
use Rattle.paper.specs.declared.Surface.{Surface}
use Rattle.paper.specs.Kinds.{begin_kind}
use Rattle.paper.specs.Records.{kind_of}
use Rattle.paper.specs.State.{all_refs}
use Rattle.store.specs.StoreWords.{word}
use Rattle.session.specs.View.{Memory}
use Rattle.session.specs.Laid.{NormalMemory}
use Rattle.session.specs.Target.{is_begin}
use Rattle.pool.specs.declared.Given as Code
use Rattle.pool.specs.declared.Refusal.{Refusal}
use Rattle.pool.specs.declared.Refusal.TheVariants.{NoneFree}
use Rattle.pool.specs.Pool.{Pool, can_make, made, surface_at, lowest_free}
use Rattle.pool.specs.Calls.{pool_step, pool_return}
use Rattle.pool.specs.Memory.{PoolMemory, pool_in, at_most_one, pool_memory, SURFACES}

-- `make`: a pool of n surfaces, whatever the memory held; or 20, and every word as it was
pub record Makes (m : PoolMemory) (n k : ℕ) (m' : PoolMemory) : Type 0 where
  pub number : k ≡ cond (can_make n) 0 20
  pub made : can_make n ≡ true → pool_in m' ≡ made n
  pub normal : can_make n ≡ true → NormalMemory m'.memory
  pub blank : can_make n ≡ true → m'.memory.sets ≡ replicate 16 0
  pub surfaces : can_make n ≡ true → word m'.words SURFACES ≡ n
  pub left : (k ≡ 0 → ⊥) → m' ≡ m

-- what a record is taken with: where its kind is that of a begin the lowest free surface, and else none. A well-formed
-- begin is taken with one, or is refused where none is free
abbrev pub TakenWith : Pool → List ℕ → Result (Option Surface) Refusal → Type 0
TakenWith p r a =
    MatchResult a
    (λ o. (o ≡ cond (eqb (kind_of r) begin_kind) (surface_at (lowest_free p)) None) × ((is_none o && is_begin r) ≡ false))
    (λ e. (e ≡ NoneFree) × ((surface_at (lowest_free p) ≡ None) × (is_begin r ≡ true)))

-- `step`: the answer, the whole buffer and the next pool are those of `pool_step`; a refused record leaves every word as
-- it was, and the count of the surfaces stays; the session's memory stays in its normal form, and the run of the sets
-- as it was behind the next session's members
pub record Permitted (m : PoolMemory) (r before : List ℕ) (a : Code.Given) (m' : PoolMemory)
    (after : List ℕ) : Type 0 where
  pub answer : a
      ≡ record {
        number = (pool_step (pool_in m) r (length before)).number;
        len = length (pool_step (pool_in m) r (length before)).bytes;
        surface = surface_at (pool_step (pool_in m) r (length before)).surface;
      }
  pub bytes : after ≡ over (pool_step (pool_in m) r (length before)).bytes before
  pub next : pool_in m' ≡ at_most_one (pool_step (pool_in m) r (length before)).next
  pub left : (a.number ≡ 0 → ⊥) → m' ≡ m
  pub surfaces : word m'.words SURFACES ≡ word m.words SURFACES
  pub normal : NormalMemory m.memory → NormalMemory m'.memory
  pub sets : (i : ℕ) → length (all_refs (pool_step (pool_in m) r (length before)).next.session.refs) ≤ i
      → word m'.memory.sets i ≡ word m.memory.sets i

-- `give_back`, which is lent the pool's words alone: whatever session there is beside them
pub record GivesBack (ws : List ℕ) (x k : ℕ) (ws' : List ℕ) : Type 0 where
  pub number : (m : Memory) → k ≡ (pool_return (pool_in (pool_memory ws m)) x).number
  pub next : (m : Memory) → pool_in (pool_memory ws' m) ≡ (pool_return (pool_in (pool_memory ws m)) x).next
  pub left : (k ≡ 0 → ⊥) → ws' ≡ ws
  pub surfaces : word ws' SURFACES ≡ word ws SURFACES
