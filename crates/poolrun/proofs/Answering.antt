-- One answer put behind those that are there: the reply lies behind the place of the head, and the head is written in
-- front of it. The lent part of the buffer has just 512 bytes, so the pool answers as with the room of a call.
use Prim.Native.Nat.{ℕ, ◌+◌, ◌-◌, ◌≤◌}
use mathlib.Core.Path.{◌≡◌, refl, sym, ap, ap₂, ◌∙◌}
use mathlib.Core.List.{List, ◌++◌}
use mathlib.Core.Bool.{true, false}
use native.Mathlib.Omega.{arith}
use lib.ListN.{length, take, drop, length-drop, length-append}
use lib.Seq.{sets, length-take-le, take_all}
use Rattle.wire.specs.Bytes.{over}
use Rattle.paper.specs.Numbers.{u32}
use Rattle.paper.proofs.Bools.{split}
use Rattle.session.specs.View.{Memory}
use Rattle.pool.specs.declared.Given as Code
use Rattle.pool.specs.Pool.{Pool, no_surface, surface_at, number_at}
use Rattle.pool.proofs.StepLaws.{number_surface}
use Rattle.pool.specs.Calls.{Given, pool_step, pool_return}
use Rattle.pool.specs.History.{Lends, Returns, answer_to, after}
use Rattle.pool.specs.Memory.{PoolMemory, pool_memory, pool_in, at_most_one}
use Rattle.pool.specs.Said.{Permitted, GivesBack}
use Rattle.stream.specs.Laid.{laid_at}
use Rattle.stream.proofs.Laying.{laid_part, sets_laid, head_laid}
use Rattle.filter.specs.Answers.{Added}
use Rattle.filter.proofs.Fitting.{over_longest}
use Rattle.poolrun.specs.declared.Kind.TheVariants.{Record, Return}
use Rattle.poolrun.specs.Files.{is_return, done_by, call_in, head_bytes, answer_bytes}
use Rattle.poolrun.specs.Machine.{pools}
use Rattle.poolrun.proofs.Surfaces.{surface_small, held_whole}

-- ---- what the machine says of a call

pub lends_record : (c : List ℕ) → done_by c ≡ Record → is_return c ≡ false
lends_record c h = split (is_return c) (λ e. let k = rw e at h in cc) (λ e. e)

pub returns_surface : (c : List ℕ) → done_by c ≡ Return → is_return c ≡ true
returns_surface c h = split (is_return c) (λ e. e) (λ e. let k = rw e at h in cc)

module _ (c : List ℕ) (is : is_return c ≡ false) where
  lends : call_in c ≡ Lends (drop 4 c) 512
  unfolding call_in
  lends = rw is

  out_record : (p : Pool) (g : Given) → pool_step p (drop 4 c) 512 ≡ g → pools.out p c ≡ head_bytes 0 (length g.bytes) g.number g.surface ++ g.bytes
  unfolding answer_bytes answer_to
  out_record p g e = rw (lends, is, e)

  next_record : (p : Pool) → pools.next p c ≡ at_most_one (pool_step p (drop 4 c) 512).next
  unfolding after
  next_record p = rw lends

module _ (c : List ℕ) (is : is_return c ≡ true) where
  returns : call_in c ≡ Returns (u32 c 4)
  unfolding call_in
  returns = rw is

  out_return : (p : Pool) → pools.out p c ≡ head_bytes 1 0 (pool_return p (u32 c 4)).number no_surface
  unfolding answer_bytes answer_to
  out_return p = rw (returns, is)

  next_return : (p : Pool) → pools.next p c ≡ at_most_one (pool_return p (u32 c 4)).next
  unfolding after
  next_return p = rw returns

-- ---- a record

module _ {m m' : PoolMemory} {part : List ℕ} {a : Code.Given} (c : List ℕ) (made : ℕ) (out : List ℕ) (h : made + 520 ≤ length out)
    (same : length part ≡ length (take (made + 520 - (made + 8)) (drop (made + 8) out)))
    (p : Permitted m (take (length c - 4) (drop 4 c)) (take (made + 520 - (made + 8)) (drop (made + 8) out)) a m' part) where
  mid : List ℕ
  mid = take (made + 520 - (made + 8)) (drop (made + 8) out)

  room : length mid ≡ 512
  unfolding mid
  room =
      let d = length-drop (made + 8) out in
      let k = length-take-le (made + 520 - (made + 8)) (drop (made + 8) out) (omega arith) in
      omega arith

  given : Given
  given = pool_step (pool_in m) (drop 4 c) 512

  same_step : pool_step (pool_in m) (take (length c - 4) (drop 4 c)) (length mid) ≡ given
  unfolding given
  same_step = let k = length-drop 4 c in ap₂ (pool_step (pool_in m)) (take_all (length c - 4) (drop 4 c) (omega arith)) room

  answer_is : a ≡ record { number = given.number; len = length given.bytes; surface = surface_at given.surface }
  unfolding mid
  answer_is = p.answer ∙ ap (λ (g : Given). record { number = g.number; len = length g.bytes; surface = surface_at g.surface }) same_step

  bytes_are : part ≡ over given.bytes mid
  unfolding mid
  bytes_are = p.bytes ∙ ap (λ (g : Given). over g.bytes mid) same_step

  bytes_fit : length given.bytes ≤ length mid
  unfolding mid
  bytes_fit = over_longest given.bytes mid (sym (ap length bytes_are) ∙ same)

  -- so the head can say both
  pub answer_fits : (a.len ≤ 512) × (number_at a.surface ≤ 64)
  unfolding given
  answer_fits =
      let k = bytes_fit in
      let r = room in
      let e : a.len ≡ length given.bytes = ap (λ (x : Code.Given). x.len) answer_is in
      let f : number_at a.surface ≡ given.surface = ap (λ (x : Code.Given). number_at x.surface) answer_is ∙ number_surface given.surface in
      let small : given.surface ≤ 64 = surface_small (pool_in m) (drop 4 c) 512 in
      (omega arith, omega arith)

  module _ {after : List ℕ} (is : is_return c ≡ false)
      (put : after ≡ sets (take (made + 8) out ++ (part ++ drop (made + 520 - (made + 8)) (drop (made + 8) out))) made (head_bytes 0 a.len a.number (number_at a.surface))) where
    pub recorded : Added pools (pool_in m) c made out (8 + a.len) (pool_in m') after
    unfolding mid given
    recorded =
        let g = given in
        let head = head_bytes 0 (length g.bytes) g.number g.surface in
        let said : pools.out (pool_in m) c ≡ head ++ g.bytes = out_record c is (pool_in m) g refl in
        let k = answer_fits.0 in
        let e : a.len ≡ length g.bytes = ap (λ (x : Code.Given). x.len) answer_is in
        record {
          fits = omega arith;
          long = ap (λ (n : ℕ). 8 + n) e ∙ sym (ap length said ∙ length-append head g.bytes);
          bytes =
              put
              ∙ ap₂ (λ (l : List ℕ) (x : Code.Given). sets l made (head_bytes 0 x.len x.number (number_at x.surface)))
              (laid_part (made + 8) (made + 520 - (made + 8)) g.bytes out bytes_fit bytes_are) answer_is
              ∙ ap (λ (y : ℕ). sets (laid_at (made + 8) g.bytes out) made (head_bytes 0 (length g.bytes) g.number y)) (number_surface g.surface)
              ∙ head_laid made head g.bytes out (omega arith)
              ∙ ap (λ (x : List ℕ). laid_at made x out) (sym said);
          next = p.next ∙ ap (λ (x : Given). at_most_one x.next) same_step ∙ sym (next_record c is (pool_in m));
        }

-- ---- a return, whatever session there is

pub returned : {ws ws' c after : List ℕ} {k : ℕ} (made : ℕ) (out : List ℕ) → made + 520 ≤ length out → is_return c ≡ true → GivesBack ws (u32 c 4) k ws'
    → after ≡ sets out made (head_bytes 1 0 k no_surface) → (m : Memory) → Added pools (pool_in (pool_memory ws m)) c made out 8 (pool_in (pool_memory ws' m)) after
returned {ws} {ws'} {c} {after} {k} made out h is g put m =
    let p = pool_in (pool_memory ws m) in
    let said : pools.out p c ≡ head_bytes 1 0 k no_surface = out_return c is p ∙ ap (λ (n : ℕ). head_bytes 1 0 n no_surface) (sym (g.number m)) in
    record {
      fits = omega arith;
      long = sym (ap length said);
      bytes = put ∙ sets_laid made (head_bytes 1 0 k no_surface) out (omega arith) ∙ ap (λ (x : List ℕ). laid_at made x out) (sym said);
      next = held_whole (pool_memory ws' m) (g.next m) ∙ sym (next_return c is p);
    }
