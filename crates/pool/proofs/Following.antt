-- A run of the code's calls is heard as the definitions say, and its memory is the pool that they leave: each contract
-- gives the definitions' answer and bytes, and the next pool with at most one return pending on a surface, which is
-- that pool itself, as it is one that calls reached. So what is promised of the definitions holds of the code. It rests
-- on `reached`.
use Prim.Native.Nat.{ℕ, ◌≤◌, min}
use native.Mathlib.Omega.{arith}
use mathlib.Core.Path.{◌≡◌, refl, sym, ap, ap₂, ◌∙◌, subst}
use mathlib.Core.List.{List, [], ◌∷◌, ◌++◌}
use mathlib.Core.Bool.{true}
use lib.ListN.{length, take, drop}
use lib.Seq.{take-append_seam}
use Rattle.wire.specs.Bytes.{over}
use Rattle.paper.specs.Words.{all_b}
use Rattle.paper.proofs.Bools.{both, left, right}
use Rattle.session.specs.View.{Memory}
use Rattle.session.proofs.Entries.{all_both}
use Rattle.pool.specs.declared.Given as goal
use Rattle.pool.specs.Pool.{Pool, can_make, made, no_surface, number_at}
use Rattle.pool.specs.Calls.{pool_step}
use Rattle.pool.specs.History.{Call, Lends, Returns, Heard, BytesIn, answer_to, after, heard_from, after_all}
use Rattle.pool.specs.Statement.{Promises, Item10}
use Rattle.pool.specs.Memory.{PoolMemory, pool_in, pool_memory, at_most_one}
use Rattle.pool.specs.Sequence.{Called, Stepped, Gave, Did, One, Run, call_of, heard_of, calls_of, heard_in, Follows}
use Rattle.pool.proofs.Reached.{AlwaysReached}
use Rattle.pool.proofs.StepLaws.{number_surface}
use Rattle.pool.proofs.Parts.{heard_one, after_append}

-- a pool on whose surfaces at most one return is pending is what a memory can hold
pub few_pending : (p : Pool) → ((x : ℕ) → p.pending x ≤ 1) → at_most_one p ≡ p
few_pending p few =
    let one : (x : ℕ) → min (p.pending x) 1 ≡ p.pending x = λ x. omega (arith, few x) in
    λ i. record { session = p.session; surfaces = p.surfaces; held = p.held; pending = λ x. one x i; reading = p.reading }

-- ---- one call of the code

pub record Told (p : Pool) (x : Called) (m : PoolMemory) : Type 0 where
  pub heard : heard_of x ≡ heard_one p (call_of x)
  pub next : (q : (y : ℕ) → (after p (call_of x)).pending y ≤ 1) → pool_in m ≡ after p (call_of x)

told_one : (m : PoolMemory) (x : Called) (m' : PoolMemory) → Did m x m' → Told (pool_in m) x m'
unfolding answer_to after over
told_one m (Stepped r before a left_After) m' d =
    let g = pool_step (pool_in m) r (length before) in
    let many = ap (λ (b : goal.Given). take b.len left_After) d.answer in
    let bytes : take a.len left_After ≡ g.bytes = many ∙ ap (take (length g.bytes)) d.bytes ∙ take-append_seam g.bytes (drop (length g.bytes) before) in
    let told : number_at a.surface ≡ g.surface = ap (λ (b : goal.Given). number_at b.surface) d.answer ∙ number_surface g.surface in
    record {
      heard = λ i. record { call = Lends r (length before); answer = record { number = (d.answer i).number; bytes = bytes i; surface = told i } };
      next = λ q. d.next ∙ few_pending g.next q;
    }
told_one m (Gave x number) m' d =
    record {
      heard = ap (λ (k : ℕ). record { call = Returns x; answer = record { number = k; bytes = []; surface = no_surface } }) (d.0.number m.memory);
      next = λ q. ap (λ (v : Memory). pool_in (pool_memory m'.words v)) d.1 ∙ d.0.next m.memory;
    }

-- ---- a run

module _ (reached : AlwaysReached) (n : ℕ) (can : can_make n ≡ true) where
  -- from a memory that is the pool which the calls bs reached
  from_reached : (bs : List Call) → all_b BytesIn bs ≡ true → (m : PoolMemory) → pool_in m ≡ after_all (made n) bs → (xs : List One) (m' : PoolMemory) → Run m xs m' → all_b BytesIn (calls_of xs) ≡ true
      → (heard_in xs ≡ heard_from (after_all (made n) bs) (calls_of xs)) × (pool_in m' ≡ after_all (after_all (made n) bs) (calls_of xs))
  unfolding heard_from after_all all_b
  from_reached bs old m start [] m' run new = (refl, ap pool_in (sym run) ∙ start)
  from_reached bs old m start (x ∷ xs) m' run new =
      let c = call_of x.called in
      let p = after_all (made n) bs in
      let one : Told p x.called x.left = subst (λ (q : Pool). Told q x.called x.left) start (told_one m x.called x.left run.0) in
      let ends : after_all (made n) (bs ++ (c ∷ [])) ≡ after p c = after_append (made n) bs (c ∷ []) in
      let seen : all_b BytesIn (bs ++ (c ∷ [])) ≡ true = all_both BytesIn bs (c ∷ []) ∙ both old (both (left (BytesIn c) _ new) refl) in
      let few = subst (λ (q : Pool). (y : ℕ) → q.pending y ≤ 1) ends (reached n can (bs ++ (c ∷ [])) seen).pends.one in
      let rest = from_reached (bs ++ (c ∷ [])) seen x.left (one.next few ∙ sym ends) xs m' run.1 (right (BytesIn c) _ new) in
      (ap₂ (λ (h : Heard) (hs : List Heard). h ∷ hs) one.heard (rest.0 ∙ ap (λ (q : Pool). heard_from q (calls_of xs)) ends), rest.1 ∙ ap (λ (q : Pool). after_all q (calls_of xs)) ends)

  module _ (m : PoolMemory) (start : pool_in m ≡ made n) (xs : List One) (m' : PoolMemory) (run : Run m xs m') (bytes : all_b BytesIn (calls_of xs) ≡ true) where
    pub follows : Follows n xs m'
    unfolding after_all all_b
    follows = let f = from_reached [] refl m start xs m' run bytes in record { heard = f.0; pool = f.1 }

    -- ALL THAT IS PROMISED OF A POOL HOLDS OF THE CODE'S OWN BYTES and of the pool that its memory is
    pub code_promises : Item10 → Promises n (pool_in m') (heard_in xs)
    code_promises promises =
        let f = follows in
        subst (λ (p : Pool). Promises n p (heard_in xs)) (sym f.pool)
        (subst (λ (hs : List Heard). Promises n (after_all (made n) (calls_of xs)) hs) (sym f.heard) (promises n can (calls_of xs) bytes))
