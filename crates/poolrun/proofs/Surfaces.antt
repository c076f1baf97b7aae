-- A pool answers a surface of at most 64: the lowest free one is one of 64 numbers or the number behind them, and else
-- the answer is 64.
use Prim.Native.Nat.{ℕ, ◌≤◌}
use mathlib.Core.Path.{◌≡◌, sym, subst, ◌∙◌}
use mathlib.Core.List.{List, []}
use mathlib.Core.Bool.{cond}
use native.Mathlib.Omega.{arith}
use lib.Dec.{ltb, eqb}
use Rattle.paper.specs.Numbers.{bit, reply_limit}
use Rattle.paper.specs.Kinds.{begin_kind, reply_to}
use Rattle.paper.specs.Replies.{Reply, bytes_of}
use Rattle.paper.specs.Step.{Result, step_of}
use Rattle.paper.proofs.Bools.{by_case}
use Rattle.store.specs.StoreWords.{word}
use Rattle.session.specs.Target.{is_begin, with_surface}
use Rattle.pool.specs.Pool.{Pool, no_surface, lowest_free}
use Rattle.pool.specs.Calls.{Given, declined, passed, accounted, begin_on, pool_step}
use Rattle.pool.specs.Memory.{PoolMemory, PENDING, pool_in, at_most_one}
use Rattle.pool.proofs.Lowest.{lowest_small}
use Rattle.pool.proofs.Following.{few_pending}

abbrev Small : Given → Type 0
Small g = g.surface ≤ 64

passed_small : (p : Pool) (x : ℕ) (d : Result) → x ≤ 64 → Small (passed p x d)
passed_small p x d h =
    by_case Small (eqb d.number 0) (record { number = 0; bytes = d.bytes; surface = x; next = accounted p d.next x d.bytes })
    (declined p d.number d.bytes) (λ _. h) (λ _. omega arith)

pub surface_small : (p : Pool) (r : List ℕ) (room : ℕ) → (pool_step p r room).surface ≤ 64
unfolding pool_step begin_on
surface_small p r room =
    let x = lowest_free p in
    let on = passed p x (step_of p.session (with_surface x r) room) in
    let full = declined p 18 (bytes_of (Reply.Refused (reply_to begin_kind) 18)) in
    let at-begin : Small (begin_on p x r room) =
    by_case Small (ltb room reply_limit) (declined p 14 []) (cond (eqb x no_surface) full on) (λ _. omega arith)
    (λ _. by_case Small (eqb x no_surface) full on (λ _. omega arith) (λ _. passed_small p x (step_of p.session (with_surface x r) room) (lowest_small p))) in
    by_case Small (is_begin r) (begin_on p x r room) (passed p no_surface (step_of p.session r room)) (λ _. at-begin) (λ _. passed_small p no_surface (step_of p.session r room) (omega arith))

-- ---- what a memory holds has at most one return pending on a surface

pub held_whole : {q : Pool} (m : PoolMemory) → pool_in m ≡ q → pool_in m ≡ at_most_one q
held_whole {q} m e =
    let one : (x : ℕ) → (pool_in m).pending x ≤ 1 = λ x. by_case (λ (n : ℕ). n ≤ 1) (bit x (word m.words PENDING)) 1 0 (λ _. omega arith) (λ _. omega arith) in
    e ∙ sym (few_pending q (λ x. subst (λ (v : Pool). v.pending x ≤ 1) e (one x)))
