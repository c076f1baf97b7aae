-- Read this first. What is proved of the code: any two results that the contract of `step` permits are equal in the
-- answer, in the buffer and in the session that the memory is, and, from memory in normal form, in every word; a run of
-- calls views as the paper's run; so demand 3, POC in one line, what a refusal leaves and writes, and the invariants of
-- all sessions hold of the code.
use Prim.Native.Nat.{ℕ, ◌≤◌, ◌<◌}
use mathlib.Core.Path.{◌≡◌, refl, sym, ap, ap₂, ◌∙◌, subst}
use mathlib.Core.List.{List, [], ◌∷◌, ◌++◌}
use native.Mathlib.Omega.{arith}
use lib.ListN.{length, take, drop}
use lib.Seq.{take-append_seam}
use lib.Dec.{ltb}
use borrow.Author.Tests.{ltb-true, ltb-false}
use Rattle.wire.specs.Bytes.{over}
use Rattle.paper.specs.Words.{all_b}
use Rattle.paper.specs.Numbers.{bytes16, reply_limit}
use Rattle.paper.specs.State.{fresh, normal, all_refs}
use Rattle.paper.specs.State as P
use Rattle.paper.specs.Step.{Result, step_of, session_after, after_calls, answered_of}
use Rattle.paper.specs.declared.Reading.{Reading}
use Rattle.paper.specs.Reading.{opening, further}
use Rattle.paper.specs.Ledger.{Exchange, blank, told}
use Rattle.paper.specs.Statement.{Bytes, Kept, exchanges, ledger_of}
use Rattle.paper.specs.OneLine.{Item12}
use Rattle.paper.proofs.Bools.{split, both, left, right}
use Rattle.paper.proofs.Rooms.{large_room, nothing_written, any_room}
use Rattle.paper.proofs.Refusals.{refusal_kind, refused_writes}
use Rattle.paper.proofs.Normal.{Bounded, bounded_after, reached_normal}
use Rattle.paper.proofs.Calm.{Quiet, calm_between}
use Rattle.paper.proofs.InStep.{InStep, in_step_after}
use Rattle.paper.proofs.Demand.{demand}
use Rattle.paper.proofs.OneLine.{item_12}
use Rattle.store.specs.StoreWords.{word}
use Rattle.session.specs.declared.Answer.{Answer}
use Rattle.session.specs.View.{Memory, session_in}
use Rattle.session.specs.Laid.{NormalMemory}
use Rattle.session.specs.Said.{Permitted}
use Rattle.session.specs.Sequence.{Called, Run, calls_of, said_in, heard_in, Demanded}
use Rattle.session.proofs.Memories.{size_of, members_few, fronts_same, members_same, stores_same}

-- ---- any two permitted results are equal: answer, buffer and the session that is left

pub determined : {m : Memory} {r before : List ℕ} {a b : Answer} {m1 m2 : Memory} {x y : List ℕ} → Permitted m r before a m1 x → Permitted m r before b m2 y → (a ≡ b) × (x ≡ y) × (session_in m1 ≡ session_in m2)
determined p q = (p.answer ∙ sym q.answer, p.bytes ∙ sym q.bytes, p.next ∙ sym q.next)

-- two memories in their normal form that are the session s, in which the run of the sets is xs behind its members, are
-- equal in every word
pub same_words : {m1 m2 : Memory} (s : P.Session) (xs : List ℕ) → session_in m1 ≡ s → session_in m2 ≡ s → NormalMemory m1 → NormalMemory m2
    → ((i : ℕ) → length (all_refs s.refs) ≤ i → word m1.sets i ≡ word xs i) → ((i : ℕ) → length (all_refs s.refs) ≤ i → word m2.sets i ≡ word xs i)
    → (m1.front ≡ m2.front) × ((i : ℕ) → word m1.sets i ≡ word m2.sets i) × ((j : ℕ) → j < 97 → word m1.store j ≡ word m2.store j)
same_words {m1} {m2} s xs e1 e2 n1 n2 f g =
    let e = e1 ∙ sym e2 in
    let few : length (all_refs s.refs) ≤ size_of m1 = subst (λ (v : P.Session). length (all_refs v.refs) ≤ size_of m1) e1 (members_few m1) in
    (fronts_same n1 n2 e, (λ i. split (ltb i (size_of m1)) (λ t. members_same n1 n2 e i (ltb-true i (size_of m1) t)) (λ t. let le : size_of m1 ≤ i = ltb-false i (size_of m1) t in f i (omega arith) ∙ sym (g i (omega arith)))), stores_same n1 n2 e)

-- and, from memory in its normal form, in every word
pub determined_words : {m : Memory} {r before : List ℕ} {a b : Answer} {m1 m2 : Memory} {x y : List ℕ} → Permitted m r before a m1 x → Permitted m r before b m2 y → NormalMemory m
    → (m1.front ≡ m2.front) × ((i : ℕ) → word m1.sets i ≡ word m2.sets i) × ((j : ℕ) → j < 97 → word m1.store j ≡ word m2.store j)
determined_words {m} {r} {before} p q n = same_words (step_of (session_in m) r (length before)).next m.sets p.next q.next (p.normal n) (q.normal n) p.sets q.sets

-- ---- one call, on memory m

module _ {m : Memory} {r before : List ℕ} {a : Answer} {m' : Memory} {after : List ℕ} (p : Permitted m r before a m' after) where
  abbrev result : Result
  result = step_of (session_in m) r (length before)

  answered : result.number ≡ a.number
  answered = sym (ap (λ (b : Answer). b.number) p.answer)

  -- the session that is left is the paper's
  pub next_views : session_in m' ≡ (step_of (session_in m) r (length before)).next
  next_views = p.next

  -- a refusal leaves every word, and writes six bytes
  pub refusal_leaves : (a.number ≡ 0 → ⊥) → m' ≡ m
  refusal_leaves h = p.left h

  pub refusal_writes : 512 ≤ length before → (a.number ≡ 0 → ⊥) → after ≡ over (bytes16 2 ++ bytes16 (refusal_kind a.number r) ++ bytes16 a.number) before
  refusal_writes l h =
      p.bytes
      ∙ ap (λ (b : List ℕ). over b before) (refused_writes (session_in m) r (length before) l (λ e. h (sym answered ∙ e)) ∙ ap (λ (n : ℕ). bytes16 2 ++ bytes16 (refusal_kind n r) ++ bytes16 n) answered)

  -- a buffer under 512 bytes is left as it was
  pub small_buffer : length before < 512 → (a ≡ record { number = 14; len = 0 }) × (after ≡ before) × (m' ≡ m)
  unfolding over
  small_buffer h =
      let x = nothing_written (session_in m) r (length before) h in
      let e : a ≡ record { number = 14; len = 0 } = p.answer ∙ ap (λ (y : Result). record { number = y.number; len = length y.bytes }) x in
      (e, p.bytes ∙ ap (λ (y : Result). over y.bytes before) x, p.left (λ z. fourteen (sym (ap (λ (b : Answer). b.number) e) ∙ z)))
    where
      fourteen : ◌≡◌ {A = ℕ} 14 0 → ⊥
      fourteen z = omega arith

  -- what is heard is what the paper's session says
  written_is : take a.len after ≡ result.bytes
  unfolding over
  written_is =
      ap (λ (n : ℕ). take n after) (ap (λ (y : Answer). y.len) p.answer) ∙ ap (take (length result.bytes)) p.bytes ∙ take-append_seam result.bytes (drop (length result.bytes) before)

-- ---- a run of calls

pub run_views : (m : Memory) (xs : List Called) (m' : Memory) → Run m xs m' → session_in m' ≡ after_calls (session_in m) (calls_of xs)
unfolding after_calls
run_views m [] m' e = ap session_in (sym e)
run_views m (x ∷ xs) m' h = run_views x.left xs m' h.1 ∙ ap (λ (v : P.Session). after_calls v (calls_of xs)) (next_views h.0)

heard_is : (st : Reading) (m : Memory) (xs : List Called) (m' : Memory) → Run m xs m' → heard_in st xs ≡ exchanges st (session_in m) (answered_of (calls_of xs))
unfolding answered_of exchanges
heard_is st m [] m' e = refl
heard_is st m (x ∷ xs) m' h =
    let v = session_in m in
    let a = take x.answer.len x.after in
    let n = next_views h.0 in
    split (ltb (length x.before) reply_limit)
    (λ e.
    let w : session_in x.left ≡ v = n ∙ ap (λ (y : Result). y.next) (nothing_written v x.said (length x.before) (ltb-true (length x.before) 512 e)) in
    rw e (heard_is st x.left xs m' h.1 ∙ ap (λ (y : P.Session). exchanges st y (answered_of (calls_of xs))) w))
    (λ e.
    let g = large_room v x.said (length x.before) e in
    let w = written_is h.0 ∙ ap (λ (y : Result). y.bytes) g in
    let rest = heard_is (further st a) x.left xs m' h.1 in
    rw e
    (λ i.
    record { said = x.said; answered = w i; reading = st }
    ∷ (rest ∙ ap₂ (λ (b : List ℕ) (y : P.Session). exchanges (further st b) y (answered_of (calls_of xs))) w (n ∙ ap (λ (y : Result). y.next) g)) i))

-- a run keeps the normal form
pub run_normal : (m : Memory) (xs : List Called) (m' : Memory) → Run m xs m' → NormalMemory m → NormalMemory m'
run_normal m [] m' e n = subst NormalMemory e n
run_normal m (x ∷ xs) m' h n = run_normal x.left xs m' h.1 (h.0.normal n)

-- ---- records are bytes

-- where all records of the calls are bytes, those that were answered are
answered_bytes : (xs : List Called) → Bytes (said_in xs) → Bytes (answered_of (calls_of xs))
unfolding answered_of all_b
answered_bytes [] b = refl
answered_bytes (x ∷ xs) b =
    let f = all_b (λ (n : ℕ). ltb n 256) in
    let rest = answered_bytes xs (right (f x.said) (all_b f (said_in xs)) b) in
    split (ltb (length x.before) reply_limit) (λ e. rw e rest) (λ e. rw e (both (left (f x.said) (all_b f (said_in xs)) b) rest))

-- ---- from memory that `fresh` made: the run of the code

module _ (m : Memory) (start : session_in m ≡ fresh) (xs : List Called) (m' : Memory) (run : Run m xs m') where
  abbrev rs : List (List ℕ)
  rs = answered_of (calls_of xs)

  comes_to : session_in m' ≡ after_calls fresh (calls_of xs)
  comes_to = run_views m xs m' run ∙ ap (λ (v : P.Session). after_calls v (calls_of xs)) start

  reached : session_in m' ≡ session_after fresh rs
  reached = comes_to ∙ any_room fresh (calls_of xs)

  -- what is heard of the code is the paper's exchange
  pub code_heard : heard_in opening xs ≡ exchanges opening fresh rs
  code_heard = heard_is opening m xs m' run ∙ ap (λ (v : P.Session). exchanges opening v rs) start

  -- DEMAND 3 OF THE CODE'S OWN BYTES: what is heard keeps it, and the ledger told from it is that of the session that
  -- the memory then is
  pub code_demand : Bytes (said_in xs) → Demanded xs m'
  code_demand b =
      let d = demand (calls_of xs) (answered_bytes xs b) in
      record { kept = subst Kept (sym code_heard) d.kept; true_to = ap (told blank) code_heard ∙ d.true_to ∙ ap ledger_of (sym comes_to) }

  -- DOCUMENT 02, ITEM 12 OF THE CODE'S OWN BYTES: the POC in what is heard of an accepted begin is the one that the rule
  -- gives, and what is noted of the exchanges is of the session that the memory then is
  pub code_one_line : Item12 (heard_in opening xs) (session_in m')
  code_one_line = subst (λ (ys : List Exchange). Item12 ys (session_in m')) (sym code_heard) (subst (Item12 (exchanges opening fresh rs)) (sym comes_to) (item_12 (calls_of xs)))

  -- stored ≤ capacity ≤ 16, k ≤ 16, counts; its own normal form; waiting ≤ reorder; the previous MSB a multiple of M
  pub code_bounded : Bounded (session_in m')
  code_bounded = subst Bounded (sym reached) (bounded_after rs)

  pub code_normal : normal (session_in m') ≡ session_in m'
  code_normal = subst (λ (v : P.Session). normal v ≡ v) (sym reached) (reached_normal rs)

  pub code_calm : Quiet (session_in m')
  code_calm = subst Quiet (sym reached) (calm_between rs)

  pub code_in_step : InStep (session_in m')
  code_in_step = subst InStep (sym reached) (in_step_after rs)
