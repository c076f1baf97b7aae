-- One call of the pool is one call of its session with the chosen surface in a begin's place, and what the pool makes
-- of the reply: the contract of `step` follows from those of the functions that it calls, one law for each of its three
-- ways out. Assumes nothing.
use Prim.Native.Nat.{ℕ, ◌≤◌}
use mathlib.Core.Path.{◌≡◌, refl, sym, ap, subst, ◌∙◌}
use mathlib.Core.List.{List, []}
use mathlib.Core.Bool.{Bool, true, false, cond, ◌&&◌}
use native.Mathlib.Omega.{arith}
use lib.Dec.{ltb, eqb}
use lib.ListN.{length, take, drop, length-append, length-take}
use lib.Seq.{take-append_seam}
use borrow.Author.Tests.{ltb-true, ltb-false, eq-eqb, ne_eqb, eqb-true}
use Rattle.wire.specs.Bytes.{over}
use Rattle.paper.specs.Numbers.{reply_limit}
use Rattle.paper.specs.Kinds.{begin_kind, reply_to}
use Rattle.paper.specs.Records.{kind_of, well_formed}
use Rattle.paper.specs.State.{Session, all_refs}
use Rattle.paper.specs.Replies.{Reply, bytes_of}
use Rattle.paper.specs.Reading.{opening}
use Rattle.paper.specs.Ledger.{read_reply}
use Rattle.paper.specs.Accounts.{tail_in}
use Rattle.paper.specs.Step.{Result, decide_of, step_of}
use Rattle.paper.proofs.Bools.{split, not_both, right}
use Rattle.store.specs.StoreWords.{word}
use Rattle.session.specs.declared.Answer.{Answer}
use Rattle.session.specs.View.{Memory, session_in}
use Rattle.session.specs.Laid.{NormalMemory}
use Rattle.session.specs.Said.{Declines}
use Rattle.session.specs.Said as S
use Rattle.session.specs.Target.{is_begin, with_surface, taken_as}
use Rattle.std.specs.Prelude.{Option, None, Some, is_none, Ok, Err}
use Rattle.paper.specs.declared.Surface.{Surface}
use Rattle.pool.specs.declared.Given as goal
use Rattle.pool.specs.Pool.{Pool, no_surface, surface_at, number_at, lowest_free}
use Rattle.pool.specs.Calls.{Given, told, declined, passed, accounted, begin_on, pool_step}
use Rattle.pool.specs.Memory.{PoolMemory, pool_memory, pool_in, at_most_one, SURFACES}
use Rattle.pool.specs.Marks.{Told}
use Rattle.pool.specs.declared.Refusal.TheVariants.{NoneFree}
use Rattle.pool.specs.Said.{TakenWith, Permitted}
use Rattle.pool.proofs.MarkLaws.{pool_told, pool_left}

-- ---- a reply lies in its buffer

module _ {m : Memory} {r before : List ℕ} {a : Answer} {m' : Memory} {after : List ℕ} (h : S.Permitted m r before a m' after) where
  pub reply_fits : a.len ≤ length after
  unfolding over
  reply_fits =
      let bs = (step_of (session_in m) r (length before)).bytes in
      let e = ap length h.bytes ∙ length-append bs (drop (length bs) before) in
      let q = ap (λ (v : Answer). v.len) h.answer in
      omega arith

  pub reply_taken : a.len ≡ length (take a.len after)
  reply_taken = let f = reply_fits in simp length-take (omega arith)

-- ---- which call it is

same_record : (x : ℕ) (r : List ℕ) → is_begin r ≡ false → with_surface x r ≡ r
unfolding with_surface
same_record x r e = rw e

-- what is accepted is well-formed
accepted_formed : (s : Session) (r : List ℕ) (room : ℕ) → (step_of s r room).number ≡ 0 → well_formed r ≡ true
unfolding step_of decide_of
accepted_formed s r room e =
    split (ltb room reply_limit)
    (λ t. let z : ◌≡◌ {A = ℕ} 14 0 = rw t at e in absurd (omega arith))
    (λ t. split (well_formed r) (λ f. f) (λ f. let z : ◌≡◌ {A = ℕ} 13 0 = rw (t, f) at e in absurd (omega arith)))

no_room : (s : Session) (r : List ℕ) (room : ℕ) → ltb room reply_limit ≡ true → step_of s r room ≡ record { number = 14; bytes = []; next = s }
unfolding step_of
no_room s r room e = rw e

module _ (p : Pool) (r : List ℕ) (room : ℕ) where
  -- none is free for a begin
  pub none_free : is_begin r ≡ true → lowest_free p ≡ no_surface → pool_step p r room ≡ cond (ltb room reply_limit) (declined p 14 []) (declined p 18 (bytes_of (Reply.Refused (reply_to begin_kind) 18)))
  unfolding pool_step begin_on
  none_free b e = rw (b, e)

  -- a begin on a surface that is one
  on_it : (x : ℕ) → eqb x no_surface ≡ false → begin_on p x r room ≡ passed p x (step_of p.session (with_surface x r) room)
  unfolding begin_on
  on_it x e =
      split (ltb room reply_limit)
      (λ t. rw (t, no_room p.session (with_surface x r) room t))
      (λ t. rw (t, e))

  -- else the session answers
  pub passes : (x : ℕ) → (is_begin r ≡ true → x ≡ lowest_free p) → (is_begin r ≡ true → eqb x no_surface ≡ false) → pool_step p r room ≡ passed p (cond (is_begin r) x no_surface) (step_of p.session (with_surface x r) room)
  unfolding pool_step
  passes x e n =
      split (is_begin r)
      (λ b. rw (b, ← (e b)) (on_it x (n b)))
      (λ b. rw (same_record x r b, b))

-- ---- a surface and its number

none_at : (x : ℕ) → is_none (surface_at x) ≡ eqb x no_surface
none_at x = split (eqb x 64) (λ e. rw e) (λ e. rw e)

pub number_surface : (x : ℕ) → number_at (surface_at x) ≡ x
number_surface x = split (eqb x 64) (λ e. let q = eqb-true x 64 e in rw e (sym q)) (λ e. rw e)

-- the surface o that a record is taken with, by its number
module _ (p : Pool) (r : List ℕ) (o : Option Surface) (k : TakenWith p r (Ok o)) where
  its_number : number_at o ≡ cond (eqb (kind_of r) begin_kind) (lowest_free p) no_surface
  its_number = ap number_at k.0 ∙ split (eqb (kind_of r) begin_kind) (λ e. rw e (number_surface (lowest_free p))) (λ e. rw e)

  pub its_surface : surface_at (number_at o) ≡ o
  its_surface = rw k.0 (split (eqb (kind_of r) begin_kind) (λ e. rw (e, number_surface (lowest_free p))) (λ e. rw e))

  pub its_target : taken_as o r ≡ with_surface (number_at o) r
  its_target = go o k.1
    where
      go : (q : Option Surface) → (is_none q && is_begin r) ≡ false → taken_as q r ≡ with_surface (number_at q) r
      go None n = sym (same_record no_surface r n)
      go (Some x) n = refl

  -- of a begin, and of a record of another kind
  module _ (b : is_begin r ≡ true) where
    pub lowest_is : number_at o ≡ lowest_free p
    lowest_is = rw (right (well_formed r) (eqb (kind_of r) begin_kind) b) at its_number

    pub is_one : eqb (number_at o) no_surface ≡ false
    is_one = ap (λ (x : ℕ). eqb x no_surface) lowest_is ∙ (sym (none_at (lowest_free p)) ∙ (ap is_none (sym taken) ∙ some o k.1))
      where
        taken : o ≡ surface_at (lowest_free p)
        taken = rw (right (well_formed r) (eqb (kind_of r) begin_kind) b) at k.0

        some : (q : Option Surface) → (is_none q && is_begin r) ≡ false → is_none q ≡ false
        some None n = not_both (is_begin r) b n
        some (Some x) n = refl

  pub other_is : eqb (kind_of r) begin_kind ≡ false → number_at o ≡ no_surface
  other_is e = rw e at its_number

-- ---- the contract, by what the definitions say of the call

module _ (m : PoolMemory) (r before : List ℕ) where
  abbrev outcome : Given
  outcome = pool_step (pool_in m) r (length before)

  abbrev saying : Given → goal.Given
  saying g = record { number = g.number; len = length g.bytes; surface = surface_at g.surface }

  permits : (g : Given) → outcome ≡ g → (a : goal.Given) (m' : PoolMemory) (after : List ℕ) → a ≡ saying g → after ≡ over g.bytes before → pool_in m' ≡ at_most_one g.next
      → ((a.number ≡ 0 → ⊥) → m' ≡ m) → word m'.words SURFACES ≡ word m.words SURFACES → (NormalMemory m.memory → NormalMemory m'.memory)
      → ((i : ℕ) → length (all_refs g.next.session.refs) ≤ i → word m'.memory.sets i ≡ word m.memory.sets i) → Permitted m r before a m' after
  permits g e a m' after p q n l s f z =
      record {
        answer = p ∙ ap saying (sym e);
        bytes = q ∙ ap (λ (v : Given). over v.bytes before) (sym e);
        next = n ∙ ap (λ (v : Given). at_most_one v.next) (sym e);
        left = l;
        surfaces = s;
        normal = f;
        sets = λ i h. z i (subst (λ (v : Given). length (all_refs v.next.session.refs) ≤ i) e h);
      }

  -- a refusal, which leaves every word
  permits_left : (k : ℕ) (bs : List ℕ) → outcome ≡ declined (pool_in m) k bs → (a : goal.Given) (m' : PoolMemory) (after : List ℕ) → a ≡ record { number = k; len = length bs; surface = None }
      → after ≡ over bs before → m' ≡ m → Permitted m r before a m' after
  permits_left k bs e a m' after p q l =
      permits (declined (pool_in m) k bs) e a m' after p q (ap pool_in l ∙ pool_left m) (λ _. l)
      (ap (λ (v : PoolMemory). word v.words SURFACES) l)
      (λ n. subst (λ (v : PoolMemory). NormalMemory v.memory) (sym l) n)
      (λ i _. ap (λ (v : PoolMemory). word v.memory.sets i) l)

  -- ---- the three ways out

  -- with a surface beside it
  abbrev answered : Option Surface → Answer → goal.Given
  answered x a = record { number = a.number; len = a.len; surface = x }

  nothing_over : over [] before ≡ before
  unfolding over
  nothing_over = refl

  pub refuses_begin : (a : Answer) (after : List ℕ) → TakenWith (pool_in m) r (Err NoneFree) → Declines (reply_to begin_kind) 18 before a after
      → Permitted m r before (answered None a) m after
  unfolding bytes_of
  refuses_begin a after k d =
      let b = k.1.1 in
      let e = eqb-true (lowest_free (pool_in m)) no_surface (sym (none_at (lowest_free (pool_in m))) ∙ ap is_none k.1.0) in
      split (ltb (length before) reply_limit)
      (λ t.
      let s = d.small (ltb-true (length before) reply_limit t) in
      permits_left 14 [] (none_free (pool_in m) r (length before) b e ∙ ap (λ (c : Bool). cond c (declined (pool_in m) 14 []) (declined (pool_in m) 18 (bytes_of (Reply.Refused (reply_to begin_kind) 18)))) t)
      (answered None a) m after (ap (answered None) s.0) (s.1 ∙ sym nothing_over) refl)
      (λ t.
      let s = d.refuses (ltb-false (length before) reply_limit t) in
      permits_left 18 (bytes_of (Reply.Refused (reply_to begin_kind) 18)) (none_free (pool_in m) r (length before) b e ∙ ap (λ (c : Bool). cond c (declined (pool_in m) 14 []) (declined (pool_in m) 18 (bytes_of (Reply.Refused (reply_to begin_kind) 18)))) t)
      (answered None a) m after (ap (answered None) s.answer) s.bytes refl)

  -- x is what a record of its kind is taken with, by its number
  module _ (o : Option Surface) (k : TakenWith (pool_in m) r (Ok o)) (a : Answer) (m' : Memory) (after : List ℕ)
      (took : S.Permitted m.memory (taken_as o r) before a m' after) where
    abbrev x : ℕ
    x = number_at o

    h : S.Permitted m.memory (with_surface x r) before a m' after
    h = subst (λ (y : List ℕ). S.Permitted m.memory y before a m' after) (its_target (pool_in m) r o k) took

    abbrev decided : Result
    decided = step_of (session_in m.memory) (with_surface x r) (length before)

    number_is : a.number ≡ decided.number
    number_is = ap (λ (v : Answer). v.number) h.answer

    passes_it : outcome ≡ passed (pool_in m) (cond (is_begin r) x no_surface) decided
    passes_it = passes (pool_in m) r (length before) x (lowest_is (pool_in m) r o k) (is_one (pool_in m) r o k)

    pub refuses : (a.number ≡ 0 → ⊥) → Permitted m r before (answered None a) (pool_memory m.words m') after
    refuses n =
        let z : eqb decided.number 0 ≡ false = ne_eqb decided.number 0 (λ q. n (number_is ∙ q)) in
        let y = cond (is_begin r) x no_surface in
        permits_left decided.number decided.bytes
        (passes_it ∙ ap (λ (c : Bool). cond c (record { number = 0; bytes = decided.bytes; surface = y; next = accounted (pool_in m) decided.next y decided.bytes }) (declined (pool_in m) decided.number decided.bytes)) z)
        (answered None a) (pool_memory m.words m') after (ap (answered None) h.answer) h.bytes (ap (pool_memory m.words) (h.left n))

    -- the reply is as much of the buffer as the answer says
    pub reply_is : take a.len after ≡ decided.bytes
    unfolding over
    reply_is = rw (h.bytes, ap (λ (v : Answer). v.len) h.answer) (take-append_seam decided.bytes _)

    -- what is accepted and no begin has another kind, and so no surface
    given_is : a.number ≡ 0 → x ≡ cond (is_begin r) x no_surface
    given_is e =
        split (is_begin r)
        (λ b. rw b)
        (λ b.
        let q : (step_of (session_in m.memory) r (length before)).number ≡ 0 = ap (λ (y : List ℕ). (step_of (session_in m.memory) y (length before)).number) (sym (same_record x r b)) ∙ sym number_is ∙ e in
        let other : eqb (kind_of r) begin_kind ≡ false = ap (λ (f : Bool). f && eqb (kind_of r) begin_kind) (sym (accepted_formed (session_in m.memory) r (length before) q)) ∙ b in
        rw b (other_is (pool_in m) r o k other))

    pub accepts : (ws : List ℕ) → a.number ≡ 0 → Told m.words x (tail_in (read_reply opening (take a.len after))) ws
        → Permitted m r before (record { number = 0; len = a.len; surface = o }) (pool_memory ws m') after
    unfolding told
    accepts ws n t =
        let z : eqb decided.number 0 ≡ true = eq-eqb decided.number 0 (sym number_is ∙ n) in
        let f : Told m.words x (tail_in (read_reply opening decided.bytes)) ws = subst (λ (bs : List ℕ). Told m.words x (tail_in (read_reply opening bs)) ws) reply_is t in
        let g : Given = record { number = 0; bytes = decided.bytes; surface = x; next = accounted (pool_in m) decided.next x decided.bytes } in
        let e : outcome ≡ passed (pool_in m) x decided = passes_it ∙ ap (λ (y : ℕ). passed (pool_in m) y decided) (sym (given_is n)) in
        permits g (e ∙ ap (λ (c : Bool). cond c g (declined (pool_in m) decided.number decided.bytes)) z)
        (record { number = 0; len = a.len; surface = o }) (pool_memory ws m') after
        (rw (its_surface (pool_in m) r o k) (ap (λ (v : Answer). record { number = 0; len = v.len; surface = o }) h.answer)) h.bytes
        (pool_told m.words ws m.memory m' decided.next x (tail_in (read_reply opening decided.bytes)) decided.bytes f h.next)
        (λ q. absurd (q refl)) f.surfaces h.normal h.sets
