-- The surfaces that answers give to begins are those on which the reader of the replies hears a begin accepted: a call
-- answers a surface below 64 beside number 0 exactly if it took a begin with that surface in its field and the session
-- accepted it, and then the reply reads as that of an accepted begin.
use Prim.Native.Nat.{ℕ, ◌≤◌, ◌<◌}
use native.Mathlib.Omega.{arith}
use mathlib.Core.Path.{◌≡◌, refl, sym, ap, ap₂, ◌∙◌, subst}
use mathlib.Core.List.{List, [], ◌∷◌, ◌++◌, append-nil, append_assoc, map-append}
use mathlib.Core.Bool.{Bool, true, false, cond, ◌&&◌}
use lib.Dec.{eqb, ltb}
use borrow.Author.Tests.{eqb-true, eqb-false, eq-eqb, ne_eqb, ltb-true, lt-ltb, le-ltb}
use Rattle.paper.specs.declared.Line.{Line}
use Rattle.paper.specs.declared.Reading.{Reading}
use Rattle.paper.specs.Reading.{opening}
use Rattle.paper.specs.Numbers.{u32, reply_limit}
use Rattle.paper.specs.Kinds.{begin_kind, surface_place, reply_to, malformed_reply}
use Rattle.paper.specs.Records.{kind_of}
use Rattle.paper.specs.State.{Session}
use Rattle.paper.specs.Output.{Tail}
use Rattle.paper.specs.Replies.{Begun, Reply, bytes_of}
use Rattle.paper.specs.Step.{Decided, decide_of, Result, step_of}
use Rattle.paper.specs.Ledger.{Exchange, none, read_reply, reply_in}
use Rattle.paper.specs.Accounts.{surfaces, begun_in, begun_all}
use Rattle.paper.specs.Statement.{Begins, on_surface}
use Rattle.paper.proofs.Bools.{split, by_case}
use Rattle.paper.proofs.ReadBack.{read_back}
use Rattle.paper.proofs.Ways.{by_ways}
use Rattle.paper.proofs.Rooms.{nothing_written}
use Rattle.session.specs.Target.{is_begin, with_surface}
use Rattle.pool.specs.Pool.{Pool, no_surface, is_free, lowest_free}
use Rattle.pool.specs.Calls.{Given, declined, passed, pool_step, pool_return}
use Rattle.pool.specs.History.{Call, Lends, Returns, Answer, Heard, answer_to, after, heard_from, exchange_in, carried_on, exchanges_in, returns_in, surface_in, surfaces_in}
use Rattle.pool.specs.Statement.{GivenOn}
use Rattle.session.proofs.Targets.{begin_kind_lem, with_surface_lem, with_kind}
use Rattle.pool.proofs.Replied.{formed, written}
use Rattle.pool.proofs.Lowest.{free_found, lowest_small}
use Rattle.pool.proofs.Answers.{by_step}
use Rattle.pool.proofs.Parts.{heard_one, not_empty}

-- ---- how the session's reply to a record reads

-- of one that says what a decision does: a line is begun exactly if a record of begin's kind was accepted, on the
-- surface that is said
record Reads (st : Reading) (w r : List ℕ) (d : Decided) : Type 0 where
  is : surfaces (begun_in w (read_reply st (bytes_of d.reply))) ≡ cond (eqb d.number 0 && eqb (kind_of r) begin_kind) (u32 w surface_place ∷ []) []

-- a refusal begins nothing
refused_reads : (st : Reading) (w : List ℕ) (kind n : ℕ) → kind < 65536 → n < 65536 → (n ≡ 0 → ⊥) → surfaces (begun_in w (read_reply st (bytes_of (Reply.Refused kind n)))) ≡ []
unfolding begun_in
refused_reads st w kind n a b c = ap (λ (y : Reply). surfaces (begun_in w y)) (read_back st (Reply.Refused kind n) (a, b, c))

reads : (st : Reading) (w r : List ℕ) (s : Session) → Reads st w r (decide_of s r)
unfolding read_reply bytes_of begun_in
reads st w r s =
    by_ways s r (Reads st w r)
    (record {
      malformed = record { is = refused_reads st w malformed_reply 13 (omega arith) (omega arith) (λ z. omega arith) };
      no = λ kind n k g b l h. record { is = rw (ne_eqb n 0 (λ z. omega arith)) (refused_reads st w (reply_to kind) n (omega arith) (omega arith) (λ z. omega arith)) };
      configure = λ k a b. record { is = rw k };
      begin = λ k z. record { is = rw k };
      lists = λ k c e z. record { is = rw k };
      finish = λ k c e z. record { is = rw k };
      drain = λ k a. record { is = rw k };
      discard = λ k. record { is = rw k };
      end = λ k. record { is = rw k };
      abandon = λ k c e. record { is = rw k };
    })

-- ---- one call

-- what a surface is given by: the test, and that surface
given_is : (b : Bool) (x y : ℕ) → cond b (x ∷ []) [] ≡ (y ∷ []) → (b ≡ true) × (x ≡ y)
given_is true x y e = (refl, cc)
given_is false x y e = not_empty e

-- 64 is no surface
no_surface_lem : (n : ℕ) (bytes : List ℕ) → surface_in (record { number = n; bytes = bytes; surface = no_surface }) ≡ []
no_surface_lem n bytes = split (eqb n 0) (λ e. rw e) (λ e. rw e)

module _ (st : Reading) (p : Pool) (r : List ℕ) (room : ℕ) where
  abbrev answer_of : Given → Answer
  answer_of g = record { number = g.number; bytes = g.bytes; surface = g.surface }

  record Tells (g : Given) : Type 0 where
    begun : surfaces (begun_all (exchange_in st (Lends r room) (answer_of g))) ≡ surface_in (answer_of g)
    free : (x : ℕ) → surface_in (answer_of g) ≡ (x ∷ []) → is_free p x ≡ true

  -- the exchange of a reply with these bytes
  one_exchange : (n x : ℕ) (y : Reply)
      → surfaces (begun_all (exchange_in st (Lends r room) (record { number = n; bytes = bytes_of y; surface = x }))) ≡ surfaces (begun_in (with_surface x r) (read_reply st (bytes_of y)))
  unfolding begun_all
  one_exchange n x y =
      let e : Exchange = record { said = with_surface x r; answered = bytes_of y; reading = st } in
      ap (λ (b : Bool). surfaces (begun_all (cond b [] (e ∷ [])))) (written y) ∙ ap surfaces (append-nil (begun_in (with_surface x r) (read_reply st (bytes_of y))))

  -- no surface, where nothing is begun
  tells_none : (n : ℕ) (y : Reply) (q : Pool) → surfaces (begun_in (with_surface no_surface r) (read_reply st (bytes_of y))) ≡ [] → Tells (record { number = n; bytes = bytes_of y; surface = no_surface; next = q })
  tells_none n y q e =
      let nothing = no_surface_lem n (bytes_of y) in
      record {
        begun = one_exchange n no_surface y ∙ e ∙ sym nothing;
        free = λ x g. not_empty (sym nothing ∙ g);
      }

  tells_small : Tells (declined p 14 [])
  unfolding none begun_all
  tells_small = record { begun = refl; free = λ x g. not_empty g }

  -- what the session answered to the record w, with surface x for a begin
  tells_passed : (x : ℕ) (w : List ℕ) → (x < no_surface → is_free p x ≡ true)
      → ((decide_of p.session w).number ≡ 0 → cond (eqb (kind_of w) begin_kind) (u32 (with_surface x r) surface_place ∷ []) [] ≡ cond (ltb x no_surface) (x ∷ []) [])
      → ltb room reply_limit ≡ false → Tells (passed p x (step_of p.session w room))
  unfolding step_of
  tells_passed x w f h e =
      let d = decide_of p.session w in
      let was : step_of p.session w room ≡ record { number = d.number; bytes = bytes_of d.reply; next = d.next } = rw e in
      subst (λ (y : Result). Tells (passed p x y)) (sym was)
      (by_case Tells (eqb d.number 0) _ _
      (λ z.
      record {
        begun = one_exchange 0 x d.reply ∙ (reads st (with_surface x r) w p.session).is
            ∙ ap (λ (b : Bool). cond (b && eqb (kind_of w) begin_kind) (u32 (with_surface x r) surface_place ∷ []) []) z ∙ h (eqb-true d.number 0 z);
        free = λ y g. let i = given_is (ltb x no_surface) x y g in subst (λ (v : ℕ). is_free p v ≡ true) i.1 (f (ltb-true x no_surface i.0));
      })
      (λ z.
      tells_none d.number d.reply p
      ((reads st (with_surface no_surface r) w p.session).is ∙ ap (λ (b : Bool). cond (b && eqb (kind_of w) begin_kind) (u32 (with_surface no_surface r) surface_place ∷ []) []) z)))

  tells_other : is_begin r ≡ false → Tells (passed p no_surface (step_of p.session r room))
  tells_other e =
      split (ltb room reply_limit)
      (λ l. subst (λ (y : Result). Tells (passed p no_surface y)) (sym (small l)) tells_small)
      (λ l.
      tells_passed no_surface r (λ h. absurd (omega arith))
      (λ z.
      let k : eqb (kind_of r) begin_kind ≡ false = ap (λ (b : Bool). b && eqb (kind_of r) begin_kind) (sym (formed p.session r z)) ∙ e in
      rw k)
      l)
    where
      small : ltb room reply_limit ≡ true → step_of p.session r room ≡ record { number = 14; bytes = []; next = p.session }
      small l = nothing_written p.session r room (ltb-true room reply_limit l)

  tells_begin : is_begin r ≡ true → reply_limit ≤ room → eqb (lowest_free p) no_surface ≡ false → Tells (passed p (lowest_free p) (step_of p.session (with_surface (lowest_free p) r) room))
  tells_begin is m e =
      let x = lowest_free p in
      let under : x < 64 = omega (arith, lowest_small p, eqb-false x no_surface e) in
      let on : u32 (with_surface x r) surface_place ≡ x = with_surface_lem x r is (omega arith) in
      tells_passed x (with_surface x r) (λ _. free_found p e)
      (λ z.
      ap (λ (b : Bool). cond b (u32 (with_surface x r) surface_place ∷ []) []) (eq-eqb (kind_of (with_surface x r)) begin_kind (with_kind x r ∙ begin_kind_lem r is))
      ∙ ap (λ (v : ℕ). v ∷ []) on ∙ ap (λ (b : Bool). cond b (x ∷ []) []) (sym (lt-ltb x 64 under)))
      (le-ltb room 512 m)

  tells_step : Tells (pool_step p r room)
  tells_step =
      let none_on = refused_reads st (with_surface no_surface r) (reply_to begin_kind) 18 (omega arith) (omega arith) (λ z. omega arith) in
      by_step p r room Tells (record { small = λ _ _. tells_small; full = λ _ _ _. tells_none 18 (Reply.Refused (reply_to begin_kind) 18) p none_on; begin = tells_begin; other = tells_other })

-- the line that a call's reply begins is on the surface that the call answered
one_call : (st : Reading) (p : Pool) (c : Call) → surfaces (begun_all (exchange_in st c (answer_to p c))) ≡ surface_in (answer_to p c)
unfolding answer_to begun_all
one_call st p (Lends r room) = (tells_step st p r room).begun
one_call st p (Returns x) = sym (no_surface_lem (pool_return p x).number [])

-- ---- of all calls

pub begun_append : (xs ys : List Exchange) → surfaces (begun_all (xs ++ ys)) ≡ surfaces (begun_all xs) ++ surfaces (begun_all ys)
unfolding begun_all
begun_append [] ys = refl
begun_append (x ∷ xs) ys =
    let one = begun_in x.said (reply_in x) in
    let f : Line → ℕ = λ e. e.surface.0 in
    map-append f one (begun_all (xs ++ ys)) ∙ ap (λ (ns : List ℕ). surfaces one ++ ns) (begun_append xs ys)
    ∙ sym (append_assoc (surfaces one) (surfaces (begun_all xs)) (surfaces (begun_all ys))) ∙ ap (λ (ns : List ℕ). ns ++ surfaces (begun_all ys)) (sym (map-append f one (begun_all xs)))

pub begun_given : (st : Reading) (p : Pool) (cs : List Call) → surfaces (begun_all (exchanges_in st (heard_from p cs))) ≡ surfaces_in (heard_from p cs)
unfolding heard_from exchanges_in surfaces_in begun_all
begun_given st p [] = refl
begun_given st p (c ∷ cs) =
    let on = carried_on st c (answer_to p c) in
    begun_append (exchange_in st c (answer_to p c)) (exchanges_in on (heard_from (after p c) cs)) ∙ ap₂ (λ (ns ms : List ℕ). ns ++ ms) (one_call st p c) (begun_given on (after p c) cs)

-- ---- where a call gave a surface

-- its exchange, which is that of an accepted begin on that surface
pub record Began (st : Reading) (h : Heard) (x : ℕ) : Type 0 where
  pub exchange : Exchange
  pub begun : Begun
  pub tail : Tail
  pub only : exchanges_in st (h ∷ []) ≡ (exchange ∷ [])
  pub begins : Begins exchange begun tail
  pub on : on_surface exchange ≡ x

-- a record, on a surface that was free
pub record Lent (p : Pool) (c : Call) (x : ℕ) : Type 0 where
  pub free : is_free p x ≡ true
  pub returns : returns_in (heard_one p c ∷ []) ≡ []

module _ (p : Pool) (c : Call) (x : ℕ) (g : GivenOn x (heard_one p c)) where
  given_one : surface_in (answer_to p c) ≡ (x ∷ [])
  unfolding surfaces_in
  given_one = sym (append-nil (surface_in (answer_to p c))) ∙ g

  pub lent : Lent p c x
  unfolding answer_to returns_in
  lent = go c given_one
    where
      go : (d : Call) → surface_in (answer_to p d) ≡ (x ∷ []) → Lent p d x
      go (Lends r room) e = record { free = (tells_step opening p r room).free x e; returns = refl }
      go (Returns y) e = not_empty (sym (no_surface_lem (pool_return p y).number []) ∙ e)

  pub began : (st : Reading) → Began st (heard_one p c) x
  unfolding exchanges_in begun_in begun_all
  began st = few c (answer_to p c) (one_call st p c ∙ given_one) refl
    where
      -- of one exchange
      from : (e : Exchange) (a : Reply) → reply_in e ≡ a → exchanges_in st (heard_one p c ∷ []) ≡ (e ∷ []) → surfaces (begun_in e.said a) ≡ (x ∷ []) → Began st (heard_one p c) x
      from e (Reply.Refused kind n) i o s = not_empty s
      from e (Reply.Done kind t) i o s = not_empty s
      from e (Reply.Started b t) i o s = record { exchange = e; begun = b; tail = t; only = o; begins = i; on = cc }
      from e (Reply.Listed l0 l1) i o s = not_empty s

      few : (d : Call) (a : Answer) → surfaces (begun_all (exchange_in st d a)) ≡ (x ∷ []) → exchange_in st d a ≡ exchange_in st c (answer_to p c) → Began st (heard_one p c) x
      few (Lends r room) a s i =
          let e : Exchange = record { said = with_surface a.surface r; answered = a.bytes; reading = st } in
          split (none a.bytes)
          (λ z. not_empty (ap (λ (b : Bool). surfaces (begun_all (cond b [] (e ∷ [])))) (sym z) ∙ s))
          (λ z.
          from e (reply_in e) refl
          (append-nil (exchange_in st c (answer_to p c)) ∙ sym i ∙ ap (λ (b : Bool). cond b [] (e ∷ [])) z)
          (sym (ap surfaces (append-nil (begun_in e.said (reply_in e)))) ∙ ap (λ (b : Bool). surfaces (begun_all (cond b [] (e ∷ [])))) (sym z) ∙ s))
      few (Returns y) a s i = not_empty s
