-- One call leads from a pool that is as it should be to another, and what is heard of it tells the session's ledger
-- before into the one after: what is refused tells nothing and leaves the pool, of what is accepted the reply tells
-- what the session did, and a return takes one pending return away.
use Prim.Native.Nat.{ℕ, ◌+◌, ◌<◌}
use mathlib.Core.Path.{◌≡◌, refl, sym, ap, ◌∙◌, subst}
use mathlib.Core.List.{List, [], ◌∷◌, append-nil}
use mathlib.Core.Bool.{Bool, true, false, cond, ◌&&◌}
use native.Mathlib.Omega.{arith}
use lib.Dec.{ltb, eqb}
use borrow.Author.Tests.{ltb-true, eq-eqb, eqb-true, eqb-false}
use Rattle.paper.specs.declared.Reading.{Reading}
use Rattle.paper.specs.Words.{all_b}
use Rattle.paper.specs.Numbers.{surface_nos}
use Rattle.paper.specs.Kinds.{begin_kind, reply_to}
use Rattle.paper.specs.Records.{kind_of}
use Rattle.paper.specs.Replies.{Reply, bytes_of}
use Rattle.paper.specs.Step.{Result, step_of}
use Rattle.paper.specs.Reading.{further}
use Rattle.paper.specs.Ledger.{Ledger, Exchange, none, tell, heard, hear, told, reply_in, read_reply}
use Rattle.paper.specs.Accounts.{count, tail_in}
use Rattle.paper.specs.Statement.{ledger_of}
use Rattle.paper.proofs.Bools.{right, split, by_case, not_both}
use Rattle.paper.proofs.Flow.{hit}
use Rattle.paper.proofs.ReadBack.{read_back}
use Rattle.paper.proofs.Rooms.{nothing_written, large_room}
use Rattle.paper.proofs.Refusals.{refusal_kind}
use Rattle.session.specs.Target.{is_begin, with_surface}
use Rattle.pool.specs.Pool.{Pool, no_surface, lowest_free}
use Rattle.pool.specs.Calls.{shown_on, Given, declined, passed, accounted, pool_step, Returned, is_pending, one_less, pool_return, told as afterwards}
use Rattle.pool.specs.History.{Call, Lends, Returns, BytesIn, answer_to, after, exchange_in, carried_on, shown_all, return_in}
use Rattle.session.proofs.Targets.{with_other, with_kind, with_bytes, begin_kind_lem}
use Rattle.pool.proofs.Replied.{heard_kind, written, hears_it, is_written, said_no}
use Rattle.pool.proofs.Accepting.{Fair, is_free_lem, Taken, tells, pending_next, fair_next}
use Rattle.pool.proofs.Lowest.{free_found}
use Rattle.pool.proofs.Answers.{by_step}

-- ---- from one pool to another, with what was told, returned and carried between them

pub record Leads (p : Pool) (xs : List Exchange) (ys : List ℕ) (st : Reading) (q : Pool) : Type 0 where
  pub fair : Fair q
  pub surfaces : q.surfaces ≡ p.surfaces
  pub tells : told (ledger_of p.session) xs ≡ ledger_of q.session
  pub carries : st ≡ q.reading
  pub sum : (i : ℕ) → q.pending i + count i ys ≡ p.pending i + count i (shown_all xs)

pub stays : (p : Pool) → Fair p → Leads p [] [] p.reading p
unfolding told shown_all count
stays p g = record { fair = g; surfaces = refl; tells = refl; carries = refl; sum = λ i. refl }

-- ---- a record

abbrev exchange_of : Pool → List ℕ → Given → List Exchange
exchange_of p r g = cond (none g.bytes) [] (record { said = with_surface g.surface r; answered = g.bytes; reading = p.reading } ∷ [])

record Lent (p : Pool) (r : List ℕ) (g : Given) : Type 0 where
  leads : Leads p (exchange_of p r g) [] (cond (none g.bytes) p.reading (further p.reading g.bytes)) g.next

-- a call that got a reply
record Tells (p : Pool) (r : List ℕ) (g : Given) : Type 0 where
  bytes : none g.bytes ≡ false
  fair : Fair g.next
  surfaces : g.next.surfaces ≡ p.surfaces
  tells : hear (ledger_of p.session) (with_surface g.surface r) (read_reply p.reading g.bytes) ≡ ledger_of g.next.session
  reading : further p.reading g.bytes ≡ g.next.reading
  pending : (i : ℕ) → g.next.pending i ≡ p.pending i + count i (surface_nos (shown_on (tail_in (read_reply p.reading g.bytes)).handed))

lent : (p : Pool) (r : List ℕ) (g : Given) → Tells p r g → Lent p r g
unfolding told shown_all count
lent p r g k =
    let x : Exchange = record { said = with_surface g.surface r; answered = g.bytes; reading = p.reading } in
    record {
      leads =
          subst (λ (b : Bool). Leads p (cond b [] (x ∷ [])) [] (cond b p.reading (further p.reading g.bytes)) g.next) (sym k.bytes)
          (record {
            fair = k.fair;
            surfaces = k.surfaces;
            tells = k.tells;
            carries = k.reading;
            sum = λ i. let z = ap (count i) (append-nil (surface_nos (shown_on (tail_in (reply_in x)).handed))) in omega (arith, k.pending i, z);
          });
    }

-- with too small a buffer nothing is said
silent : (p : Pool) (r : List ℕ) → Fair p → Lent p r (declined p 14 [])
unfolding none
silent p r g = record { leads = stays p g }

-- a refusal says its number and nothing else
no_hands : (kind n i : ℕ) → count i (surface_nos (shown_on (tail_in (Reply.Refused kind n)).handed)) ≡ 0
unfolding tail_in count
no_hands kind n i = refl

hear_no : (L : Ledger) (r : List ℕ) (kind n : ℕ) → heard r (Reply.Refused kind n) ≡ true → hear L r (Reply.Refused kind n) ≡ L
unfolding tell
hear_no L r kind n h = λ i. record { held = L.held; current = L.current; begun = L.begun; ok = h i && L.ok }

further_no : (st : Reading) (a : List ℕ) (kind n : ℕ) → read_reply st a ≡ Reply.Refused kind n → further st a ≡ st
unfolding further
further_no st a kind n e = refl

refuses : (p : Pool) (r : List ℕ) → Fair p → (number kind : ℕ) (bytes : List ℕ) → none bytes ≡ false → read_reply p.reading bytes ≡ Reply.Refused kind number
    → heard (with_surface no_surface r) (Reply.Refused kind number) ≡ true → Lent p r (declined p number bytes)
refuses p r g number kind bytes w e h =
    lent p r (declined p number bytes)
    (record {
      bytes = w;
      fair = g;
      surfaces = refl;
      tells = ap (hear (ledger_of p.session) (with_surface no_surface r)) e ∙ hear_no (ledger_of p.session) (with_surface no_surface r) kind number h;
      reading = further_no p.reading bytes kind number e;
      pending = λ i. let z = ap (λ (a : Reply). count i (surface_nos (shown_on (tail_in a).handed))) e ∙ no_hands kind number i in omega (arith, z);
    })

-- 18 is read back as it was written
full : (p : Pool) (r : List ℕ) → Fair p → is_begin r ≡ true → Lent p r (declined p 18 (bytes_of (Reply.Refused (reply_to begin_kind) 18)))
unfolding heard
full p r g is =
    refuses p r g 18 258 (bytes_of (Reply.Refused 258 18)) (written (Reply.Refused 258 18))
    (read_back p.reading (Reply.Refused 258 18) (omega arith, omega arith, λ z. absurd (omega (arith, z))))
    (eq-eqb 258 (256 + kind_of (with_surface 64 r)) (omega (arith, with_kind 64 r, begin_kind_lem r is)))

module _ (p : Pool) (g : Fair p) (r : List ℕ) (b : all_b (λ (y : ℕ). ltb y 256) r ≡ true) (x : ℕ) (f : Taken p r x) where
  abbrev q : List ℕ
  q = with_surface x r

  abbrev d : Result
  d = step_of p.session q 512

  bq : all_b (λ (y : ℕ). ltb y 256) q ≡ true
  bq = with_bytes x r b

  accepts : d.number ≡ 0 → Lent p r (record { number = 0; bytes = d.bytes; surface = x; next = accounted p d.next x d.bytes })
  unfolding afterwards
  accepts z =
      lent p r _
      (record {
        bytes = is_written p.reading p.session q g.sound bq;
        fair = fair_next p g r b x f z;
        surfaces = refl;
        tells = tells p g r b x f;
        reading = refl;
        pending = pending_next p g r b x f z;
      })

  passes_512 : Lent p r (passed p x d)
  passes_512 =
      by_case (Lent p r) (eqb d.number 0) _ _ (λ z. accepts (eqb-true d.number 0 z))
      (λ z.
      let e = said_no p.reading p.session q g.sound bq (eqb-false d.number 0 z) in
      let h = ap (heard q) (sym e) ∙ hears_it p.reading p.session q g.sound bq in
      refuses p r g d.number (refusal_kind d.number q) d.bytes (is_written p.reading p.session q g.sound bq) e
      (heard_kind (with_surface 64 r) q _ (with_kind 64 r ∙ sym (with_kind x r)) h))

  passes : (room : ℕ) → Lent p r (passed p x (step_of p.session q room))
  passes room =
      split (ltb room 512)
      (λ e. subst (λ (a : Result). Lent p r (passed p x a)) (sym (nothing_written p.session q room (ltb-true room 512 e))) (silent p r g))
      (λ e. subst (λ (a : Result). Lent p r (passed p x a)) (sym (large_room p.session q room e)) passes_512)

lends : (p : Pool) → Fair p → (r : List ℕ) (room : ℕ) → all_b (λ (y : ℕ). ltb y 256) r ≡ true → Lent p r (pool_step p r room)
lends p g r room b =
    by_step p r room (Lent p r)
    (record {
      small = λ is l. silent p r g;
      full = λ is m e. full p r g is;
      begin = λ is m e.
          passes p g r b (lowest_free p) (record { begin = λ _. is_free_lem p (lowest_free p) g (free_found p e); other = λ o. not_both (is_begin r) is o }) room;
      other = λ o.
          subst (λ (w : List ℕ). Lent p r (passed p no_surface (step_of p.session w room))) (with_other no_surface r o)
          (passes p g r b no_surface (record { begin = λ is. not_both (is_begin r) is o; other = λ _. refl }) room);
    })

-- ---- a return

record Gave (p : Pool) (x : ℕ) (a : Returned) : Type 0 where
  leads : Leads p [] (cond (eqb a.number 0) (x ∷ []) []) p.reading a.next

-- one less is pending on that surface, where some was
less : (p : Pool) (x : ℕ) → 0 < p.pending x → (i : ℕ) → (one_less p x).pending i + hit i x ≡ p.pending i
less p x h i =
    split (eqb i x)
    (λ e. let z : p.pending i ≡ p.pending x = ap p.pending (eqb-true i x e) in rw e (omega (arith, z)))
    (λ e. rw e (omega arith))

gives_back : (p : Pool) (x : ℕ) → Fair p → Gave p x (pool_return p x)
unfolding pool_return told shown_all count
gives_back p x g =
    by_case (Gave p x) (is_pending p x) _ _
    (λ e. record { leads = one (ltb-true 0 (p.pending x) (right (ltb x p.surfaces) _ e)) })
    (λ _. record { leads = stays p g })
  where
    one : 0 < p.pending x → Leads p [] (x ∷ []) p.reading (one_less p x)
    one h =
        record {
          fair = record { sound = g.sound; tidy = g.tidy; few = g.few; held = g.held; own = g.own; one = λ i. omega (arith, less p x h i, g.one i) };
          surfaces = refl;
          tells = refl;
          carries = refl;
          sum = λ i. omega (arith, less p x h i);
        }

-- ---- either

pub call : (p : Pool) → Fair p → (c : Call) → BytesIn c ≡ true → Leads p (exchange_in p.reading c (answer_to p c)) (return_in c (answer_to p c)) (carried_on p.reading c (answer_to p c)) (after p c)
unfolding answer_to after
call p g (Lends r room) b = (lends p g r room b).leads
call p g (Returns x) b = (gives_back p x g).leads
