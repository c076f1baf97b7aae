-- Document 02, Item 12 through a pool: a begin reaches the session with no more changed than its surface, and 18 is a
-- refusal as any other; so what is told from a pool's calls and answers is told of a session.
use Prim.Native.Nat.{ℕ}
use mathlib.Core.Path.{◌≡◌, refl, sym, subst}
use mathlib.Core.List.{List, [], ◌∷◌}
use mathlib.Core.Bool.{true, false, cond}
use native.Mathlib.Omega.{arith}
use lib.Dec.{ltb, eqb}
use borrow.Author.Tests.{ltb-true, eqb-false, ne_eqb}
use Rattle.paper.specs.Words.{all_b}
use Rattle.paper.specs.Numbers.{u16}
use Rattle.paper.specs.Kinds.{number_place, begin_kind, reply_to}
use Rattle.paper.specs.declared.Reading.{Reading}
use Rattle.paper.specs.Reading.{opening}
use Rattle.paper.specs.State.{Session}
use Rattle.paper.specs.Replies.{Reply, bytes_of}
use Rattle.paper.specs.Step.{Result, decide_of, step_of}
use Rattle.paper.specs.Ledger.{Exchange, none}
use Rattle.paper.specs.OneLine.{Notes, empty, notes, Item12}
use Rattle.paper.proofs.Bools.{split, by_case}
use Rattle.paper.proofs.ReadBack.{two_back}
use Rattle.paper.proofs.Rooms.{large_room, nothing_written}
use Rattle.paper.proofs.Refusals.{refused_writes, known_number}
use Rattle.paper.proofs.OneLine.{Ready, ready, Told, told_none, told_more, told_one, told_refused, item_told}
use Rattle.session.specs.Target.{with_surface}
use Rattle.session.proofs.Targets.{with_other}
use Rattle.pool.specs.Pool.{Pool, no_surface, lowest_free, can_make, made}
use Rattle.pool.specs.Calls.{Given, told, declined, passed, pool_step, Returned, is_pending, pool_return}
use Rattle.pool.specs.History.{Call, Lends, Returns, Heard, BytesIn, answer_to, after, heard_from, after_all, exchange_in, carried_on, exchanges_in}
use Rattle.pool.specs.Memory.{PoolMemory, pool_in}
use Rattle.pool.specs.Sequence.{One, Run, calls_of, heard_in}
use Rattle.pool.proofs.Replied.{written}
use Rattle.pool.proofs.Answers.{by_step}
use Rattle.pool.proofs.Item10.{code_follows}

-- the exchange of a record that a pool was lent
abbrev exchanged : Reading → List ℕ → Given → Exchange
exchanged st r g = record { said = with_surface g.surface r; answered = g.bytes; reading = st }

-- ---- a record

-- a number that is not 0, as it is written
number_said : (s : Session) (r : List ℕ) → ((step_of s r 512).number ≡ 0 → ⊥) → eqb (u16 (step_of s r 512).bytes number_place) 0 ≡ false
number_said s r h =
    let n = (step_of s r 512).number in
    rw (refused_writes s r 512 (omega arith) h, two_back n (omega (arith, known_number s r 512))) (ne_eqb n 0 h)

is_written : (s : Session) (r : List ℕ) → none (step_of s r 512).bytes ≡ false
unfolding step_of
is_written s r = written (decide_of s r).reply

module _ (n : Notes) (p : Pool) (a : Ready n p.session) (st : Reading) (r : List ℕ) where
  -- what is told of a call
  record Tells (g : Given) : Type 0 where
    leads : Told n (cond (none g.bytes) [] (exchanged st r g ∷ [])) g.next.session

  silent : Tells (declined p 14 [])
  unfolding none
  silent = record { leads = told_none n p.session a }

  refuses : (number : ℕ) (bytes : List ℕ) → none bytes ≡ false → eqb (u16 bytes number_place) 0 ≡ false → Tells (declined p number bytes)
  refuses number bytes w e = record { leads = rw w (told_refused n p.session a (exchanged st r (declined p number bytes)) e) }

  full : Tells (declined p 18 (bytes_of (Reply.Refused (reply_to begin_kind) 18)))
  unfolding bytes_of
  full = refuses 18 (bytes_of (Reply.Refused (reply_to begin_kind) 18)) (written (Reply.Refused (reply_to begin_kind) 18)) refl

  -- with surface x for a begin
  module _ (x : ℕ) where
    abbrev d : Result
    d = step_of p.session (with_surface x r) 512

    passes_512 : Tells (passed p x d)
    unfolding step_of told
    passes_512 =
        by_case Tells (eqb d.number 0) _ _
        (λ z. record { leads = rw (is_written p.session (with_surface x r)) (told_one n p.session a st (with_surface x r)) })
        (λ z. refuses d.number d.bytes (is_written p.session (with_surface x r)) (number_said p.session (with_surface x r) (eqb-false d.number 0 z)))

    passes : (room : ℕ) → Tells (passed p x (step_of p.session (with_surface x r) room))
    passes room =
        split (ltb room 512)
        (λ e. subst (λ (b : Result). Tells (passed p x b)) (sym (nothing_written p.session (with_surface x r) room (ltb-true room 512 e))) silent)
        (λ e. subst (λ (b : Result). Tells (passed p x b)) (sym (large_room p.session (with_surface x r) room e)) passes_512)

  tells : (room : ℕ) → Tells (pool_step p r room)
  tells room =
      by_step p r room Tells
      (record {
        small = λ is l. silent;
        full = λ is m e. full;
        begin = λ is m e. passes (lowest_free p) room;
        other = λ o. subst (λ (w : List ℕ). Tells (passed p no_surface (step_of p.session w room))) (with_other no_surface r o) (passes no_surface room);
      })

-- ---- any calls

returned_session : (p : Pool) (x : ℕ) → (pool_return p x).next.session ≡ p.session
unfolding pool_return
returned_session p x = by_case (λ (q : Returned). q.next.session ≡ p.session) (is_pending p x) _ _ (λ _. refl) (λ _. refl)

call : (n : Notes) (p : Pool) → Ready n p.session → (st : Reading) (c : Call) → Told n (exchange_in st c (answer_to p c)) (after p c).session
unfolding answer_to after
call n p a st (Lends r room) = (tells n p a st r room).leads
call n p a st (Returns x) = subst (Told n []) (sym (returned_session p x)) (told_none n p.session a)

calls : (n : Notes) (p : Pool) → Ready n p.session → (st : Reading) (cs : List Call) → Told n (exchanges_in st (heard_from p cs)) (after_all p cs).session
unfolding exchanges_in heard_from after_all
calls n p a st [] = told_none n p.session a
calls n p a st (c ∷ cs) =
    let xs = exchange_in st c (answer_to p c) in
    let one = call n p a st c in
    let su = carried_on st c (answer_to p c) in
    told_more n xs (exchanges_in su (heard_from (after p c) cs)) (after p c).session (after_all (after p c) cs).session one
    (calls (notes n xs) (after p c) one.ready su cs)

-- ITEM 12 THROUGH A POOL, from a made one, after any calls: of the exchanges with the answered surface in the record's
-- place, and the pool's session
pub pool_one_line : (n : ℕ) (cs : List Call) → Item12 (exchanges_in opening (heard_from (made n) cs)) (after_all (made n) cs).session
pool_one_line n cs = item_told (exchanges_in opening (heard_from (made n) cs)) (after_all (made n) cs).session (calls empty (made n) ready opening cs)

-- and of the code's own bytes
pub code_pool_one_line : (n : ℕ) → can_make n ≡ true → (m : PoolMemory) → pool_in m ≡ made n → (xs : List One) (m' : PoolMemory) → Run m xs m' → all_b BytesIn (calls_of xs) ≡ true
    → Item12 (exchanges_in opening (heard_in xs)) (pool_in m').session
code_pool_one_line n can m start xs m' run bytes =
    let f = code_follows n can m start xs m' run bytes in
    subst (λ (p : Pool). Item12 (exchanges_in opening (heard_in xs)) p.session) (sym f.pool)
    (subst (λ (hs : List Heard). Item12 (exchanges_in opening hs) (after_all (made n) (calls_of xs)).session) (sym f.heard) (pool_one_line n (calls_of xs)))
