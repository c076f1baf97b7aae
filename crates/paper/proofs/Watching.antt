-- What the ledger that says what is wrong is worth: part 0 all the way is demand 3, whoever wrote the replies.
use Prim.Native.Nat.{ℕ, suc, ◌+◌}
use mathlib.Core.Path.{◌≡◌, refl, sym, ap}
use mathlib.Core.List.{List, [], ◌∷◌, ◌++◌}
use mathlib.Core.Bool.{Bool, true, false, not, ◌&&◌, ◌||◌}
use native.Mathlib.Omega.{arith}
use lib.Dec.{eqb}
use lib.ListN.{length}
use borrow.Author.Tests.{eqb-true, eqb-false}
use Rattle.paper.specs.declared.Serial.{Serial}
use Rattle.paper.specs.declared.Line.{Line}
use Rattle.paper.specs.declared.Reading.{Reading}
use Rattle.paper.specs.Reading.{opening, further}
use Rattle.paper.specs.Words.{Test, first, all_b, any_b}
use Rattle.paper.specs.Numbers.{u32}
use Rattle.paper.specs.Kinds.{finish_kind, discard_kind, end_kind, abandon_kind, surface_place}
use Rattle.paper.specs.Sets.{in_order}
use Rattle.paper.specs.Output.{Tail}
use Rattle.paper.specs.Replies.{Begun, Reply}
use Rattle.paper.specs.WholeReply.{whole_reply}
use Rattle.paper.specs.Ledger.{Ledger, Event, Hand, Throw, Free, waits_as, waits, lies, quiet_at, may, may_all, upon, upon_all, events, none, names, clearing, landed, abandoned, unchanged, tell, heard, hear, told, blank, read_reply}
use Rattle.paper.specs.Statement.{Kept}
use Rattle.paper.specs.Watch.{event_part, tail_part, ◌told, started_part, listed_part, end_part, abandon_part, landed_part, reply_part, part_of, Verdict, watched, pairs}
use Rattle.paper.proofs.Bools.{both, split}
use Rattle.paper.proofs.Ways.{first_none, yes_of}
use Rattle.paper.proofs.Between.{in_order_kept}
use Rattle.paper.proofs.Again.{pairs_again}

-- a number that is not told
said_none : (n : ℕ) (ts : List Test) → first (◌told n ∷ ts) ≡ 0 → (n ≡ 0) × (first ts ≡ 0)
unfolding first
said_none n ts e =
    split (eqb n 0) (λ p. (eqb-true n 0 p, rw p at e)) (λ p. absurd (eqb-false n 0 p (rw p at e)))

-- an event with part 0 may happen
may_of : (e : Event) (H : List Line) → event_part e H ≡ 0 → may e H ≡ true
unfolding event_part may
may_of (Hand x) H z =
    let t = first_none (not (any_b (waits x.serial.0) H)) 6 _ (λ e. omega arith) z in
    yes_of _ (first_none (not (any_b (waits_as x) H)) 7 [] (λ e. omega arith) t.1).0
may_of (Throw n) H z = yes_of _ (first_none (not (any_b (waits n.0) H)) 8 [] (λ e. omega arith) z).0
may_of (Free x) H z =
    let t = first_none (not (any_b (lies x.0) H)) 10 _ (λ e. omega arith) z in
    both (yes_of (any_b (lies x.0) H) t.0) (yes_of (all_b (quiet_at x.0) H) (first_none (not (all_b (quiet_at x.0) H)) 11 [] (λ e. omega arith) t.1).0)

tail_may : (es : List Event) (H : List Line) → tail_part es H ≡ 0 → may_all es H ≡ true
unfolding tail_part may_all
tail_may [] H z = refl
tail_may (e ∷ es) H z =
    split (eqb (event_part e H) 0)
    (λ p. both (may_of e H (eqb-true (event_part e H) 0 p)) (tail_may es (upon e H) (rw p at z)))
    (λ p. absurd (eqb-false (event_part e H) 0 p (rw p at z)))

-- A reply with part 0 leaves a ledger in order that was in order
module _ (L : Ledger) (r : List ℕ) (o : L.ok ≡ true) where
  started_ok : (b : Begun) (t : Tail) → started_part L r b t ≡ 0 → (tell L r (Reply.Started b t)).ok ≡ true
  unfolding tell
  started_ok b t z =
      let t1 = first_none (not (none L.current)) 3 _ (λ e. omega arith) z in
      let t2 = first_none (not (eqb b.serial.0 L.begun)) 4 _ (λ e. omega arith) t1.1 in
      let t3 = first_none (any_b (lies (u32 r surface_place)) L.held) 5 _ (λ e. omega arith) t2.1 in
      let t4 = said_none (tail_part (events t) L.held) _ t3.1 in
      let t6 = first_none (not (clearing b t (upon_all (events t) L.held))) 19 _ (λ e. omega arith) t4.1 in
      let t5 = first_none (not (names (in_order b.sets) (upon_all (events t) L.held))) 12 [] (λ e. omega arith) t6.1 in
      both o (both (yes_of (none L.current) t1.0) (both (yes_of (eqb b.serial.0 L.begun) t2.0) (both {a = not (any_b (lies (u32 r surface_place)) L.held)} (rw t3.0) (both (tail_may (events t) L.held t4.0) (both (yes_of (clearing b t (upon_all (events t) L.held)) t6.0) (yes_of (names (in_order b.sets) (upon_all (events t) L.held)) t5.0))))))

  listed_ok : (l0 l1 : List Serial) → listed_part L (l0 ++ l1) ≡ 0 → (tell L r (Reply.Listed l0 l1)).ok ≡ true
  unfolding tell
  listed_ok l0 l1 z =
      let t1 = first_none (none L.current) 13 _ (λ e. omega arith) z in
      let t2 = first_none (not (names (l0 ++ l1) (L.held ++ L.current))) 12 [] (λ e. omega arith) t1.1 in
      both o (both {a = not (none L.current)} (rw t1.0) (yes_of (names (l0 ++ l1) (L.held ++ L.current)) t2.0))

  end_ok : (t : Tail) → end_part t ≡ 0 → (unchanged L t).ok ≡ true
  end_ok t z = both o (yes_of (none (events t)) (first_none (not (none (events t))) 14 [] (λ e. omega arith) z).0)

  abandon_ok : (t : Tail) → abandon_part L t ≡ 0 → (abandoned L t).ok ≡ true
  abandon_ok t z =
      let t1 = first_none (none L.current) 13 _ (λ e. omega arith) z in
      let t2 = said_none (tail_part (events t) L.current) _ t1.1 in
      let t3 = first_none (not (none (upon_all (events t) L.current))) 15 [] (λ e. omega arith) t2.1 in
      both o (both {a = not (none L.current)} (rw t1.0) (both (tail_may (events t) L.current t2.0) (yes_of (none (upon_all (events t) L.current)) t3.0)))

  -- (not a and not b) is false where b or a holds
  or_of : (a b : Bool) → (not a && not b) ≡ false → (b || a) ≡ true
  or_of true true e = refl
  or_of true false e = refl
  or_of false true e = refl
  or_of false false e = sym e

  and_of : (a b : Bool) → (a && b) ≡ false → (not b || not a) ≡ true
  and_of true true e = sym e
  and_of true false e = refl
  and_of false true e = refl
  and_of false false e = refl

  landed_ok : (kind : ℕ) (t : Tail) → landed_part kind L t ≡ 0 → (landed kind L t).ok ≡ true
  landed_ok kind t z =
      let t1 = first_none (eqb kind finish_kind && none L.current) 13 _ (λ e. omega arith) z in
      let t2 = first_none (not (eqb kind discard_kind) && not (none t.thrown)) 9 _ (λ e. omega arith) t1.1 in
      let t3 = said_none (tail_part (events t) (L.held ++ L.current)) _ t2.1 in
      let t4 = first_none (not (eqb kind finish_kind) && not (none (upon_all (events t) (L.held ++ L.current)))) 15 _ (λ e. omega arith) t3.1 in
      both o (both (tail_may (events t) (L.held ++ L.current) t3.0) (both (or_of (eqb kind discard_kind) (none t.thrown) t2.0) (both (or_of (eqb kind finish_kind) (none (upon_all (events t) (L.held ++ L.current))) t4.0) (and_of (eqb kind finish_kind) (none L.current) t1.0))))

  reply_ok : (x : Reply) → reply_part L r x ≡ 0 → (tell L r x).ok ≡ true
  unfolding reply_part tell
  reply_ok (Reply.Refused kind n) z = o
  reply_ok (Reply.Done kind t) z =
      split (eqb kind end_kind)
      (λ p. rw p (end_ok t (rw p at z)))
      (λ p. split (eqb kind abandon_kind) (λ q. rw (p, q) (abandon_ok t (rw (p, q) at z))) (λ q. rw (p, q) (landed_ok kind t (rw (p, q) at z))))
  reply_ok (Reply.Started b t) z = started_ok b t z
  reply_ok (Reply.Listed l0 l1) z = listed_ok l0 l1 z

  pub hear_ok : (st : Reading) (a : List ℕ) → part_of st L r a ≡ 0 → (hear L r (read_reply st a)).ok ≡ true
  unfolding part_of
  hear_ok st a z =
      let t1 = first_none (not (whole_reply st a)) 1 _ (λ e. omega arith) z in
      let t2 = first_none (not (heard r (read_reply st a))) 2 _ (λ e. omega arith) t1.1 in
      both (yes_of (heard r (read_reply st a)) t2.0) (reply_ok (read_reply st a) (said_none (reply_part L r (read_reply st a)) [] t2.1).0)

-- a verdict without a broken part: a reply for each record, and the ledger that they tell, in order
pub record Sound (st : Reading) (L : Ledger) (rs answers : List (List ℕ)) (v : Verdict) : Type 0 where
  pub even : length rs ≡ length answers
  pub ledger : v.ledger ≡ (told) L (pairs st rs answers)
  pub ok : ((told) L (pairs st rs answers)).ok ≡ true

pub watched_sound : (st : Reading) (n : ℕ) (L : Ledger) (rs answers : List (List ℕ)) → L.ok ≡ true → (watched st n L rs answers).part ≡ 0 → Sound st L rs answers (watched st n L rs answers)
unfolding watched pairs Rattle.paper.specs.Ledger.told
watched_sound st n L [] [] o z = record { even = refl; ledger = refl; ok = o }
watched_sound st n L (r ∷ rs) [] o z = absurd (omega (arith, z))
watched_sound st n L [] (a ∷ answers) o z = absurd (omega (arith, z))
watched_sound st n L (r ∷ rs) (a ∷ answers) o z =
    split (eqb (part_of st L r a) 0)
    (λ p.
    let k = watched_sound (further st a) (n + 1) (hear L r (read_reply st a)) rs answers (hear_ok L r o st a (eqb-true (part_of st L r a) 0 p)) (rw p at z) in
    rw p (record { even = ap suc k.even; ledger = k.ledger; ok = k.ok }))
    (λ p. absurd (eqb-false (part_of st L r a) 0 p (rw p at z)))

-- IF NOTHING IS BROKEN, DEMAND 3 HOLDS of the records and replies, whoever wrote them
pub watched_kept : (rs answers : List (List ℕ)) → (watched opening 1 blank rs answers).part ≡ 0 → Kept (pairs opening rs answers)
watched_kept rs answers z = in_order_kept (pairs opening rs answers) (pairs_again opening rs answers) (watched_sound opening 1 blank rs answers refl z).ok
