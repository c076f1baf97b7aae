-- A session's own replies break nothing: each gets part 0.
use Prim.Native.Nat.{ℕ, ◌+◌, ◌≤◌}
use mathlib.Core.Path.{◌≡◌, refl, sym, ap}
use mathlib.Core.List.{List, [], ◌∷◌, ◌++◌}
use mathlib.Core.Bool.{Bool, true, false, not, ◌&&◌, ◌||◌}
use native.Mathlib.Omega.{arith}
use lib.Dec.{ltb, eqb}
use lib.ListN.{length, length-map}
use borrow.Author.Tests.{le-ltb, le-leb}
use Rattle.paper.specs.declared.Serial.{Serial}
use Rattle.paper.specs.declared.Line.{Line}
use Rattle.paper.specs.Words.{first, all_b, any_b}
use Rattle.paper.specs.Numbers.{u32}
use Rattle.paper.specs.Kinds.{configure_kind, finish_kind, discard_kind, end_kind, abandon_kind, reply_to, surface_place}
use Rattle.paper.specs.declared.Reading.{Reading}
use Rattle.paper.specs.Reading.{opening, further}
use Rattle.paper.specs.State.{Session, fresh}
use Rattle.paper.specs.Output.{Tail}
use Rattle.paper.specs.Replies.{Begun, Reply, bytes_of}
use Rattle.paper.specs.Step.{Decided, decide_of, step_of, replies}
use Rattle.paper.specs.Ledger.{Ledger, Event, Hand, Throw, Free, waits_as, waits, lies, may, may_all, upon, upon_all, events, none, clearing, landed, abandoned, unchanged, tell, hear, blank, read_reply}
use Rattle.paper.specs.Statement.{line, ledger_of, Bytes}
use Rattle.paper.specs.Watch.{event_part, tail_part, started_part, listed_part, end_part, abandon_part, landed_part, reply_part, part_of, watched}
use Rattle.paper.proofs.Bools as B
use Rattle.paper.proofs.Bools.{both, left, right, split, or_left}
use Rattle.paper.proofs.Ways.{by_ways}
use Rattle.paper.proofs.ReadBack.{read_back}
use Rattle.paper.proofs.WholeBack.{Known, whole_back}
use Rattle.paper.proofs.Sound.{Sound, good_step}
use Rattle.paper.proofs.Heard.{hears}
use Rattle.paper.proofs.Fits.{fit_decide}
use Rattle.paper.proofs.Tidy.{no_of}
use Rattle.paper.proofs.LedgerTold.{sound_fresh, sound_step}

event_none : (e : Event) (H : List Line) → may e H ≡ true → event_part e H ≡ 0
unfolding event_part may first
event_none (Hand x) H m =
    let w = B.any_mono (waits_as x) (waits x.serial.0) (λ e h. both (left e.wants _ h) (left (eqb x.serial.0 e.serial.0) _ (right e.wants _ h))) H m in
    rw (w, m)
event_none (Throw n) H m = rw m
event_none (Free x) H m = rw (left (any_b (lies x.0) H) _ m, right (any_b (lies x.0) H) _ m)

tail_none : (es : List Event) (H : List Line) → may_all es H ≡ true → tail_part es H ≡ 0
unfolding tail_part may_all
tail_none [] H m = refl
tail_none (e ∷ es) H m = rw (event_none e H (left (may e H) _ m)) (tail_none es (upon e H) (right (may e H) _ m))

-- what is in order has part 0, if no more is stored than a store holds
module _ (L : Ledger) (r : List ℕ) where
  started_none : (b : Begun) (t : Tail) → (tell L r (Reply.Started b t)).ok ≡ true → started_part L r b t ≡ 0
  unfolding tell first
  started_none b t o =
      let o1 = right L.ok _ o in
      let o2 = right (none L.current) _ o1 in
      let o3 = right (eqb b.serial.0 L.begun) _ o2 in
      let f = no_of (any_b (lies (u32 r surface_place)) L.held) (left (not (any_b (lies (u32 r surface_place)) L.held)) _ o3) in
      let o4 = right (not (any_b (lies (u32 r surface_place)) L.held)) _ o3 in
      let m = tail_none (events t) L.held (left (may_all (events t) L.held) _ o4) in
      let o5 = right (may_all (events t) L.held) _ o4 in
      rw (left (none L.current) _ o1, left (eqb b.serial.0 L.begun) _ o2, f, m, left (clearing b t (upon_all (events t) L.held)) _ o5, right (clearing b t (upon_all (events t) L.held)) _ o5)

  listed_none : (l0 l1 : List Serial) → (tell L r (Reply.Listed l0 l1)).ok ≡ true → listed_part L (l0 ++ l1) ≡ 0
  unfolding tell first
  listed_none l0 l1 o =
      let o1 = right L.ok _ o in
      rw (no_of (none L.current) (left (not (none L.current)) _ o1), right (not (none L.current)) _ o1)

  end_none : (t : Tail) → (unchanged L t).ok ≡ true → end_part t ≡ 0
  unfolding first
  end_none t o = rw (right L.ok _ o)

  abandon_none : (t : Tail) → (abandoned L t).ok ≡ true → abandon_part L t ≡ 0
  unfolding first
  abandon_none t o =
      let o1 = right L.ok _ o in
      let o2 = right (not (none L.current)) _ o1 in
      rw (no_of (none L.current) (left (not (none L.current)) _ o1), tail_none (events t) L.current (left (may_all (events t) L.current) _ o2), right (may_all (events t) L.current) _ o2)

  -- the tests of landed, from what is in order
  or_none : (a b : Bool) → (b || a) ≡ true → (not a && not b) ≡ false
  or_none true b e = refl
  or_none false true e = refl
  or_none false false e = sym e

  and_none : (a b : Bool) → (not b || not a) ≡ true → (a && b) ≡ false
  and_none true true e = sym e
  and_none true false e = refl
  and_none false b e = refl

  landed_none : (kind : ℕ) (t : Tail) → (landed kind L t).ok ≡ true → length (upon_all (events t) (L.held ++ L.current)) ≤ 16 → landed_part kind L t ≡ 0
  unfolding first
  landed_none kind t o h =
      let o1 = right L.ok _ o in
      let m = left (may_all (events t) (L.held ++ L.current)) _ o1 in
      let o2 = right (may_all (events t) (L.held ++ L.current)) _ o1 in
      let a = left (none t.thrown || eqb kind discard_kind) _ o2 in
      let o3 = right (none t.thrown || eqb kind discard_kind) _ o2 in
      let b = left (none (upon_all (events t) (L.held ++ L.current)) || eqb kind finish_kind) _ o3 in
      let c = right (none (upon_all (events t) (L.held ++ L.current)) || eqb kind finish_kind) _ o3 in
      rw
      (and_none (eqb kind finish_kind) (none L.current) c, or_none (eqb kind discard_kind) (none t.thrown) a, tail_none (events t) (L.held ++ L.current) m, or_none (eqb kind finish_kind) (none (upon_all (events t) (L.held ++ L.current))) b, le-ltb 16 (length (upon_all (events t) (L.held ++ L.current))) h)

  reply_none : (x : Reply) → (tell L r x).ok ≡ true → length (tell L r x).held ≤ 16 → reply_part L r x ≡ 0
  unfolding reply_part tell
  reply_none (Reply.Refused kind n) o h = refl
  reply_none (Reply.Done kind t) o h =
      split (eqb kind end_kind)
      (λ p. rw p (end_none t (rw p at o)))
      (λ p. split (eqb kind abandon_kind) (λ q. rw (p, q) (abandon_none t (rw (p, q) at o))) (λ q. rw (p, q) (landed_none kind t (rw (p, q) at o) (rw (p, q) at h))))
  reply_none (Reply.Started b t) o h = started_none b t o
  reply_none (Reply.Listed l0 l1) o h = listed_none l0 l1 o

-- the kinds of a session's replies
record Knows (d : Decided) : Type 0 where
  is : Known d.reply

pub knows : (s : Session) (r : List ℕ) → Known (decide_of s r).reply
knows s r =
    (by_ways s r Knows
    (record {
      malformed = record { is = (refl, omega arith) };
      no = λ kind n k g b l h. record { is = (or_left _ _ (both (le-leb (reply_to configure_kind) (reply_to kind) (omega arith)) (le-leb (reply_to kind) (reply_to abandon_kind) (omega arith))), omega arith) };
      configure = λ k a b. record { is = (omega arith, omega arith) };
      begin = λ k z. record { is = tt };
      lists = λ k c e z. record { is = tt };
      finish = λ k c e z. record { is = (omega arith, omega arith) };
      drain = λ k a. record { is = (omega arith, omega arith) };
      discard = λ k. record { is = (omega arith, omega arith) };
      end = λ k. record { is = (omega arith, omega arith) };
      abandon = λ k c e. record { is = (omega arith, omega arith) };
    })).is

-- one exchange of a session
module _ (st : Reading) (s : Session) (r : List ℕ) (i : Sound s) (b : all_b (λ (x : ℕ). ltb x 256) r ≡ true) (room : length s.store ≤ 16) where
  abbrev x : Reply
  x = (decide_of s r).reply

  back : read_reply st (bytes_of x) ≡ x
  back = read_back st x (good_step s r i b).fit

  pub step_none : part_of st (ledger_of s) r (step_of s r 512).bytes ≡ 0
  unfolding step_of part_of first
  step_none =
      let g = good_step s r i b in
      let f = fit_decide s r room in
      let o : (tell (ledger_of s) r x).ok ≡ true = ap (λ (L : Ledger). L.ok) g.tells in
      let h : length (tell (ledger_of s) r x).held ≤ 16 = let e = ap (λ (L : Ledger). length L.held) g.tells in omega (arith, e, length-map (decide_of s r).next.store line, f.room) in
      rw (whole_back st x g.fit (knows s r) f.bytes, back, hears s r, reply_none (ledger_of s) r x o h)

  pub step_hear : hear (ledger_of s) r (read_reply st (step_of s r 512).bytes) ≡ ledger_of (step_of s r 512).next
  unfolding step_of
  step_hear = rw (back, hears s r) (good_step s r i b).tells

room_step : (s : Session) (r : List ℕ) → length s.store ≤ 16 → length (step_of s r 512).next.store ≤ 16
unfolding step_of
room_step s r h = (fit_decide s r h).room

-- ON THE REPLIES OF A SESSION NOTHING IS BROKEN, however long it runs
pub watched_session : (st : Reading) (n : ℕ) (s : Session) (rs : List (List ℕ)) → Sound s → length s.store ≤ 16 → Bytes rs → (watched st n (ledger_of s) rs (replies s rs)).part ≡ 0
unfolding watched replies all_b
watched_session st n s [] i room b = refl
watched_session st n s (r ∷ rs) i room b =
    let b0 = left (all_b (λ (x : ℕ). ltb x 256) r) _ b in
    rw (step_none st s r i b0 room, step_hear st s r i b0 room)
    (watched_session (further st (step_of s r 512).bytes) (n + 1) (step_of s r 512).next rs (sound_step s r i b0) (room_step s r room) (right (all_b (λ (x : ℕ). ltb x 256) r) _ b))

pub watched_fresh : (rs : List (List ℕ)) → Bytes rs → (watched opening 1 blank rs (replies fresh rs)).part ≡ 0
watched_fresh rs b = watched_session opening 1 fresh rs sound_fresh (omega arith) b
