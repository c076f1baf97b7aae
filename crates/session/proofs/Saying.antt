-- What a call does, from what its parts did: laws over words and values, which each function's proof applies once.
use Prim.Native.Nat.{ℕ, ◌+◌, ◌<◌, min}
use mathlib.Core.Path.{◌≡◌, refl, sym, ap, ◌∙◌, subst}
use mathlib.Core.List.{List}
use mathlib.Core.Bool.{Bool, true, false, ◌&&◌}
use lib.Dec.{leb}
use lib.ListN.{length}
use lib.Seq.{take_all}
use native.Mathlib.Omega.{arith}
use Rattle.paper.specs.Kinds.{configure_kind, finish_kind, drain_kind, discard_kind, end_kind, abandon_kind, reply_to}
use Rattle.paper.specs.declared.Picture.{Picture}
use Rattle.paper.specs.declared.Limits.{Limits}
use Rattle.paper.specs.declared.Current.{Current}
use Rattle.paper.specs.State.{is_current, on_now, taken16}
use Rattle.paper.specs.State as P
use Rattle.paper.specs.Ranges.{configure_ranges}
use Rattle.paper.specs.Output.{Tail, Moved, quiet, emptied}
use Rattle.paper.specs.Calls.{full, finished, drained, dropped, discarded, prev_after, idle_with, drained_now, configured_session, ended_session}
use Rattle.paper.specs.Replies.{tail_bytes, framed, bytes_of}
use Rattle.paper.specs.Step.{Decided, refused, accepted, configure_of, finish_of, drain_of, discard_of, end_of, abandon_of}
use Rattle.paper.proofs.Fits.{spare}
use Rattle.derivation.specs.Lists.{refs_in}
use Rattle.session.specs.declared.Answer.{Answer}
use Rattle.session.specs.declared.Refusal.{Refusal}
use Rattle.session.specs.declared.Refusal.TheVariants.{BadLimits, NoCurrent, StoreFull}
use Rattle.session.specs.Numbered.{number_of}
use Rattle.store.specs.declared.Moved as Store
use Rattle.store.specs.StoreWords.{word, stored, NormalForm}
use Rattle.store.specs.Tails.{HoldsTail, tail_in}
use Rattle.store.specs.declared.Full.{Full}
use Rattle.store.specs.Places.{roomy, room_of}
use Rattle.std.specs.Result.{is_err}
use Rattle.paper.proofs.Bools.{split}
use Rattle.store.specs.Bumps.{Leaves}
use Rattle.derivation.proofs.Pad.{is_view}
use Rattle.store.proofs.Ends.{drain_idle}
use Rattle.session.specs.View.{Memory, memory, Front, session_in, session_of, front_in, idle_front, configured_front, ended_front, limits_at, now_at, prev_at}
use Rattle.session.specs.Laid.{front_of, front_words, front_words_of, NormalMemory}
use Rattle.session.specs.Said.{accepts, Says, Refuses, Tries, Does, Idles, Drained}
use Rattle.session.proofs.Ways.{finish_idle, finish_now, finish_full, finish_room, drain_stuck, drain_free, configure_bad, configure_stuck, configure_free, discard_is, end_is, abandon_idle, abandon_now}
use Rattle.std.proofs.Common.{Option, None, Some, Result, Ok, Err}
use Rattle.paper.specs.declared.Tid0.{Tid0}

-- ---- a tail by value

pub tail_held : {x : Store.Moved} {y : Tail} → HoldsTail x y → tail_in x ≡ y
tail_held h = λ i. record { handed = is_view h.handed i; thrown = is_view h.thrown i; released = is_view h.released i }

-- ---- a store with room for one more

pub roomy_all : (ps : List Picture) → length ps < 16 → roomy ps ≡ ps
roomy_all ps lt = take_all 15 ps (omega arith)

-- ---- a full store

pub full_err : {full : Bool} {room : Result (Unit {0}) Full} → room ≡ room_of full → is_err room ≡ full
full_err {full} e = ap is_err e ∙ split full (λ f. rw f) (λ f. rw f)

-- ---- what is done, by another name

as_decided : {m : Memory} {d e : Decided} {before : List ℕ} {a : Answer} {m' : Memory} {after : List ℕ} → e ≡ d → Does m d before a m' after → Does m e before a m' after
as_decided {m} {d} {e} {before} {a} {m'} {after} p h = subst (λ (x : Decided). Does m x before a m' after) (sym p) h

says_as : (kind : ℕ) {t u : Tail} {before : List ℕ} {len : ℕ} {after : List ℕ} → t ≡ u → Says (framed kind 0 (tail_bytes t)) before len after → Says (framed kind 0 (tail_bytes u)) before len after
says_as kind {t} {u} {before} {len} {after} e h = subst (λ (x : Tail). Says (framed kind 0 (tail_bytes x)) before len after) e h

-- a refused record, which leaves every word as it was
pub does_refuse : {m : Memory} {kind n : ℕ} {d : Decided} {before : List ℕ} {a : Answer} {after : List ℕ} → d ≡ refused (session_in m) kind n → Refuses kind n before a after → Does m d before a m after
unfolding bytes_of
does_refuse e h = as_decided e (record { answers = record { answer = h.answer; bytes = h.bytes }; next = refl; left = λ _. refl; normal = λ n. n; sets = λ i le. refl })

-- a refusal that is given and not yet written, and what is done as what is given
pub rejects : {m : Memory} {kind : ℕ} {d : Decided} {before : List ℕ} {why : Refusal} → d ≡ refused (session_in m) kind (number_of why) → Tries kind m d before (Err why) m before
rejects e = record { ok = tt; err = record { decided = e; bytes = refl }; left = refl }

pub gives : {m : Memory} {kind : ℕ} {d : Decided} {before : List ℕ} {len : ℕ} {m' : Memory} {after : List ℕ} → Does m d before (accepts len) m' after → Tries kind m d before (Ok len) m' after
gives h = record { ok = h; err = tt; left = tt }

-- by another name of what was decided
pub tries_as : {kind : ℕ} {m : Memory} {d e : Decided} {before : List ℕ} {r : Result ℕ Refusal} {m' : Memory} {after : List ℕ} → e ≡ d → Tries kind m d before r m' after → Tries kind m e before r m' after
tries_as {kind} {m} {d} {e} {before} {r} {m'} {after} p h = subst (λ (x : Decided). Tries kind m x before r m' after) (sym p) h

pub gives_as : {kind : ℕ} {m : Memory} {d e : Decided} {before : List ℕ} {len : ℕ} {m' : Memory} {after : List ℕ} → e ≡ d → Does m d before (accepts len) m' after → Tries kind m e before (Ok len) m' after
gives_as p h = gives (as_decided p h)

-- an accepted one with a tail
pub accepted_does : {m m' : Memory} (x : P.Session) (k : ℕ) (t : Tail) {before : List ℕ} {len : ℕ} {after : List ℕ} → session_in m' ≡ x → Says (framed (256 + k) 0 (tail_bytes t)) before len after
    → (NormalMemory m → m'.front ≡ front_words_of x) → (NormalForm m.store → NormalForm m'.store) → m'.sets ≡ m.sets → Does m (accepted x k t) before (accepts len) m' after
unfolding bytes_of
accepted_does x k t e h w f s =
    record {
      answers = record { answer = ap accepts h.long; bytes = h.bytes };
      next = e;
      left = λ n. absurd (n refl);
      normal = λ n. record { front = w n ∙ ap front_words_of (sym e); store = f n.store };
      sets = λ i le. ap (λ (xs : List ℕ). word xs i) s;
    }

-- what `put_idle` leaves
pub idles : {h h' : List ℕ} {q : Option Tid0} → (front_in h' ≡ idle_front (front_in h) q) × ((f : Front) → h ≡ front_words f → h' ≡ front_words (idle_front f q)) → Idles h h' q
idles e = record { front = e.0; words = e.1 }

-- a drain that nothing refuses: of a session with no current picture, and of one with room for it
pub drained_idle : (h t : List ℕ) {before : List ℕ} {len : ℕ} {after : List ℕ} {kind : ℕ} {q : Option Tid0} {h' t' : List ℕ} {r : Store.Moved} → now_at h ≡ None → q ≡ prev_at h
    → Leaves (emptied (stored t)) t t' r → Idles h h' q → Says (framed kind 0 (tail_bytes (tail_in r))) before len after → Drained h t kind before len h' t' after
drained_idle h t {kind = kind} {q} {h'} {t'} {r} en eq w i s =
    let y = subst (λ (n : Option Current). Leaves (drained (limits_at h) (stored t) n) t t' r) (sym en) (subst (λ (x : Moved). Leaves x t t' r) (sym (drain_idle (stored t) (limits_at h))) w) in
    record {
      says = says_as kind (tail_held y.tail) s;
      pics = y.pics;
      normal = y.normal;
      front = subst (Idles h h') (eq ∙ ap (λ (n : Option Current). on_now n (prev_at h) (prev_after (prev_at h))) (sym en)) i;
    }

pub drained_now_lem : (h t : List ℕ) (c : Current) {before : List ℕ} {len : ℕ} {after : List ℕ} {kind : ℕ} {l : Limits} {q p : Option Tid0} {h' t' : List ℕ} {r : Store.Moved} → now_at h ≡ Some c
    → length (stored t) < 16 → l ≡ limits_at h → q ≡ prev_at h → p ≡ prev_after q c → Leaves (drained l (roomy (stored t)) (Some c)) t t' r → Idles h h' p
    → Says (framed kind 0 (tail_bytes (tail_in r))) before len after → Drained h t kind before len h' t' after
drained_now_lem h t c {kind = kind} {l} {q} {p} {h'} {t'} {r} en room el eq ep w i s =
    let z = subst (λ (ps : List Picture). Leaves (drained l ps (Some c)) t t' r) (roomy_all (stored t) room) w in
    let y = subst (λ (n : Option Current). Leaves (drained (limits_at h) (stored t) n) t t' r) (sym en) (subst (λ (x : Limits). Leaves (drained x (stored t) (Some c)) t t' r) el z) in
    record {
      says = says_as kind (tail_held y.tail) s;
      pics = y.pics;
      normal = y.normal;
      front = subst (Idles h h') (ep ∙ ap (λ (x : Option Tid0). prev_after x c) eq ∙ ap (λ (n : Option Current). on_now n (prev_at h) (prev_after (prev_at h))) (sym en)) i;
    }

-- ---- a call on the words h beside the store, xs of the sets and t of the store

module _ (h xs t : List ℕ) where
  abbrev m : Memory
  m = memory h xs t

  abbrev v : P.Session
  v = session_in m

  abbrev stuck : Bool
  stuck = is_current (now_at h) && full v

  -- what `is_full` tests
  pub full_is : {l : Limits} {b : Bool} → l ≡ limits_at h → b ≡ leb (min l.capacity 16) (length (stored t)) → b ≡ full v
  unfolding front_in
  full_is e f = f ∙ ap (λ (x : Limits). leb (min x.capacity 16) (length (stored t))) e

  -- not stuck, and so with room for a current picture
  pub room_now : stuck ≡ false → is_current (now_at h) ≡ true → length (stored t) < 16
  room_now e c = spare v (rw c at e)

  -- no picture is current: the session after
  idle_next : (h' t' : List ℕ) {ps : List Picture} {q : Option Tid0} → front_in h' ≡ idle_front (front_in h) q → stored t' ≡ ps → session_in (memory h' xs t') ≡ idle_with v ps q
  unfolding refs_in
  idle_next h' t' {ps} {q} e f = ap (λ (x : Front). session_of x xs t') e ∙ ap (λ (l : List Picture). idle_with v l q) f

  -- configured anew
  abbrev configured_with : Limits → List Picture → P.Session
  configured_with l ps =
      record { configured = true; limits = taken16 l; store = ps; current = None; refs = P.no_refs; prev = None; at_start = v.at_start; ended = v.ended; next = v.next }

  -- the refusals
  module _ {before : List ℕ} where
    pub finish_4 : now_at h ≡ None → Tries (reply_to finish_kind) m (finish_of v) before (Err NoCurrent) m before
    unfolding front_in
    finish_4 e = rejects (finish_idle v e)

    pub finish_9 : (c : Current) → now_at h ≡ Some c → full v ≡ true → Tries (reply_to finish_kind) m (finish_of v) before (Err StoreFull) m before
    unfolding front_in
    finish_9 c e f = rejects (finish_now v c e ∙ finish_full v c f)

    pub drain_9 : stuck ≡ true → Tries (reply_to drain_kind) m (drain_of v) before (Err StoreFull) m before
    unfolding front_in
    drain_9 e = rejects (drain_stuck v e)

    pub configure_2 : (l : Limits) → configure_ranges l ≡ false → Tries (reply_to configure_kind) m (configure_of v l) before (Err BadLimits) m before
    configure_2 l e = rejects (configure_bad v l e)

    pub configure_9 : (l : Limits) → configure_ranges l ≡ true → stuck ≡ true → Tries (reply_to configure_kind) m (configure_of v l) before (Err StoreFull) m before
    unfolding front_in
    configure_9 l b e = rejects (configure_stuck v l b e)

    pub abandon_4 : now_at h ≡ None → Tries (reply_to abandon_kind) m (abandon_of v) before (Err NoCurrent) m before
    unfolding front_in
    abandon_4 e = rejects (abandon_idle v e)

  module _ {before : List ℕ} {len : ℕ} {after : List ℕ} where
    idle_does : (k : ℕ) (x : Moved) (q : Option Tid0) {h' t' : List ℕ} → Idles h h' q → stored t' ≡ x.pics → Says (framed (256 + k) 0 (tail_bytes x.tail)) before len after
        → (NormalForm t → NormalForm t') → Does m (accepted (idle_with v x.pics q) k x.tail) before (accepts len) (memory h' xs t') after
    idle_does k x q {h'} {t'} e f s n = accepted_does (idle_with v x.pics q) k x.tail (idle_next h' t' e.front f) s (λ z. e.words (front_of v) z.front) n refl

    -- finish
    pub finish_does : (c : Current) {l : Limits} {q p : Option Tid0} {h' t' : List ℕ} {r : Store.Moved} → now_at h ≡ Some c → full v ≡ false → l ≡ limits_at h → q ≡ prev_at h → p ≡ prev_after q c
        → Leaves (finished l (roomy (stored t)) c) t t' r → Idles h h' p → Says (framed (reply_to finish_kind) 0 (tail_bytes (tail_in r))) before len after
        → Tries (reply_to finish_kind) m (finish_of v) before (Ok len) (memory h' xs t') after
    unfolding front_in
    finish_does c {l} {q} {p} {h'} {t'} {r} e f el eq ep w i s =
        let z = subst (λ (ps : List Picture). Leaves (finished l ps c) t t' r) (roomy_all (stored t) (spare v f)) w in
        let x = subst (λ (y : Limits). Leaves (finished y (stored t) c) t t' r) el z in
        gives_as (finish_now v c e ∙ finish_room v c f)
        (idle_does 4 (finished (limits_at h) (stored t) c) (prev_after (prev_at h) c) (subst (Idles h h') (ep ∙ ap (λ (y : Option Tid0). prev_after y c) eq) i) x.pics (says_as (reply_to finish_kind) (tail_held x.tail) s) x.normal)

    -- drain
    pub drain_does : {h' t' : List ℕ} → stuck ≡ false → Drained h t (reply_to drain_kind) before len h' t' after → Tries (reply_to drain_kind) m (drain_of v) before (Ok len) (memory h' xs t') after
    unfolding front_in
    drain_does e d =
        gives_as (drain_free v e)
        (idle_does 5 (drained (limits_at h) (stored t) (now_at h)) (on_now (now_at h) (prev_at h) (prev_after (prev_at h))) d.front d.pics d.says d.normal)

    -- configure
    pub configure_does : (l : Limits) (h2 : List ℕ) {n : Limits} {h1 h3 t' : List ℕ} → configure_ranges l ≡ true → stuck ≡ false → Drained h t (reply_to configure_kind) before len h1 t' after → Idles h1 h2 None
        → front_in h3 ≡ configured_front (front_in h2) n → ((f : Front) → h2 ≡ front_words f → h3 ≡ front_words (configured_front f n)) → n ≡ taken16 l → Tries (reply_to configure_kind) m (configure_of v l) before (Ok len) (memory h3 xs t') after
    unfolding front_in refs_in
    configure_does l h2 {n} {t' = t'} b e d i2 i3 w3 en =
        let f = i3 ∙ ap (configured_front (front_in h2)) en ∙ ap (λ (x : Front). configured_front x (taken16 l)) (i2.front ∙ ap (λ (x : Front). idle_front x None) d.front.front) in
        let q = on_now (now_at h) (prev_at h) (prev_after (prev_at h)) in
        let g = idle_front (idle_front (front_of v) q) None in
        gives_as (configure_free v l b e)
        (accepted_does (configured_session v l) 1 (drained_now v).tail (ap (λ (x : Front). session_of x xs t') f ∙ ap (configured_with l) d.pics) d.says
        (λ z. w3 g (i2.words (idle_front (front_of v) q) (d.front.words (front_of v) z.front)) ∙ ap (λ (x : Limits). front_words (configured_front g x)) en) d.normal refl)

    -- discard
    pub discard_does : {x : Option Current} {q : Option Tid0} {h' t' : List ℕ} {r : Store.Moved} → x ≡ now_at h → q ≡ prev_at h → Leaves (discarded (stored t) x) t t' r → Idles h h' q
        → Says (framed (reply_to discard_kind) 0 (tail_bytes (tail_in r))) before len after → Tries (reply_to discard_kind) m (discard_of v) before (Ok len) (memory h' xs t') after
    unfolding front_in
    discard_does {x} {q} {h'} {t'} {r} ex eq w i s =
        let y = subst (λ (n : Option Current). Leaves (discarded (stored t) n) t t' r) ex w in
        gives_as (discard_is v) (idle_does 6 (discarded (stored t) (now_at h)) (prev_at h) (subst (Idles h h') eq i) y.pics (says_as (reply_to discard_kind) (tail_held y.tail) s) y.normal)

    -- end of sequence
    pub end_does : {h' : List ℕ} → front_in h' ≡ ended_front (front_in h) → ((f : Front) → h ≡ front_words f → h' ≡ front_words (ended_front f)) → Says (framed (reply_to end_kind) 0 (tail_bytes quiet)) before len after
        → Tries (reply_to end_kind) m (end_of v) before (Ok len) (memory h' xs t) after
    end_does e w s = gives_as (end_is v) (accepted_does (ended_session v) 7 quiet (ap (λ (x : Front). session_of x xs t) e) s (λ z. w (front_of v) z.front) (λ n. n) refl)

    -- abandon
    pub abandon_does : (c : Current) {q : Option Tid0} {h' : List ℕ} {y : Store.Moved} → now_at h ≡ Some c → q ≡ prev_at h → HoldsTail y (dropped c) → Idles h h' q
        → Says (framed (reply_to abandon_kind) 0 (tail_bytes (tail_in y))) before len after → Tries (reply_to abandon_kind) m (abandon_of v) before (Ok len) (memory h' xs t) after
    unfolding front_in
    abandon_does c {h' = h'} e eq d i s =
        gives_as (abandon_now v c e) (idle_does 8 (record { pics = stored t; tail = dropped c }) (prev_at h) (subst (Idles h h') eq i) refl (says_as (reply_to abandon_kind) (tail_held d) s) (λ n. n))
