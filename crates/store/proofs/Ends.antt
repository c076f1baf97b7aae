-- Whole operations: what each part did, one after the other, is what the definition does; what may still happen has
-- room; and an emptying throws nothing away, for none waits any more when the rest leaves. Assumes nothing.
use mathlib.Core.Path.{◌≡◌, refl, sym, ap, ap₂, ◌∙◌, subst}
use mathlib.Core.Bool.{Bool, true, false}
use mathlib.Core.List.{List, [], ◌∷◌, ◌++◌, append-nil, append_assoc, map}
use Prim.Native.Nat.{ℕ, ◌+◌, ◌≤◌, ◌<◌, min}
use native.Mathlib.Omega.{arith}
use lib.ListN.{length, set, length-append}
use Rattle.derivation.specs.Pad.{Padded}
use Rattle.derivation.proofs.Pad.{is_view, is_good, is_push}
use Rattle.paper.proofs.Bools.{split}
use Rattle.paper.proofs.Fits.{table_length}
use Rattle.paper.proofs.Quiet.{waitings, few_wait, while_throws, emptied_throws}
use Rattle.paper.proofs.Sizes.{shrinks_while, shrinks_removed, shrinks_emptied}
use Rattle.paper.specs.Words.{keep, table}
use Rattle.paper.specs.Output.{still, and_then, in_use, hand_while, due, cleared, emptied, removed, before_decoding}
use Rattle.paper.specs.Output as Output
use Rattle.paper.specs.Calls.{stored, drained, dropped, discarded}
use Rattle.paper.specs.declared.Shown.{Shown}
use Rattle.paper.specs.declared.Serial.{Serial}
use Rattle.paper.specs.declared.Surface.{Surface}
use Rattle.paper.specs.declared.Picture.{Picture}
use Rattle.paper.specs.declared.Limits.{Limits}
use Rattle.paper.specs.declared.Current.{Current}
use Rattle.store.specs.Walks.{serial_of, surface_of}
use Rattle.store.specs.Places.{place_at, front}
use Rattle.store.specs.Tails.{Handed, Thrown, Released, HoldsHanded, HoldsThrown, HoldsReleased, GoodReleased, released_in, HoldsTail, GoodTail, HoldsMoved, GoodMoved, HoldsParts, started_in, moved_by, waits, unused, Releases, Throws, Follows}
use Rattle.store.specs.Bumps.{Scans, due_now, turns_by}
use Rattle.store.specs.declared.Moved.{Moved}
use Rattle.store.specs.declared.bumping.Scan.{Scan}
use Rattle.store.specs.declared.bumping.Rule.TheVariants.{All, Due}
use Rattle.store.proofs.Moves.{moves, then_still, then_same}
use Rattle.store.proofs.Rounds.{turns_none}
use Rattle.std.proofs.Common.{None, Some}

-- ---- a store and what has gone of it

pub holds_parts : {x : Moved} {ps : List Picture} {n : ℕ} {h : Handed} {t : Thrown} {r : Released} {hs : List Shown} {ts : List Serial} {rs : List Surface} → HoldsParts x ps n h t r
    → n ≤ 16 → HoldsHanded h hs → HoldsThrown t ts → HoldsReleased r rs → HoldsMoved x (record { pics = front ps n; tail = record { handed = hs; thrown = ts; released = rs } })
holds_parts p le a b c =
    record {
      pics = ap₂ front p.places p.len;
      few = rw p.len le;
      tail = record { handed = rw (p.handed, p.shown) a; thrown = rw (p.thrown, p.dropped) b; released = rw (p.released, p.freed) c };
    }

-- what holds anything holds its own lists
pub tail_good : {x : Moved} {y : Output.Tail} → HoldsTail x y → GoodTail x
tail_good a = record { handed = is_good a.handed; thrown = is_good a.thrown; released = is_good a.released }

pub moved_good : {x : Moved} {o : Output.Moved} → HoldsMoved x o → GoodMoved x
moved_good h = record { pics = refl; few = h.few; tail = tail_good h.tail }

-- and those are what it holds
pub moved_is : {x : Moved} {o : Output.Moved} → HoldsMoved x o → moved_by x ≡ o
moved_is h = moves h.pics (is_view h.tail.handed) (is_view h.tail.thrown) (is_view h.tail.released)

-- and what is done then is done to them
pub holds_then : (f : List Picture → Output.Moved) {m r : Moved} {o n : Output.Moved} → HoldsMoved m o → n ≡ and_then o f → HoldsMoved r (and_then (moved_by m) f) → HoldsMoved r n
holds_then f {m} {r} h e k = subst (HoldsMoved r) (ap (λ (q : Output.Moved). and_then q f) (moved_is h) ∙ sym e) k

-- where nothing has gone yet
pub first_still : (ps : List Picture) (n : ℕ) (x : Released) → HoldsReleased x [] → started_in ps n x ≡ still (front ps n)
first_still ps n x b = moves refl refl refl (is_view b)

-- ---- those that wait are thrown away, and all are released

pub throws_holds : {m r : Moved} {o : Output.Moved} → HoldsMoved m o → Throws m r
    → HoldsMoved r (record { pics = o.pics; tail = record { handed = o.tail.handed; thrown = o.tail.thrown ++ map serial_of (keep waits o.pics); released = o.tail.released } })
throws_holds {m} {r} h t =
    subst (λ (q : Output.Moved). HoldsMoved r (record { pics = q.pics; tail = record { handed = q.tail.handed; thrown = q.tail.thrown ++ map serial_of (keep waits q.pics); released = q.tail.released } }))
    (moved_is h) (record { pics = ap₂ front t.places t.len; few = rw t.len h.few; tail = t.tail })

pub releases_holds : {m r : Moved} {o : Output.Moved} → HoldsMoved m o → Releases m r
    → HoldsMoved r (record { pics = []; tail = record { handed = o.tail.handed; thrown = o.tail.thrown; released = o.tail.released ++ map surface_of o.pics } })
unfolding table
releases_holds {m} {r} h t =
    subst (λ (q : Output.Moved). HoldsMoved r (record { pics = []; tail = record { handed = q.tail.handed; thrown = q.tail.thrown; released = q.tail.released ++ map surface_of q.pics } }))
    (moved_is h) (record { pics = ap (front r.places) t.len; few = rw t.len (omega arith); tail = t.tail })

pub clears : {m t r : Moved} {o : Output.Moved} → HoldsMoved m o → Throws m t → Releases t r → HoldsMoved r (and_then o cleared)
unfolding cleared
clears {m} {t} {r} {o} h a b =
    subst (HoldsMoved r) (moves refl (sym (append-nil o.tail.handed)) refl refl) (releases_holds (throws_holds h a) b)

-- ---- pictures handed out

-- as many are stored as it holds
moved_length : {x : Moved} {o : Output.Moved} → HoldsMoved x o → x.len ≡ length o.pics
moved_length {x} h = omega (arith, table_length (place_at x.places) x.len, ap length h.pics)

-- the current picture is stored, and pictures are handed out
pub finishes : (l : Limits) (ps : List Picture) (n : ℕ) (qs : List Picture) (x : Released) → HoldsReleased x [] → front ps n ≡ qs → and_then (started_in ps n x) (turns_by (Due l false)) ≡ hand_while (due false l) qs
unfolding hand_while turns_by
finishes l ps n qs x b e = ap (λ (m : Output.Moved). and_then m (turns_by (Due l false))) (first_still ps n x b) ∙ ap (turns_by (Due l false)) e

-- ---- emptying

front_none : {A : Type 0} (a b : List A) → a ++ b ≡ [] → a ≡ []
front_none [] b e = refl
front_none (x ∷ a) b e = absurd (let z : ◌≡◌ {A = ℕ} 0 1 = cc in omega arith)

-- all were handed out that wait, and those that are left leave
pub empties : (ps : List Picture) (n : ℕ) (x : Released) {t r : Moved} → HoldsMoved t (and_then (started_in ps n x) (turns_by All)) → Releases t r → HoldsMoved r (and_then (started_in ps n x) emptied)
unfolding turns_by emptied cleared
empties ps n x {t} {r} h k =
    let m = turns_by All (front ps n) in
    let none = emptied_throws (front ps n) in
    subst (HoldsMoved r)
    (moves refl (sym (append-nil m.tail.handed)) (front_none m.tail.thrown _ none ∙ sym none) (append_assoc (released_in x) m.tail.released (map surface_of m.pics)))
    (releases_holds h k)

-- of a store of which nothing has gone
pub empties_still : (ps : List Picture) (n : ℕ) (x : Released) {r : Moved} → HoldsReleased x [] → HoldsMoved r (and_then (started_in ps n x) emptied) → HoldsMoved r (emptied (front ps n))
empties_still ps n x {r} b h = subst (λ (m : Output.Moved). HoldsMoved r (and_then m emptied)) (first_still ps n x b) h

-- of what a finished picture has left: the surfaces released so far
abbrev pub freed_by : Moved → Released
freed_by y = record { items = y.released; len = y.freed }

module _ (l : Limits) (ps : List Picture) (n : ℕ) (c : Current) {m : Moved} (h : HoldsMoved m (hand_while (due false l) (front ps (min n 15) ++ (stored c ∷ [])))) where
  abbrev qs : List Picture
  qs = front ps (min n 15) ++ (stored c ∷ [])

  few : length qs ≤ 16
  few = omega (arith, length-append (front ps (min n 15)) (stored c ∷ []), table_length (place_at ps) (min n 15))

  pub rest_room : GoodReleased (freed_by m) × (m.len ≤ 16) × (m.freed + m.len ≤ 17)
  rest_room = (is_good h.tail.released, h.few, omega (arith, h.tail.released.long, moved_length h, (shrinks_while (due false l) qs).frees, few))

  module _ {y : Moved} (k : HoldsMoved y (and_then (started_in m.places m.len (freed_by m)) emptied)) where
    -- what was handed out before has room in front of what the emptying hands out
    pub after_room : GoodMoved m × GoodMoved y × (m.shown + y.shown ≤ 16)
    after_room =
        let w = ap (λ (l : List Picture). length (waitings l)) h.pics in
        (moved_good h, moved_good k, omega (arith, h.tail.handed.long, k.tail.handed.long, (shrinks_while (due false l) qs).shows, (shrinks_emptied (front m.places m.len)).shows, few_wait qs, w, few))

    -- and the two are what happened
    pub drains : {r : Moved} → Follows m y r → HoldsMoved r (and_then (hand_while (due false l) qs) emptied)
    drains {r} g =
        let e = ap emptied h.pics in
        record {
          pics = ap₂ front g.places g.len ∙ k.pics ∙ ap (λ (q : Output.Moved). q.pics) e;
          few = rw g.len k.few;
          tail = record {
            handed = rw (is_view h.tail.handed, is_view k.tail.handed, e) at g.tail.handed;
            thrown = rw (while_throws (due false l) qs) (rw (is_view k.tail.thrown, e) at g.tail.thrown);
            released = rw (is_view k.tail.released, is_view h.tail.released, e) at g.tail.released;
          };
        }

-- ---- room before a picture

-- the unused were released and left
module _ (ps : List Picture) (n : ℕ) (qs : List Picture) (k : ℕ) {x : Released} (f : HoldsReleased x (map surface_of (keep (unused false) (front ps n)))) (e : front qs k ≡ keep in_use (front ps n)) where
  pub removes_room : n ≤ 16 → x.len + k ≤ 17
  unfolding removed
  removes_room le = omega (arith, table_length (place_at ps) n, table_length (place_at qs) k, (shrinks_removed (front ps n)).frees, f.long, ap length e)

  removes : started_in qs k x ≡ removed (front ps n)
  unfolding removed
  removes = moves e refl refl (is_view f)

  -- others are handed out
  pub makes_room : (l : Limits) → and_then (started_in qs k x) (turns_by (Due l true)) ≡ and_then (removed (front ps n)) (hand_while (due true l))
  unfolding hand_while turns_by
  makes_room l = ap (λ (m : Output.Moved). and_then m (turns_by (Due l true))) removes

  -- or none is due
  pub keeps_room : (l : Limits) {c : Scan} → Scans qs k l.latency c → due_now (Due l true) c k ≡ false → started_in qs k x ≡ and_then (removed (front ps n)) (hand_while (due true l))
  keeps_room l s d =
      let m = started_in qs k x in
      sym (then_still m) ∙ then_same m still (turns_by (Due l true)) (sym (turns_none (Due l true) s d)) ∙ makes_room l

-- where nothing has gone, there is room
pub empty_room : {x : Released} {n : ℕ} → HoldsReleased x [] → n ≤ 16 → GoodReleased x × (n ≤ 16) × (x.len + n ≤ 17)
empty_room b le = (is_good b, le, omega (arith, b.long))

pub clear_room : {m : Moved} {o : Output.Moved} → HoldsMoved m o → length o.tail.thrown ≤ 1 → length o.tail.released ≤ 1 → GoodMoved m × (m.dropped ≤ 1) × (m.freed ≤ 1)
clear_room h t r = (moved_good h, omega (arith, h.tail.thrown.long), omega (arith, h.tail.released.long))

-- ---- a current picture dropped

-- one element where there was none
pub first_one : {A : Type 0} {n : ℕ} {d : A} {a : List A} {m : ℕ} (x : A) → 0 < n → Padded n d a m [] → Padded n d (set a 0 x) 1 (x ∷ [])
first_one {A} {n} {d} {a} x lt h = let e = h.long in subst (λ (k : ℕ). Padded n d (set a k x) (k + 1) (x ∷ [])) e (is_push h x (omega arith))

-- at most one is thrown away
pub drops_one : (c : Current) → length (dropped c).thrown ≤ 1
drops_one c = split c.output (λ e. rw e (omega arith)) (λ e. rw e (omega arith))

-- ---- the definitions, case by case

module _ (ps : List Picture) where
  pub discard_idle : discarded ps None ≡ and_then (still ps) cleared
  unfolding discarded cleared
  discard_idle = refl

  pub discard_is : (c : Current) → discarded ps (Some c) ≡ and_then (record { pics = ps; tail = dropped c }) cleared
  unfolding discarded cleared
  discard_is c = refl

  module _ (l : Limits) where
    pub drain_idle : drained l ps None ≡ emptied ps
    unfolding drained
    drain_idle = refl

  module _ (l : Limits) (b c : Bool) where
    pub then_clear : b ≡ true → c ≡ true → before_decoding b c l ps ≡ and_then (still ps) cleared
    unfolding before_decoding
    then_clear p q = rw (p, q)

    pub then_empty : b ≡ true → c ≡ false → before_decoding b c l ps ≡ emptied ps
    unfolding before_decoding
    then_empty p q = rw (p, q)

    pub then_remove : b ≡ false → before_decoding b c l ps ≡ and_then (removed ps) (hand_while (due true l))
    unfolding before_decoding
    then_remove p = rw p
