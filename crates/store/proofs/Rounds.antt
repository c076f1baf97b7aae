-- A round: one picture handed out is one turn of the definition on the pictures themselves, and where none is due or
-- none waits the turns that are left do nothing. Assumes nothing.
use mathlib.Core.Path.{◌≡◌, refl, sym, ap, ◌∙◌, subst}
use mathlib.Core.Bool.{Bool, true, false, cond, not, ◌&&◌, ◌||◌, or-false}
use mathlib.Core.List.{List, [], ◌∷◌, ◌++◌, append-nil}
use Prim.Native.Nat.{ℕ, ◌+◌, ◌-◌, ◌≤◌, ◌<◌}
use native.Mathlib.Omega.{arith}
use lib.Dec.{eqb, ltb}
use lib.ListN.{length, length-append}
use lib.IntN.{ℤ}
use borrow.Author.Tests.{ltb-false}
use Rattle.derivation.proofs.Pad.{is_view, is_push}
use Rattle.paper.proofs.Bools.{split, not_both, neither, and_sub, by_case}
use Rattle.paper.proofs.Firsts.{any_drop, any_change, lowest_first}
use Rattle.paper.proofs.Fits.{table_length}
use Rattle.paper.proofs.Quiet.{waitings, few_wait, one_fewer}
use Rattle.paper.proofs.Sizes.{Shrinks, shrinks_hand, shrinks_still, shrinks_turns}
use Rattle.paper.specs.Words.{keep, any_b}
use Rattle.paper.specs.State.{is_marked}
use Rattle.paper.specs.Output.{Moved, still, and_then, turns, lowest, is_it, quieted, hand_out, shown, due, due_late, due_full}
use Rattle.paper.specs.declared.Shown.{Shown}
use Rattle.paper.specs.declared.Surface.{Surface}
use Rattle.paper.specs.declared.Picture.{Picture}
use Rattle.paper.specs.declared.Limits.{Limits}
use Rattle.store.specs.Places.{place_at, front}
use Rattle.store.specs.Tails.{pushed, Handed, Thrown, Released, HoldsHanded, HoldsThrown, HoldsReleased, GoodReleased, HoldsMoved, HoldsParts, handed_in, released_in, moved_in, started_in, waits, Gathers}
use Rattle.store.specs.Walks.{late_by}
use Rattle.store.specs.Bumps.{Scans, due_by, due_scan, due_now, always_by, latency_by, turn_by, turns_by, hands_out}
use Rattle.store.specs.declared.Moved as Store
use Rattle.store.specs.OneWalk.{lowest_at}
use Rattle.std.proofs.Common.{None}
use Rattle.store.specs.declared.bumping.Scan.{Scan}
use Rattle.store.specs.declared.bumping.Rule.{Rule}
use Rattle.store.specs.declared.bumping.Rule.TheVariants.{All, Due}
use Rattle.store.proofs.Moves.{moves, turn_first, turn_more, turn_stuck, turn_last}
use Rattle.store.proofs.Scans.{found_in, scan_found, scan_the, scan_waits, scan_at}
use Rattle.std.proofs.Common.{Option, None, Some}

-- ---- what the places and the tail so far hold

gathers_is : {ps : List Picture} {n : ℕ} {h : Handed} {x : Released} {m : Moved} → Gathers ps n h x m → m ≡ moved_in ps n h x
gathers_is g = moves (sym g.pics) (sym (is_view g.handed)) g.thrown (sym (is_view g.released))

gathers_good : {ps : List Picture} {n : ℕ} {h : Handed} {x : Released} {m : Moved} → Gathers ps n h x m → Gathers ps n h x (moved_in ps n h x)
gathers_good {ps} {n} {h} {x} g = subst (Gathers ps n h x) (gathers_is g) g

-- where none is handed out yet
pub starts : (ps : List Picture) (n : ℕ) (h : Handed) (x : Released) → HoldsHanded h [] → GoodReleased x → n ≤ 16 → x.len + n ≤ 17 → Gathers ps n h x (started_in ps n x)
unfolding waitings
starts ps n h x a b le room =
    let e = table_length (place_at ps) n in
    let w : length (keep waits (front ps n)) ≤ length (front ps n) = few_wait (front ps n) in
    record { pics = refl; handed = a; thrown = refl; released = b; places = le; shows = omega arith; frees = omega (arith, b.long) }

-- the parts made into one
pub parts_moved : {ps : List Picture} {n : ℕ} {h : Handed} {t : Thrown} {x : Released} {r : Store.Moved} {m : Moved} → HoldsParts r ps n h t x → front ps n ≡ m.pics → n ≤ 16
    → HoldsHanded h m.tail.handed → HoldsThrown t m.tail.thrown → HoldsReleased x m.tail.released → HoldsMoved r m
parts_moved p e le a y b =
    record {
      pics = rw (p.places, p.len) e;
      few = rw p.len le;
      tail = record { handed = rw (p.handed, p.shown) a; thrown = rw (p.thrown, p.dropped) y; released = rw (p.released, p.freed) b };
    }

pub gathers_moved : {ps : List Picture} {n : ℕ} {h : Handed} {t : Thrown} {x : Released} {m : Moved} {r : Store.Moved} → Gathers ps n h x m → HoldsThrown t [] → HoldsParts r ps n h t x → HoldsMoved r m
gathers_moved g y p = parts_moved p g.pics g.places g.handed (rw g.thrown y) g.released

-- ---- a turn, by what a walk over the pictures found

-- what is known without another walk: how many wait, and that one is late only if it was so
pub record Counts (ps : List Picture) (n latency : ℕ) (c : Scan) : Type 0 where
  pub waiting : c.waiting ≡ length (keep waits (front ps n))
  pub late : any_b (late_by latency) (front ps n) ≡ true → c.late ≡ true

pub scan_counts : {ps : List Picture} {n latency : ℕ} {c : Scan} → Scans ps n latency c → Counts ps n latency c
scan_counts s = record { waiting = s.waiting; late = λ h. s.late ∙ h }

-- where none waits
hand_none : (qs : List Picture) → lowest None qs ≡ None → (b : Bool) → hand_out b qs ≡ still qs
unfolding hand_out
hand_none qs e b = rw e

turn_nothing : (qs : List Picture) → lowest None qs ≡ None → (r : Rule) → turn_by r qs ≡ still qs
turn_nothing qs e All = hand_none qs e true
turn_nothing qs e (Due l b) = by_case (λ (m : Moved). m ≡ still qs) (due b l qs) _ _ (λ _. hand_none qs e false) (λ _. refl)

none_found : (qs : List Picture) → length (waitings qs) ≡ 0 → lowest None qs ≡ None
none_found qs z = go (lowest None qs) refl
  where
    go : (x : Option Picture) → lowest None qs ≡ x → x ≡ None
    go None e = refl
    go (Some p) e = absurd (omega (arith, one_fewer true p qs (lowest_first qs p e)))

module _ {ps : List Picture} {n : ℕ} {c : Scan} where
  -- the test of due, on the walk and on the pictures
  due_is : (l : Limits) (b : Bool) → Scans ps n l.latency c → due_scan (Due l b) c n ≡ due b l (front ps n)
  unfolding due_late due_full
  due_is l true s = rw (s.waiting, s.late, table_length (place_at ps) n)
  due_is l false s = rw (s.waiting, s.late) (or-false _)

  -- where it does not hold, none is due
  not_late : (l : Limits) → Counts ps n l.latency c → due_by l c.waiting c.late ≡ false → due_late l (front ps n) ≡ false
  unfolding due_late
  not_late l k d =
      let qs = front ps n in
      let o = neither (ltb l.reorder c.waiting) _ d in
      let w : ltb l.reorder (length (keep waits qs)) ≡ false = rw k.waiting at o.0 in
      let y : (not (eqb l.latency 0) && any_b (late_by l.latency) qs) ≡ false = and_sub (not (eqb l.latency 0)) c.late (any_b (late_by l.latency) qs) k.late o.1 in
      rw (w, y)

  not_due : (l : Limits) (b : Bool) → Counts ps n l.latency c → due_scan (Due l b) c n ≡ false → due b l (front ps n) ≡ false
  unfolding due_full
  not_due l true k d =
      let o = neither (due_by l c.waiting c.late) _ d in
      rw (not_late l k o.0, table_length (place_at ps) n) o.1
  not_due l false k d = not_late l k (neither (due_by l c.waiting c.late) _ d).0

  turn_idle : (r : Rule) → Counts ps n (latency_by r) c → due_scan r c n ≡ false → turn_by r (front ps n) ≡ still (front ps n)
  turn_idle All k d = not_both true refl d
  turn_idle (Due l b) k d = rw (not_due l b k d)

  -- so a turn does nothing, and no more turns do
  turn_none : (r : Rule) → Counts ps n (latency_by r) c → due_now r c n ≡ false → turn_by r (front ps n) ≡ still (front ps n)
  unfolding waitings
  turn_none r k d =
      split (ltb 0 c.waiting)
      (λ w. turn_idle r k (rw w at d))
      (λ w. turn_nothing (front ps n) (none_found (front ps n) (omega (arith, ltb-false 0 c.waiting w, k.waiting))) r)

  pub turns_none : (r : Rule) → Scans ps n (latency_by r) c → due_now r c n ≡ false → turns_by r (front ps n) ≡ still (front ps n)
  unfolding turns_by
  turns_none r s d =
      let qs = front ps n in
      let k = length qs in
      sym (turn_stuck (still qs) (turn_by r) k 0 (turns k (turn_by r) qs) (turn_first (still qs) (turn_by r) k) (turn_none r (scan_counts s) d))

  -- else it hands out the lowest
  module _ {at : ℕ} {z : ℤ} (e : c.lowest ≡ lowest_at at z) where
    hand_one : {latency : ℕ} → Scans ps n latency c → (b : Bool) → hand_out b (front ps n) ≡ hands_out (b || not (is_marked (place_at ps at).mark)) (place_at ps at) (front ps n)
    unfolding hand_out
    hand_one s b = rw (scan_the s e)

    turn_one : (r : Rule) → Scans ps n (latency_by r) c → due_scan r c n ≡ true → turn_by r (front ps n) ≡ hands_out (always_by r || not (is_marked (place_at ps at).mark)) (place_at ps at) (front ps n)
    turn_one All s d = hand_one s true
    turn_one (Due l b) s d = rw (sym (due_is l b s) ∙ d) (hand_one s false)

-- ---- what a turn tells, leaves and frees

hands_shows : (b : Bool) (p : Picture) (ps : List Picture) → (hands_out b p ps).tail.handed ≡ shown p ∷ []
hands_shows true p ps = refl
hands_shows false p ps = refl

hands_throws : (b : Bool) (p : Picture) (ps : List Picture) → (hands_out b p ps).tail.thrown ≡ []
hands_throws true p ps = refl
hands_throws false p ps = refl

-- its surface, if it leaves
abbrev pub freed : Bool → Picture → List Surface
freed b p = cond b (p.surface ∷ []) []

hands_frees : (b : Bool) (p : Picture) (ps : List Picture) → (hands_out b p ps).tail.released ≡ freed b p
hands_frees true p ps = refl
hands_frees false p ps = refl

-- none is late that was not
hands_late : (latency : ℕ) (b : Bool) (p : Picture) (ps : List Picture) → any_b (late_by latency) (hands_out b p ps).pics ≡ true → any_b (late_by latency) ps ≡ true
hands_late latency true p ps h = any_drop (late_by latency) (is_it p) ps h
hands_late latency false p ps h = any_change (late_by latency) (is_it p) quieted (λ q e. not_both false e refl) ps h

shrinks_turn : (r : Rule) (ps : List Picture) → Shrinks ps (turn_by r ps)
shrinks_turn All ps = shrinks_hand true ps
shrinks_turn (Due l b) ps = by_case (Shrinks ps) (due b l ps) (hand_out false ps) (still ps) (λ _. shrinks_hand false ps) (λ _. shrinks_still ps)

-- one more in a part of the tail
abbrev pub handed_more : Handed → Shown → Handed
handed_more = pushed

abbrev pub released_more : Released → Surface → Released
released_more = pushed

-- ---- a round: after i turns of n

pub record Turned (rule : Rule) (ps₀ : List Picture) (n : ℕ) (x₀ : Released) (i : ℕ) (ps : List Picture) (k : ℕ) (h : Handed) (x : Released) : Type 0 where
  pub gathers : Gathers ps k h x (moved_in ps k h x)
  pub moved : and_then (moved_in ps k h x) (turns (n - i) (turn_by rule)) ≡ and_then (started_in ps₀ n x₀) (turns n (turn_by rule))
  pub turned : i ≤ n

pub turned_none : (rule : Rule) (ps : List Picture) (n : ℕ) (h : Handed) (x : Released) → Gathers ps n h x (started_in ps n x) → Turned rule ps n x 0 ps n h x
turned_none rule ps n h x g =
    record {
      gathers = gathers_good g;
      moved = turn_first (moved_in ps n h x) (turn_by rule) n ∙ ap (λ (m : Moved). and_then m (turns n (turn_by rule))) (sym (gathers_is g));
      turned = omega arith;
    }

module _ {rule : Rule} {ps₀ : List Picture} {n : ℕ} {x₀ : Released} {i : ℕ} {ps : List Picture} {k : ℕ} {h : Handed} {x : Released} (g : Turned rule ps₀ n x₀ i ps k h x) where
  -- the last turn
  rounds : moved_in ps k h x ≡ and_then (started_in ps₀ n x₀) (turns n (turn_by rule)) → Gathers ps k h x (and_then (started_in ps₀ n x₀) (turns_by rule))
  unfolding turns_by
  rounds q =
      subst (Gathers ps k h x) (q ∙ ap (λ (j : ℕ). and_then (started_in ps₀ n x₀) (turns j (turn_by rule))) (sym (table_length (place_at ps₀) n))) g.gathers

  pub turned_all : n ≤ i → Gathers ps k h x (and_then (started_in ps₀ n x₀) (turns_by rule))
  turned_all le = rounds (turn_last (moved_in ps k h x) (turn_by rule) n i _ g.moved le)

  turned_stuck : turn_by rule (front ps k) ≡ still (front ps k) → Gathers ps k h x (and_then (started_in ps₀ n x₀) (turns_by rule))
  turned_stuck e = rounds (turn_stuck (moved_in ps k h x) (turn_by rule) n i _ g.moved e)

  pub turned_done : {c : Scan} → Counts ps k (latency_by rule) c → due_now rule c k ≡ false → Gathers ps k h x (and_then (started_in ps₀ n x₀) (turns_by rule))
  turned_done y d = turned_stuck (turn_none rule y d)

  module _ {c : Scan} (s : Scans ps k (latency_by rule) c) where
    pub turned_nothing : c.lowest ≡ None → Gathers ps k h x (and_then (started_in ps₀ n x₀) (turns_by rule))
    turned_nothing e = turned_stuck (turn_nothing (front ps k) (scan_found s ∙ ap (found_in ps) e) rule)

    pub turned_idle : due_scan rule c k ≡ false → Gathers ps k h x (and_then (started_in ps₀ n x₀) (turns_by rule))
    turned_idle d = turned_stuck (turn_idle rule (scan_counts s) d)

    -- one is found: its place, and room for it in both parts of the tail
    module _ {at : ℕ} {z : ℤ} (e : c.lowest ≡ lowest_at at z) where
      pub found_at : at < 16
      found_at = omega (arith, scan_at s e, g.gathers.places)

      pub found_handed : h.len < 16
      found_handed = omega (arith, scan_waits s e, s.waiting, g.gathers.shows, g.gathers.handed.long)

      pub found_released : x.len < 17
      found_released = omega (arith, scan_at s e, table_length (place_at ps) k, g.gathers.frees, g.gathers.released.long)

      -- its surface is released if it leaves
      pub released_left : {b : Bool} → b ≡ true → HoldsReleased (released_more x (place_at ps at).surface) (released_in x ++ freed b (place_at ps at))
      released_left w = rw w (is_push g.gathers.released (place_at ps at).surface found_released)

      pub released_stay : {b : Bool} → b ≡ false → HoldsReleased x (released_in x ++ freed b (place_at ps at))
      released_stay w = rw (w, append-nil (released_in x)) g.gathers.released

      -- after the turn
      module _ (d : due_scan rule c k ≡ true) {b : Bool} (w : b ≡ (always_by rule || not (is_marked (place_at ps at).mark))) (ps' : List Picture) (k' : ℕ) (few : k' ≤ k)
          (left : front ps' k' ≡ (hands_out b (place_at ps at) (front ps k)).pics) {x' : Released} (o : HoldsReleased x' (released_in x ++ freed b (place_at ps at))) where
        next : turn_by rule (front ps k) ≡ hands_out b (place_at ps at) (front ps k)
        next = turn_one e rule s d ∙ ap (λ (a : Bool). hands_out a (place_at ps at) (front ps k)) (sym w)

        more : Gathers ps' k' (handed_more h (shown (place_at ps at))) x' (and_then (moved_in ps k h x) (turn_by rule))
        unfolding waitings
        more =
            let qs = front ps k in
            let p = place_at ps at in
            let y = shrinks_turn rule qs in
            let hs : (turn_by rule qs).tail.handed ≡ shown p ∷ [] = ap (λ (m : Moved). m.tail.handed) next ∙ hands_shows b p qs in
            let fs : (turn_by rule qs).tail.released ≡ freed b p = ap (λ (m : Moved). m.tail.released) next ∙ hands_frees b p qs in
            record {
              pics = left ∙ sym (ap (λ (m : Moved). m.pics) next);
              handed = rw hs (is_push g.gathers.handed (shown p) found_handed);
              thrown = ap (λ (m : Moved). m.tail.thrown) next ∙ hands_throws b p qs;
              released = rw fs o;
              places = omega (arith, few, g.gathers.places);
              shows = omega (arith, y.shows, g.gathers.shows, length-append (handed_in h) (turn_by rule qs).tail.handed);
              frees = omega (arith, y.frees, g.gathers.frees, length-append (released_in x) (turn_by rule qs).tail.released);
            }

        pub turned_more : i < n → Turned rule ps₀ n x₀ (i + 1) ps' k' (handed_more h (shown (place_at ps at))) x'
        turned_more lt =
            record {
              gathers = gathers_good more;
              moved = turn_more (moved_in ps k h x) (turn_by rule) n i _ g.moved (moved_in ps' k' (handed_more h (shown (place_at ps at))) x') (sym (gathers_is more)) lt;
              turned = omega arith;
            }

        -- one fewer waits
        pub turned_counts : Counts ps' k' (latency_by rule) (record { waiting = c.waiting - 1; late = c.late; lowest = c.lowest })
        unfolding waitings
        turned_counts =
            let qs = front ps k in
            let p = place_at ps at in
            let f = one_fewer b p qs (lowest_first qs p (scan_the s e)) in
            record {
              waiting = rw left (omega (arith, f, s.waiting));
              late = λ y. s.late ∙ hands_late (latency_by rule) b p qs (rw left at y);
            }

-- ---- after a round

-- what is left may still be released and handed out
pub moved_room : (rule : Rule) (ps : List Picture) (n : ℕ) (x : Released) {r : Store.Moved} → HoldsMoved r (and_then (started_in ps n x) (turns_by rule)) → GoodReleased x → n ≤ 16 → x.len + n ≤ 17
    → (r.freed + r.len ≤ 17) × (r.shown + length (keep waits (front r.places r.len)) ≤ 16)
unfolding waitings turns_by
moved_room rule ps n x {r} m b le room =
    let qs = front ps n in
    let y = shrinks_turns (turn_by rule) (shrinks_turn rule) (length qs) qs in
    let q = turns (length qs) (turn_by rule) qs in
    let l = ap length m.pics in
    let k = ap (λ (l : List Picture). length (keep waits l)) m.pics in
    let w : length (keep waits qs) ≤ length qs = few_wait qs in (
      omega (arith, y.frees, l, table_length (place_at r.places) r.len, table_length (place_at ps) n, m.tail.released.long, length-append (released_in x) q.tail.released, b.long),
      omega (arith, y.shows, k, table_length (place_at ps) n, m.tail.handed.long),
    )
