-- What happened so far and the turns that are left are all the turns; a turn in which none is due or none waits is the
-- last.
use Prim.Native.Nat.{ℕ, ◌+◌, ◌-◌, ◌≤◌, ◌<◌}
use mathlib.Core.Path.{◌≡◌, sym, ◌∙◌}
use mathlib.Core.Bool.{Bool, true, false, not, ◌||◌}
use mathlib.Core.List.{List, ◌++◌}
use native.Mathlib.Omega.{arith}
use lib.ListN.{length, set, length-set}
use lib.IntN.{ℤ}
use borrow.Author.Rules.{rules}
use Rattle.paper.specs.Output.{and_then, quieted, shown}
use Rattle.paper.specs.State.{is_marked}
use Rattle.paper.specs.declared.Picture.{Picture}
use Rattle.paper.specs.declared.Shown.{Shown}
use Rattle.store.specs.Places.{place_at, front, without_at}
use Rattle.store.specs.Tails.{Handed, Released, HoldsReleased, released_in, started_in, Gathers}
use Rattle.store.specs.Bumps.{Scans, due_scan, latency_by, turns_by, hands_out, always_by}
use Rattle.store.specs.OneWalk.{one_walk}
use Rattle.store.specs.declared.bumping.Rule.{Rule}
use Rattle.store.specs.OneWalk.{lowest_at}
use Rattle.store.specs.declared.bumping.Scan.{Scan}
use Rattle.store.proofs.Scans.{scan_waits, scan_at}
use Rattle.store.proofs.Taken.{taken_leaves, taken_stays}
use Rattle.store.proofs.Rounds.{starts, gathers_moved, freed, Counts, Turned, turned_none, turned_all, turned_done, turned_nothing, turned_idle, found_at, found_handed, found_released, handed_more, released_more, released_left, released_stay, turned_more, turned_counts}
use Rattle.store.proofs.bumping.bump_as_needed.Goals as goal
use Rattle.store.proofs.bumping.bump_as_needed.Goals.{else-loop-test, then-loop-test+in_default, then-loop-test+in-Some+then-not-needs_bumping, then-loop-test+in-Some+else-not-needs_bumping+then-not-is_due, then-leaves, else-leaves}

-- what a turn leaves in the places, and releases
record Left (ps ps' : List Picture) (k k' : ℕ) (x x' : Released) (leaves : Bool) (p : Picture) : Type 0 where
  long : length ps' ≡ 16
  few : k' ≤ k
  pics : front ps' k' ≡ (hands_out leaves p (front ps k)).pics
  released : HoldsReleased x' (released_in x ++ freed leaves p)

-- one is due, at a place
module _ {rule : Rule} {ps₀ : List Picture} {n i : ℕ} {x₀ : Released} {ps : List Picture} {k : ℕ} {h : Handed} {x : Released} {c : Scan}
    (l : length ps ≡ 16) (g : Turned rule ps₀ n x₀ i ps k h x) (s : Scans ps k (latency_by rule) c) {at : ℕ} {z : ℤ} (e : c.lowest ≡ lowest_at at z) where
  one : one_walk (front ps k) ≡ lowest_at at z
  one = sym s.lowest ∙ e

  leaves_it : {b : Bool} → b ≡ true → {ps' : List Picture} {k' : ℕ} {x' : Released} (r : List Picture) → length r ≡ 16
      → front r (k - 1) ≡ without_at at (front ps k) → ps' ≡ r → k' ≡ k - 1 → x' ≡ released_more x (place_at ps at).surface
      → Left ps ps' k k' x x' b (place_at ps at)
  leaves_it t r y w a m o =
      record {
        long = rw a y;
        few = rw m (omega arith);
        pics = rw (a, m, t) (w ∙ sym (taken_leaves ps k one));
        released = rw o (released_left g s e t);
      }

  stays_there : {b : Bool} → b ≡ false → {ps' : List Picture} {k' : ℕ} {x' : Released} {q : Picture} → q ≡ quieted (place_at ps at)
      → ps' ≡ set ps at q → k' ≡ k → x' ≡ x → Left ps ps' k k' x x' b (place_at ps at)
  stays_there t w a m o =
      record {
        long = rw a (length-set ps _ _ ∙ l);
        few = rw m (omega arith);
        pics = rw (a, m, t, w) (sym (taken_stays ps k one (omega (arith, l, found_at g s e))));
        released = rw o (released_stay g s e t);
      }

  -- so it is one of the turns, and one fewer waits
  turned : due_scan rule c k ≡ true → i < n → {y : Shown} → y ≡ shown (place_at ps at) → {b : Bool} → b ≡ (always_by rule || not (is_marked (place_at ps at).mark))
      → {ps' : List Picture} {k' : ℕ} {x' : Released} → Left ps ps' k k' x x' b (place_at ps at)
      → Turned rule ps₀ n x₀ (i + 1) ps' k' (handed_more h y) x'
      × Counts ps' k' (latency_by rule) (record { waiting = c.waiting - 1; late = c.late; lowest = c.lowest })
  turned d lt u w {ps'} {k'} f = (rw u (turned_more g s e d w ps' k' f.few f.pics f.released lt), turned_counts g s e d w ps' k' f.few f.pics f.released)

pub loop-init : goal.loop-init
loop-init c =
    let l : length c.args.ps ≡ 16 = search rules in
    (l, turned_none c.args.rule c.args.ps c.args.n c.none-handed.result c.args.x (starts c.args.ps c.args.n c.none-handed.result c.args.x c.none-handed.ensures c.requires.0 c.requires.1 c.requires.2), c.requires.3)

pub offset_bounds-places-at : goal.offset_bounds-places-at
offset_bounds-places-at c = let v = c.loop.invariant in let f = found_at v.1 v.2 c.in-Some.is in record { fits = omega arith }

pub bounds-places-at : goal.bounds-places-at
bounds-places-at c = let v = c.loop.invariant in found_at v.1 v.2 c.in-Some.is

pub push-requires : goal.push-requires
push-requires c = let v = c.loop.invariant in (omega arith, found_handed v.1 v.2 c.in-Some.is)

pub push-requires-then-leaves : goal.push-requires-then-leaves
push-requires-then-leaves c = let v = c.loop.invariant in (omega arith, found_released v.1 v.2 c.in-Some.is)

pub remove-places-requires : goal.remove-places-requires
remove-places-requires c = let v = c.loop.invariant in (v.1.gathers.places, scan_at v.2 c.in-Some.is)

pub overflow_sub-len : goal.overflow_sub-len
overflow_sub-len c = let v = c.loop.invariant in let f = scan_at v.2 c.in-Some.is in omega arith

pub overflow_sub-c : goal.overflow_sub-c
overflow_sub-c c = let v = c.loop.invariant in let f = scan_waits v.2 c.in-Some.is in omega arith

pub loop-preserved : goal.loop-preserved
loop-preserved c =
    let v = c.loop.invariant in
    let e = c.in-Some.is in
    let f : Left c.loop.places c.if-leaves.places c.loop.len c.if-leaves.len c.loop.released c.if-leaves.released c.leaves.result (place_at c.loop.places c.in-Some.low.at) =
    elim c.if-leaves.branch [
      | then-leaves w ↦ (let y : length w.remove-places.result ≡ 16 = search rules in leaves_it v.0 v.1 v.2 e w.if-leaves.true w.remove-places.result y w.remove-places.ensures w.places-is w.len-is (w.released-is ∙ w.push-then-leaves.ensures))
      | else-leaves w ↦ stays_there v.0 v.1 v.2 e w.if-leaves.false w.end_waiting.ensures w.places-is w.len-is w.released-is
    ] in
    let t = turned v.0 v.1 v.2 e (sym c.needs_bumping.ensures ∙ c.if-not-needs_bumping.false) c.loop-test.true c.shown_of.ensures c.leaves.ensures f in
    (f.long, rw c.push.ensures t.0, rw c.latency_of-latency.ensures at (c.find_lowest_poc_for_bumping-c.ensures))

pub returns : goal.returns
returns c =
    let v = c.loop.invariant in
    let t = c.loop-test in
    let g : Gathers t.places t.len t.handed t.released (and_then (started_in c.args.ps c.args.n c.args.x) (turns_by c.args.rule)) =
    elim t.branch [
      | else-loop-test w ↦ rw (w.places-is, w.len-is, w.handed-is, w.released-is) (turned_all v.1 w.loop-test.false)
      | then-loop-test+in_default w ↦ rw (w.places-is, w.len-is, w.handed-is, w.released-is) (turned_nothing v.1 v.2 w.in_default.is)
      | then-loop-test+in-Some+then-not-needs_bumping w ↦ rw (w.places-is, w.len-is, w.handed-is, w.released-is) (turned_idle v.1 v.2 (sym w.needs_bumping.ensures ∙ w.if-not-needs_bumping.true))
      | then-loop-test+in-Some+else-not-needs_bumping+then-not-is_due w ↦
          (let e = w.in-Some.is in
          let f : Left c.loop.places w.if-leaves.places c.loop.len w.if-leaves.len c.loop.released w.if-leaves.released w.leaves.result (place_at c.loop.places w.in-Some.low.at) =
          elim w.if-leaves.branch [
            | then-leaves w' ↦ (let y : length w'.remove-places.result ≡ 16 = search rules in leaves_it v.0 v.1 v.2 e w'.if-leaves.true w'.remove-places.result y w'.remove-places.ensures w'.places-is w'.len-is (w'.released-is ∙ w'.push-then-leaves.ensures))
            | else-leaves w' ↦ stays_there v.0 v.1 v.2 e w'.if-leaves.false w'.end_waiting.ensures w'.places-is w'.len-is w'.released-is
          ] in
          let y = turned v.0 v.1 v.2 e (sym w.needs_bumping.ensures ∙ w.if-not-needs_bumping.false) w.loop-test.true w.shown_of.ensures w.leaves.ensures f in
          rw (w.places-is, w.len-is, w.handed-is ∙ w.push.ensures, w.released-is) (turned_done y.0 y.1 (sym w.is_due.ensures ∙ w.if-not-is_due.true)))
    ] in
    gathers_moved g c.none.ensures c.of.ensures
