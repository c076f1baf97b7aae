-- A walk over the places: what it has seen of the first i is what the definitions find in them, one picture more at a
-- time. Assumes nothing.
use mathlib.Core.Path.{◌≡◌, refl, sym, ap, subst, ◌∙◌}
use mathlib.Core.Bool.{Bool, true, cond, ◌&&◌, ◌||◌, or-false}
use mathlib.Core.List.{List, [], ◌∷◌, ◌++◌}
use Prim.Native.Nat.{ℕ, zero, suc, ◌+◌, ◌≤◌, ◌<◌}
use native.Mathlib.Omega.{arith}
use lib.ListN.{length, length-append}
use lib.Dec.{leb}
use lib.IntN.{ℤ}
use lib.Signed.{lt_z}
use Rattle.paper.proofs.Bools.{by_case}
use Rattle.paper.proofs.Fits.{table_length}
use Rattle.paper.proofs.Firsts.{lowest_first}
use Rattle.paper.proofs.Quiet.{waitings, few_wait, one_fewer}
use Rattle.paper.specs.Words.{keep, any_b, table}
use Rattle.paper.specs.Output.{lowest, below}
use Rattle.paper.specs.declared.Picture.{Picture}
use Rattle.store.specs.Places.{place_at, front}
use Rattle.store.specs.Tails.{waits}
use Rattle.store.specs.Walks.{late_by}
use Rattle.store.specs.OneWalk.{lowest_at, lower_by, walk_from, one_walk, two_walks}
use Rattle.store.specs.Bumps.{Scans, nothing_seen, seen_by}
use Rattle.store.specs.declared.bumping.Lowest.{Lowest}
use Rattle.store.specs.declared.bumping.Scan.{Scan}
use Rattle.store.proofs.OneWalk.{item_3}
use Rattle.store.proofs.StoreWords.{table_more}
use Rattle.store.proofs.Kept.{keep_take, keep_pass}
use Rattle.store.proofs.Walks.{any_more}
use Rattle.std.proofs.Common.{Option, None, Some}

-- ---- a list with one picture more at its end

lowest_last : (b : Option Picture) (ps : List Picture) (p : Picture) → lowest b (ps ++ (p ∷ [])) ≡ cond (p.waiting && below p (lowest b ps)) (Some p) (lowest b ps)
unfolding lowest
lowest_last b [] p = refl
lowest_last b (q ∷ ps) p = lowest_last (cond (q.waiting && below q b) (Some q) b) ps p

walk_last : (i : ℕ) (x : Option Lowest) (ps : List Picture) (p : Picture) → walk_from i x (ps ++ (p ∷ [])) ≡ cond p.waiting (lower_by (walk_from i x ps) (length ps + i) p.poc) (walk_from i x ps)
unfolding walk_from
walk_last i x [] p = let e : i ≡ 0 + i = omega arith in ap (λ (j : ℕ). cond p.waiting (lower_by x j p.poc) x) e
walk_last i x (q ∷ ps) p =
    let e : length ps + suc i ≡ suc (length ps) + i = omega arith in
    let y = cond q.waiting (lower_by x i q.poc) x in
    walk_last (suc i) y ps p ∙ ap (λ (j : ℕ). cond p.waiting (lower_by (walk_from (suc i) y ps) j p.poc) (walk_from (suc i) y ps)) e

-- ---- the walk

pub scan_none : (ps : List Picture) (latency : ℕ) → Scans ps 0 latency nothing_seen
unfolding walk_from keep any_b table
scan_none ps latency = record { waiting = refl; late = refl; lowest = refl }

-- the picture that a walk found, and that it stands among the first n
abbrev pub found_in : List Picture → Option Lowest → Option Picture
found_in ps None = None
found_in ps (Some x) = Some (place_at ps x.at)

abbrev Within : List Picture → ℕ → Option Lowest → Type 0
Within ps n None = n ≡ n
Within ps n (Some x) = (x.at < n) × (x.poc ≡ (place_at ps x.at).poc)

record Lowers (ps : List Picture) (i : ℕ) (l : Option Lowest) : Type 0 where
  found : lowest None (front ps i) ≡ found_in ps l
  within : Within ps i l

module _ (ps : List Picture) where
  within_more : (i : ℕ) (l : Option Lowest) → Within ps i l → Within ps (i + 1) l
  within_more i None w = refl
  within_more i (Some x) w = (omega (arith, w.0), w.1)

  walk_more : (i : ℕ) → one_walk (front ps (i + 1)) ≡ cond (place_at ps i).waiting (lower_by (one_walk (front ps i)) i (place_at ps i).poc) (one_walk (front ps i))
  walk_more i =
      let p = place_at ps i in
      let e : length (front ps i) + 0 ≡ i = omega (arith, table_length (place_at ps) i) in
      ap one_walk (table_more (place_at ps) i) ∙ walk_last 0 None (front ps i) p
      ∙ ap (λ (j : ℕ). cond p.waiting (lower_by (one_walk (front ps i)) j p.poc) (one_walk (front ps i))) e

  -- one picture more, at place i: the lowest now, or not
  module _ (i : ℕ) where
    abbrev p : Picture
    p = place_at ps i

    more_found : (l : Option Lowest) → lowest None (front ps i) ≡ found_in ps l
        → lowest None (front ps (i + 1)) ≡ cond (p.waiting && below p (found_in ps l)) (Some p) (found_in ps l)
    more_found l e =
        ap (lowest None) (table_more (place_at ps) i) ∙ lowest_last None (front ps i) p
        ∙ ap (λ (b : Option Picture). cond (p.waiting && below p b) (Some p) b) e

    lowers : p.waiting ≡ true → (l : Option Lowest) → Lowers ps i l → Lowers ps (i + 1) (lower_by l i p.poc)
    lowers w None h = record { found = rw w at (more_found None h.found); within = (omega arith, refl) }
    lowers w (Some x) h =
        by_case (Lowers ps (i + 1)) (lt_z p.poc x.poc) (lowest_at i p.poc) (Some x)
        (λ b. record { found = rw (w, ← h.within.1, b) at (more_found (Some x) h.found); within = (omega arith, refl) })
        (λ b. record { found = rw (w, ← h.within.1, b) at (more_found (Some x) h.found); within = within_more i (Some x) h.within })

    lowers_more : (l : Option Lowest) → Lowers ps i l → Lowers ps (i + 1) (cond p.waiting (lower_by l i p.poc) l)
    lowers_more l h =
        by_case (Lowers ps (i + 1)) p.waiting (lower_by l i p.poc) l (λ w. lowers w l h)
        (λ w. record { found = rw w at (more_found l h.found); within = within_more i l h.within })

  -- the walk finds the lowest of the definition
  walked : (i : ℕ) → Lowers ps i (one_walk (front ps i))
  unfolding walk_from lowest table
  walked zero = record { found = refl; within = refl }
  walked (suc i) =
      let e : i + 1 ≡ suc i = omega arith in
      subst (λ (k : ℕ). Lowers ps k (one_walk (front ps k))) e (subst (Lowers ps (i + 1)) (sym (walk_more i)) (lowers_more i (one_walk (front ps i)) (walked i)))

module _ {ps : List Picture} {i latency : ℕ} {c : Scan} (s : Scans ps i latency c) where
  abbrev q : Picture
  q = place_at ps i

  more_late : any_b (late_by latency) (front ps (i + 1)) ≡ (c.late || (q.waiting && leb latency q.count))
  more_late = any_more (late_by latency) (place_at ps) i ∙ ap (λ (b : Bool). b || (q.waiting && leb latency q.count)) (sym s.late)

  more_lowest : cond q.waiting (lower_by c.lowest i q.poc) c.lowest ≡ one_walk (front ps (i + 1))
  more_lowest = ap (λ (l : Option Lowest). cond q.waiting (lower_by l i q.poc) l) s.lowest ∙ sym (walk_more ps i)

  -- one picture more
  pub scan_more : Scans ps (i + 1) latency (seen_by c i q latency)
  scan_more =
      by_case (Scans ps (i + 1) latency) q.waiting _ _
      (λ w.
      record {
        waiting = omega (arith, s.waiting, ap length (keep_take waits (place_at ps) i w), length-append (keep waits (front ps i)) (q ∷ []));
        late = sym (rw w at more_late);
        lowest = rw w at more_lowest;
      })
      (λ w.
      record {
        waiting = s.waiting ∙ sym (ap length (keep_pass waits (place_at ps) i w));
        late = sym (or-false c.late) ∙ sym (rw w at more_late);
        lowest = rw w at more_lowest;
      })

  -- no more wait than there are
  pub scan_few : c.waiting ≤ i
  unfolding waitings
  scan_few =
      let f : length (keep waits (front ps i)) ≤ length (front ps i) = few_wait (front ps i) in
      omega (arith, s.waiting, table_length (place_at ps) i)

  -- what it finds is the lowest of the definition, stands among those that it saw, and waits
  pub scan_found : lowest None (front ps i) ≡ found_in ps c.lowest
  scan_found = (walked ps i).found ∙ ap (found_in ps) (sym s.lowest)

  module _ {at : ℕ} {z : ℤ} (e : c.lowest ≡ lowest_at at z) where
    pub scan_the : lowest None (front ps i) ≡ Some (place_at ps at)
    scan_the = scan_found ∙ ap (found_in ps) e

    pub scan_waits : 0 < c.waiting
    unfolding waitings
    scan_waits = omega (arith, s.waiting, one_fewer true (place_at ps at) (front ps i) (lowest_first (front ps i) (place_at ps at) scan_the))

    pub scan_at : at < i
    scan_at = let w = rw (sym s.lowest ∙ e) at (walked ps i).within in w.0

-- ---- the contract of a walk: its place and POC are those of two walks, on every store, and it permits one answer

module _ {ps : List Picture} {i latency : ℕ} {c : Scan} (s : Scans ps i latency c) where
  pub scan_two : c.lowest ≡ two_walks (front ps i)
  scan_two = s.lowest ∙ item_3.same (front ps i)

  pub one_scan : {d : Scan} → Scans ps i latency d → c ≡ d
  one_scan t = λ j. record { waiting = (s.waiting ∙ sym t.waiting) j; late = (s.late ∙ sym t.late) j; lowest = (s.lowest ∙ sym t.lowest) j }
