-- The picture at the place that the walk found is the first that waits with its POC: it leaves, and those behind it move
-- up; or it stays where it is and no longer waits. Assumes nothing.
use Prim.Native.Nat.{ℕ, zero, suc, ◌+◌, ◌-◌, ◌≤◌, ◌<◌}
use mathlib.Core.Path.{◌≡◌, refl, sym, ap, subst, ◌∙◌}
use mathlib.Core.Bool.{Bool}
use mathlib.Core.List.{List, [], ◌∷◌}
use native.Mathlib.Omega.{arith}
use lib.ListN.{get_or, length, set, length-set}
use lib.Seq.{get_or-set_same, get_or-set_other, take_all}
use lib.Dec.{eqb, ltb}
use lib.IntN.{ℤ}
use borrow.Author.Tests.{eqb-true, eqb-false, ltb-true, ltb-false}
use Rattle.paper.specs.Words.{drop_first, change_first}
use Rattle.paper.specs.Output.{is_it, quieted, leave, stay}
use Rattle.paper.specs.declared.Picture.{Picture}
use Rattle.paper.proofs.Bools.{split}
use Rattle.paper.proofs.Fits.{table_length}
use Rattle.derivation.proofs.Runs.{table_get, table_is}
use Rattle.store.specs.Walks.{blank}
use Rattle.store.specs.Places.{place_at, front, without_at}
use Rattle.store.specs.OneWalk.{one_walk, position, Leads}
use Rattle.store.specs.OneWalk.{lowest_at}
use Rattle.store.proofs.OneWalk.{item_3, it_stands}

-- ---- a list without the one at a place

module _ {A : Type 0} (d : A) where
  without_before : (i : ℕ) (xs : List A) (j : ℕ) → j < i → get_or (without_at i xs) j d ≡ get_or xs j d
  unfolding without_at
  without_before i [] j l = refl
  without_before zero (x ∷ xs) j l = absurd (omega arith)
  without_before (suc i) (x ∷ xs) zero l = refl
  without_before (suc i) (x ∷ xs) (suc j) l = without_before i xs j (omega arith)

  without_behind : (i : ℕ) (xs : List A) (j : ℕ) → i < length xs → i ≤ j → get_or (without_at i xs) j d ≡ get_or xs (suc j) d
  unfolding without_at
  without_behind i [] j l h = absurd (omega arith)
  without_behind zero (x ∷ xs) j l h = refl
  without_behind (suc i) (x ∷ xs) zero l h = absurd (omega arith)
  without_behind (suc i) (x ∷ xs) (suc j) l h = without_behind i xs j (omega arith) (omega arith)

  without_length : (i : ℕ) (xs : List A) → i < length xs → suc (length (without_at i xs)) ≡ length xs
  unfolding without_at
  without_length i [] l = absurd (omega arith)
  without_length zero (x ∷ xs) l = refl
  without_length (suc i) (x ∷ xs) l = ap suc (without_length i xs (omega arith))

-- ---- the first of which t holds, at its place

module _ (t : Picture → Bool) where
  drop_at : (ps : List Picture) → drop_first t ps ≡ without_at (position t ps) ps
  unfolding drop_first without_at position
  drop_at [] = refl
  drop_at (p ∷ ps) = split (t p) (λ e. rw e) (λ e. rw e (ap (λ (l : List Picture). p ∷ l) (drop_at ps)))

  change_at : (f : Picture → Picture) (ps : List Picture) → change_first t f ps ≡ set ps (position t ps) (f (place_at ps (position t ps)))
  unfolding change_first position
  change_at f [] = refl
  change_at f (p ∷ ps) = split (t p) (λ e. rw e) (λ e. rw e (ap (λ (l : List Picture). p ∷ l) (change_at f ps)))

-- a picture changed at a place, among the first n
put_front : (ps : List Picture) (n i : ℕ) (q : Picture) → i < n → i < length ps → front (set ps i q) n ≡ set (front ps n) i q
put_front ps n i q lt long =
    let l = table_length (place_at ps) n in
    let k = length-set (front ps n) i q in
    table_is blank (place_at (set ps i q)) (set (front ps n) i q) n (omega arith)
    (λ j h.
    split (eqb j i)
    (λ e.
    let x : j ≡ i = eqb-true j i e in
    rw x (get_or-set_same ps i q blank long ∙ sym (get_or-set_same (front ps n) i q blank (omega arith))))
    (λ e.
    let x = eqb-false j i e in
    get_or-set_other ps i j q blank x ∙ sym (table_get (place_at ps) n j blank h) ∙ sym (get_or-set_other (front ps n) i j q blank x)))
    ∙ take_all n (set (front ps n) i q) (omega arith)

-- ---- the walk's place is that of the first that waits with its POC

module _ (ps : List Picture) (n : ℕ) {at : ℕ} {z : ℤ} (e : one_walk (front ps n) ≡ lowest_at at z) where
  abbrev qs : List Picture
  qs = front ps n

  abbrev p : Picture
  p = place_at ps at

  leads : Leads qs at z
  leads = item_3.found qs at z e

  stands : at < n
  stands = omega (arith, leads.stands, table_length (place_at ps) n)

  there : place_at qs at ≡ p
  there = table_get (place_at ps) n at blank stands

  its_place : position (is_it p) qs ≡ at
  its_place = it_stands qs at p (subst (Leads qs at) (sym leads.poc ∙ ap (λ (q : Picture). q.poc) there) leads)

  -- it leaves, or no longer waits
  pub taken_leaves : (leave qs p).pics ≡ without_at at qs
  taken_leaves = drop_at (is_it p) qs ∙ ap (λ (i : ℕ). without_at i qs) its_place

  pub taken_stays : at < length ps → (stay qs p).pics ≡ front (set ps at (quieted p)) n
  taken_stays long =
      change_at (is_it p) quieted qs ∙ ap (λ (i : ℕ). set qs i (quieted (place_at qs i))) its_place
      ∙ ap (λ (q : Picture). set qs at (quieted q)) there ∙ sym (put_front ps n at (quieted p) stands long)

-- ---- those behind a place move up

pub moved_up : (ps₀ ps : List Picture) {at n : ℕ} → at < n → ((j : ℕ) → j < at → place_at ps j ≡ place_at ps₀ j)
    → ((j : ℕ) → at ≤ j → j + 1 < n → place_at ps j ≡ place_at ps₀ (j + 1)) → front ps (n - 1) ≡ without_at at (front ps₀ n)
moved_up ps₀ ps {at} {n} past before behind =
    let m = table_length (place_at ps₀) n in
    let lt : at < length (front ps₀ n) = omega arith in
    let l = without_length blank at (front ps₀ n) lt in
    table_is blank (place_at ps) (without_at at (front ps₀ n)) (n - 1) (omega arith)
    (λ j k.
    split (ltb j at)
    (λ e.
    let b : j < at = ltb-true j at e in
    before j b ∙ sym (table_get (place_at ps₀) n j blank (omega arith)) ∙ sym (without_before blank at (front ps₀ n) j b))
    (λ e.
    let b : at ≤ j = ltb-false j at e in
    let x : suc j ≡ j + 1 = omega arith in
    behind j b (omega arith) ∙ sym (table_get (place_at ps₀) n (j + 1) blank (omega arith)) ∙ ap (place_at (front ps₀ n)) (sym x) ∙ sym (without_behind blank at (front ps₀ n) j lt b)))
    ∙ take_all (n - 1) (without_at at (front ps₀ n)) (omega arith)
