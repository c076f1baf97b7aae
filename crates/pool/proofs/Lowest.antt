-- The lowest free surface is free and nothing below it is, and it is 64 exactly if no surface of a pool of at most 64
-- is free: the search looks at 0, 1, 2, .. in turn and stops at the first.
use Prim.Native.Nat.{ℕ, zero, suc, ◌+◌, ◌≤◌, ◌<◌}
use mathlib.Core.Path.{◌≡◌, ap, ◌∙◌}
use mathlib.Core.Bool.{Bool, true, false, not, ◌&&◌}
use native.Mathlib.Omega.{arith}
use lib.Dec.{ltb, eqb}
use borrow.Author.Tests.{ltb-true, eq-eqb, eqb-true, eqb-false}
use Rattle.paper.proofs.Bools.{split}
use Rattle.pool.specs.Pool.{Pool, no_surface, is_free, lowest_from, lowest_free}

-- ---- the search

module _ (f : ℕ → Bool) where
  found : (n x : ℕ) → (lowest_from f n x ≡ x + n → ⊥) → f (lowest_from f n x) ≡ true
  unfolding lowest_from
  found zero x h = absurd (h (omega arith))
  found (suc n) x h = split (f x) (λ p. rw p p) (λ p. rw p (found n (x + 1) (λ e. h (rw p (omega (arith, e))))))

  before : (n x i : ℕ) → x ≤ i → i < lowest_from f n x → f i ≡ false
  unfolding lowest_from
  before zero x i l h = absurd (omega (arith, l, h))
  before (suc n) x i l h =
      split (f x)
      (λ p. let k : i < x = rw p at h in absurd (omega (arith, l, k)))
      (λ p. split (eqb i x) (λ e. ap f (eqb-true i x e) ∙ p) (λ e. before n (x + 1) i (omega (arith, l, eqb-false i x e)) (rw p at h)))

  nowhere : (n x : ℕ) → ((i : ℕ) → f i ≡ false) → lowest_from f n x ≡ x + n
  unfolding lowest_from
  nowhere zero x h = omega arith
  nowhere (suc n) x h = rw (h x) (omega (arith, nowhere n (x + 1) h))

module _ (p : Pool) where
  pub free_found : eqb (lowest_free p) no_surface ≡ false → is_free p (lowest_free p) ≡ true
  unfolding lowest_free
  free_found e = found (is_free p) 64 0 (eqb-false (lowest_free p) 64 e)

  pub free_below : (x : ℕ) → x < lowest_free p → is_free p x ≡ false
  unfolding lowest_free
  free_below x h = before (is_free p) 64 0 x (omega arith) h

  pub none_free : ((x : ℕ) → is_free p x ≡ false) → eqb (lowest_free p) no_surface ≡ true
  unfolding lowest_free
  none_free h = eq-eqb (lowest_free p) 64 (nowhere (is_free p) 64 0 h)

  pub free_none : p.surfaces ≤ no_surface → eqb (lowest_free p) no_surface ≡ true → (x : ℕ) → is_free p x ≡ false
  free_none few e x =
      split (ltb x p.surfaces)
      (λ k. let z = eqb-true (lowest_free p) 64 e in free_below x (omega (arith, z, few, ltb-true x p.surfaces k)))
      (λ k. ap (λ (b : Bool). b && (not (p.held x) && eqb (p.pending x) 0)) k)

-- the search ends at 64
ends : (f : ℕ → Bool) (n x : ℕ) → lowest_from f n x ≤ x + n
unfolding lowest_from
ends f zero x = omega arith
ends f (suc n) x = split (f x) (λ p. rw p (omega arith)) (λ p. rw p (omega (arith, ends f n (x + 1))))

pub lowest_small : (p : Pool) → lowest_free p ≤ no_surface
unfolding lowest_free
lowest_small p = ends (is_free p) 64 0
