-- Two replies are the same exactly if they are equal, and one place is the first at which they differ: both go byte by
-- byte, and stop at the first difference or where one of the two ends.
use Prim.Native.Nat.{ℕ, suc, ◌<◌, min}
use mathlib.Core.Path.{◌≡◌, refl, sym, ap, ap₂, ◌∙◌}
use mathlib.Core.Logic.{◌⊎◌, inl, inr, ⊎_elim}
use mathlib.Core.List.{List, [], ◌∷◌}
use mathlib.Core.Bool.{true, false}
use native.Mathlib.Omega.{arith}
use native.Mathlib.Numerals.{add-one}
use lib.Dec.{eqb}
use lib.ListN.{length, get_or}
use lib.Seq.{get_or-take}
use borrow.Author.Tests.{eqb-true, eqb-false, eq-eqb}
use Rattle.paper.proofs.Bools.{both, left, right, split, not_both}
use Rattle.compare.specs.Lines.{same, first_place}
use Rattle.compare.specs.Facts.{SameIsEqual, IsPlace, Placed}

pub same_equal : (a b : List ℕ) → same a b ≡ true → a ≡ b
unfolding same
same_equal [] [] e = refl
same_equal [] (y ∷ ys) e = not_both false e refl
same_equal (x ∷ xs) [] e = not_both false e refl
same_equal (x ∷ xs) (y ∷ ys) e =
    let h = eqb-true x y (left (eqb x y) (same xs ys) e) in
    let t = same_equal xs ys (right (eqb x y) (same xs ys) e) in
    ap₂ (λ (n : ℕ) (l : List ℕ). n ∷ l) h t

pub same_self : (a : List ℕ) → same a a ≡ true
unfolding same
same_self [] = refl
same_self (x ∷ xs) = both (eq-eqb x x refl) (same_self xs)

-- REPLIES DIFFER WHEN ANY BYTE DOES
pub same_is_equal : (a b : List ℕ) → SameIsEqual a b
same_is_equal a b = (same_equal a b, λ e. ap (same a) (sym e) ∙ same_self a)

-- one byte more in front, and the place is one further
further : (x : ℕ) (xs ys : List ℕ) (P : ℕ) → IsPlace xs ys P → IsPlace (x ∷ xs) (x ∷ ys) (suc P)
further x xs ys P k =
    record {
      equal_before = ap (λ (l : List ℕ). x ∷ l) k.equal_before;
      inside = (omega arith, omega arith);
      there =
          ⊎_elim {C = ((suc P < suc (length xs)) × (suc P < suc (length ys)) × (get_or xs P 0 ≡ get_or ys P 0 → ⊥)) ⊎ (suc P ≡ min (suc (length xs)) (suc (length ys)))}
          (λ d. inl (omega arith, omega arith, d.2))
          (λ e. inr (omega arith))
          k.there;
    }

is_place : (a b : List ℕ) → IsPlace a b (first_place a b)
unfolding first_place
is_place [] ys = record { equal_before = refl; inside = (omega arith, omega arith); there = inr (omega arith) }
is_place (x ∷ xs) [] = record { equal_before = refl; inside = (omega arith, omega arith); there = inr (omega arith) }
is_place (x ∷ xs) (y ∷ ys) =
    split (eqb x y)
    (λ e. rw (e, eqb-true x y e, add-one) (further y xs ys (first_place xs ys) (is_place xs ys)))
    (λ e. rw e (record { equal_before = refl; inside = (omega arith, omega arith); there = inl (omega arith, omega arith, eqb-false x y e) }))

-- no such place is in front of another: the bytes there are equal, and neither ends there
module _ (a b : List ℕ) (P Q : ℕ) (p : IsPlace a b P) (q : IsPlace a b Q) where
  no_earlier : P < Q → ⊥
  no_earlier h =
      let e : get_or a P 0 ≡ get_or b P 0 = sym (get_or-take Q a P 0 h) ∙ ap (λ (l : List ℕ). get_or l P 0) q.equal_before ∙ get_or-take Q b P 0 h in
      ⊎_elim {C = ⊥} (λ d. d.2 e) (λ m. let i = q.inside in omega arith) p.there

-- P IS THE FIRST BYTE PLACE THAT DIFFERS, OR THE SHORTER LENGTH, AND NO OTHER PLACE IS
pub placed : (a b : List ℕ) → Placed a b
placed a b =
    record {
      is_place = is_place a b;
      only = λ P p.
          let f = no_earlier a b P (first_place a b) p (is_place a b) in
          let g = no_earlier a b (first_place a b) P (is_place a b) p in
          apart P (first_place a b) f g;
    }
  where
    apart : (n m : ℕ) → (n < m → ⊥) → (m < n → ⊥) → n ≡ m
    apart n m f g = omega arith
