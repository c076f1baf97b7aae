-- Laws of `flat`, once for every element type and every number of bytes.
use Prim.Native.Nat.{ℕ, ◌+◌, ◌*◌}
use mathlib.Core.Path.{◌≡◌, refl, sym, ap, ap₂, ◌∙◌}
use mathlib.Core.List.{List, [], ◌∷◌, ◌++◌, append_assoc}
use native.Mathlib.Nat.{mul-suc, mul-zero, add_comm}
use lib.ListN.{length, length-append}
use Rattle.paper.specs.Words.{flat}

module _ {A : Type 0} (f : A → List ℕ) where
  pub flat_append : (xs ys : List A) → flat f (xs ++ ys) ≡ flat f xs ++ flat f ys
  unfolding flat
  flat_append [] ys = refl
  flat_append (x ∷ xs) ys = ap (λ (l : List ℕ). f x ++ l) (flat_append xs ys) ∙ sym (append_assoc (f x) (flat f xs) (flat f ys))

  pub length_flat : (k : ℕ) → ((x : A) → length (f x) ≡ k) → (xs : List A) → length (flat f xs) ≡ k * length xs
  unfolding flat
  length_flat k e [] = sym (mul-zero k)
  length_flat k e (x ∷ xs) =
      length-append (f x) (flat f xs) ∙ ap₂ (λ (a b : ℕ). a + b) (e x) (length_flat k e xs) ∙ add_comm k (k * length xs) ∙ sym (mul-suc k (length xs))
