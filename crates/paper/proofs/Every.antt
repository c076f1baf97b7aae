-- What holds of every element of a list, and what stands in one.
use Prim.Native.Nat.{ℕ, zero, suc}
use mathlib.Core.Path.{◌≡◌, refl}
use mathlib.Core.Logic.{◌⊎◌, inl, inr}
use mathlib.Core.List.{List, [], ◌∷◌, ◌++◌, map}
use mathlib.Core.Bool.{Bool, true, false, ◌||◌}
use lib.ListN.{get_or, set}
use Rattle.paper.specs.Words.{keep, all_b, any_b, table}
use Rattle.paper.proofs.Bools.{both, left, right, split, not_both, or_left, or_right}

abbrev pub All : {A : Type 0} → (A → Type 0) → List A → Type 0
All P [] = Unit {0}
All P (x ∷ xs) = P x × All P xs

abbrev pub Mem : {A : Type 0} → A → List A → Type 0
Mem x [] = ⊥
Mem x (y ∷ ys) = (x ≡ y) ⊎ Mem x ys

module _ {A : Type 0} where
  pub all_keep : (P : A → Type 0) (f : A → Bool) (xs : List A) → All P xs → All P (keep f xs)
  unfolding keep
  all_keep P f [] a = tt
  all_keep P f (x ∷ xs) a = split (f x) (λ e. rw e (a.0, all_keep P f xs a.1)) (λ e. rw e (all_keep P f xs a.1))

  pub all_map : {B : Type 0} (P : A → Type 0) (Q : B → Type 0) (g : A → B) → ((x : A) → P x → Q (g x)) → (xs : List A) → All P xs → All Q (map g xs)
  all_map P Q g h [] a = tt
  all_map P Q g h (x ∷ xs) a = (h x a.0, all_map P Q g h xs a.1)

  pub all_more : (P Q : A → Type 0) → ((x : A) → P x → Q x) → (xs : List A) → All P xs → All Q xs
  all_more P Q h [] a = tt
  all_more P Q h (x ∷ xs) a = (h x a.0, all_more P Q h xs a.1)

  pub all_append : (P : A → Type 0) (xs ys : List A) → All P xs → All P ys → All P (xs ++ ys)
  all_append P [] ys a b = b
  all_append P (x ∷ xs) ys a b = (a.0, all_append P xs ys a.1 b)

  pub all_true : (f : A → Bool) (xs : List A) → All (λ (x : A). f x ≡ true) xs → all_b f xs ≡ true
  unfolding all_b
  all_true f [] a = refl
  all_true f (x ∷ xs) a = both a.0 (all_true f xs a.1)

  pub any_mem : (f : A → Bool) (x : A) (xs : List A) → Mem x xs → f x ≡ true → any_b f xs ≡ true
  unfolding any_b
  any_mem f x [] m h = absurd m
  any_mem f x (y ∷ ys) (inl e) h = or_left (f y) _ (rw e at h)
  any_mem f x (y ∷ ys) (inr m) h = or_right (f y) _ (any_mem f x ys m h)

  pub all_at : (P : A → Type 0) (x : A) (xs : List A) → All P xs → Mem x xs → P x
  all_at P x [] a m = absurd m
  all_at P x (y ∷ ys) a (inl e) = rw e a.0
  all_at P x (y ∷ ys) a (inr m) = all_at P x ys a.1 m

  -- a picture by picture equation of lists
  pub keep_by : {B : Type 0} (f : B → Bool) (g : A → B) (h : A → Bool) (k : A → B) (xs : List A)
      → All (λ (x : A). (f (g x) ≡ h x) × (h x ≡ true → g x ≡ k x)) xs → keep f (map g xs) ≡ map k (keep h xs)
  unfolding keep
  keep_by f g h k [] a = refl
  keep_by f g h k (x ∷ xs) a =
      split (h x) (λ p. rw (a.0.0, p, a.0.1 p, keep_by f g h k xs a.1)) (λ p. rw (a.0.0, p, keep_by f g h k xs a.1))

  pub keep_all : (f : A → Bool) (xs : List A) → All (λ (x : A). f x ≡ true) xs → keep f xs ≡ xs
  unfolding keep
  keep_all f [] a = refl
  keep_all f (x ∷ xs) a = rw (a.0, keep_all f xs a.1)

  pub map_by : {B : Type 0} (f g : A → B) (xs : List A) → All (λ (x : A). f x ≡ g x) xs → map f xs ≡ map g xs
  map_by f g [] a = refl
  map_by f g (x ∷ xs) a = rw (a.0, map_by f g xs a.1)

  pub all_first : (P : A → Type 0) (xs ys : List A) → All P (xs ++ ys) → All P xs
  all_first P [] ys a = tt
  all_first P (x ∷ xs) ys a = (a.0, all_first P xs ys a.1)

  pub all_last : (P : A → Type 0) (xs ys : List A) → All P (xs ++ ys) → All P ys
  all_last P [] ys a = a
  all_last P (x ∷ xs) ys a = all_last P xs ys a.1

  pub all_zip : (P Q : A → Type 0) (xs : List A) → All P xs → All Q xs → All (λ (x : A). P x × Q x) xs
  all_zip P Q [] a b = tt
  all_zip P Q (x ∷ xs) a b = ((a.0, b.0), all_zip P Q xs a.1 b.1)

  pub none_any : (f : A → Bool) (xs : List A) → any_b f xs ≡ false → All (λ (x : A). f x ≡ false) xs
  unfolding any_b
  none_any f [] e = tt
  none_any f (x ∷ xs) e =
      split (f x) (λ p. not_both (f x || any_b f xs) (or_left (f x) _ p) e) (λ p. (p, none_any f xs (rw p at e)))

  pub all_of : (f : A → Bool) (xs : List A) → all_b f xs ≡ true → All (λ (x : A). f x ≡ true) xs
  unfolding all_b
  all_of f [] e = tt
  all_of f (x ∷ xs) e = (left (f x) _ e, all_of f xs (right (f x) _ e))

  pub all_table : (P : A → Type 0) (f : ℕ → A) → ((j : ℕ) → P (f j)) → (n : ℕ) → All P (table f n)
  unfolding table
  all_table P f h zero = tt
  all_table P f h (suc n) = all_append P (table f n) (f n ∷ []) (all_table P f h n) (h n, tt)

  pub all_get_d : (P : A → Type 0) (xs : List A) (d : A) → All P xs → P d → (n : ℕ) → P (get_or xs n d)
  all_get_d P [] d a q n = q
  all_get_d P (x ∷ xs) d a q zero = a.0
  all_get_d P (x ∷ xs) d a q (suc n) = all_get_d P xs d a.1 q n

  pub all_set : (P : A → Type 0) (xs : List A) (n : ℕ) (x : A) → All P xs → P x → All P (set xs n x)
  all_set P [] n y a q = tt
  all_set P (x ∷ xs) zero y a q = (q, a.1)
  all_set P (x ∷ xs) (suc n) y a q = (a.0, all_set P xs n y a.1 q)

  pub every : (P : A → Type 0) → ((x : A) → P x) → (xs : List A) → All P xs
  every P h [] = tt
  every P h (x ∷ xs) = (h x, every P h xs)

  pub all_both : (P Q R : A → Type 0) → ((x : A) → P x → Q x → R x) → (xs : List A) → All P xs → All Q xs → All R xs
  all_both P Q R h [] a b = tt
  all_both P Q R h (x ∷ xs) a b = (h x a.0 b.0, all_both P Q R h xs a.1 b.1)

  pub any_kept : (f g : A → Bool) (xs : List A) → All (λ (x : A). f x ≡ true → g x ≡ true) xs → any_b f xs ≡ true → any_b f (keep g xs) ≡ true
  unfolding any_b keep
  any_kept f g [] a e = e
  any_kept f g (x ∷ xs) a e =
      split (f x)
      (λ p. rw (a.0 p) (or_left (f x) _ p))
      (λ p.
      let k = any_kept f g xs a.1 (rw p at e) in
      split (g x) (λ q. rw q (or_right (f x) _ k)) (λ q. rw q k))
