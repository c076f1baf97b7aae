-- Tests and lists of tests.
use Prim.Native.Nat.{ℕ}
use mathlib.Core.Path.{◌≡◌, refl}
use mathlib.Core.List.{List, [], ◌∷◌, map}
use mathlib.Core.Bool.{Bool, true, false, cond, ◌&&◌, ◌||◌}
use native.Mathlib.Omega.{arith}
use Rattle.paper.specs.Words.{keep, all_b, any_b}

pub both : {a b : Bool} → a ≡ true → b ≡ true → (a && b) ≡ true
both {a} {b} p q = rw (p, q)

pub left : (a b : Bool) → (a && b) ≡ true → a ≡ true
left true b h = refl
left false b h = h

pub right : (a b : Bool) → (a && b) ≡ true → b ≡ true
right true b h = h
right false b h = let z : ◌≡◌ {A = ℕ} 0 1 = cc in cc

pub or_left : (a b : Bool) → a ≡ true → (a || b) ≡ true
or_left a b h = rw h

pub or_right : (a b : Bool) → b ≡ true → (a || b) ≡ true
or_right true b h = refl
or_right false b h = h

pub not_both {ℓ} : {X : Type ℓ} (b : Bool) → b ≡ true → b ≡ false → X
not_both b p q = absurd (let z : ◌≡◌ {A = ℕ} 0 1 = cc in omega arith)

-- of two tests that do not hold together
pub neither : (a b : Bool) → (a || b) ≡ false → (a ≡ false) × (b ≡ false)
neither true b e = not_both true refl e
neither false b e = (refl, e)

-- a test that holds more often
pub and_sub : (a x y : Bool) → (y ≡ true → x ≡ true) → (a && x) ≡ false → (a && y) ≡ false
and_sub true x true h e = not_both x (h refl) e
and_sub true x false h e = refl
and_sub false x y h e = refl

pub by_case {ℓ} : {A : Type ℓ} (Q : A → Type 0) (b : Bool) (x y : A) → (b ≡ true → Q x) → (b ≡ false → Q y) → Q (cond b x y)
by_case Q true x y f g = f refl
by_case Q false x y f g = g refl

-- either way
pub split {ℓ} : {X : Type ℓ} (b : Bool) → (b ≡ true → X) → (b ≡ false → X) → X
split true f g = f refl
split false f g = g refl

module _ {A : Type 0} where
  pub any_mono : (f g : A → Bool) → ((x : A) → f x ≡ true → g x ≡ true) → (xs : List A) → any_b f xs ≡ true → any_b g xs ≡ true
  unfolding any_b
  any_mono f g h [] e = e
  any_mono f g h (x ∷ xs) e = split (f x) (λ p. or_left (g x) _ (h x p)) (λ p. or_right (g x) _ (any_mono f g h xs (rw p at e)))

  pub all_mono : (f g : A → Bool) → ((x : A) → f x ≡ true → g x ≡ true) → (xs : List A) → all_b f xs ≡ true → all_b g xs ≡ true
  unfolding all_b
  all_mono f g h [] e = e
  all_mono f g h (x ∷ xs) e = both (h x (left (f x) _ e)) (all_mono f g h xs (right (f x) _ e))

  pub any_keep : (f g : A → Bool) (xs : List A) → any_b f (keep g xs) ≡ true → any_b f xs ≡ true
  unfolding any_b keep
  any_keep f g [] e = e
  any_keep f g (x ∷ xs) e =
      split (g x)
      (λ p.
      let e' : (f x || any_b f (keep g xs)) ≡ true = rw p at e in
      split (f x) (λ q. or_left (f x) _ q) (λ q. or_right (f x) _ (any_keep f g xs (rw q at e'))))
      (λ p. or_right (f x) _ (any_keep f g xs (rw p at e)))

  pub any_map : {B : Type 0} (f : B → Bool) (g : A → B) (xs : List A) → any_b f (map g xs) ≡ any_b (λ (x : A). f (g x)) xs
  unfolding any_b
  any_map f g [] = refl
  any_map f g (x ∷ xs) = rw (any_map f g xs)

  pub all_map : {B : Type 0} (f : B → Bool) (g : A → B) (xs : List A) → all_b f (map g xs) ≡ all_b (λ (x : A). f (g x)) xs
  unfolding all_b
  all_map f g [] = refl
  all_map f g (x ∷ xs) = rw (all_map f g xs)

  -- what some x of which f holds gives
  pub any_gives : {X : Type 0} (f : A → Bool) (xs : List A) → ((x : A) → f x ≡ true → X) → any_b f xs ≡ true → X
  unfolding any_b
  any_gives f [] k e = not_both false e refl
  any_gives f (x ∷ xs) k e = split (f x) (λ p. k x p) (λ p. any_gives f xs k (rw p at e))

  pub keep_map : {B : Type 0} (f : B → Bool) (g : A → B) (h : A → Bool) → ((x : A) → f (g x) ≡ h x) → (xs : List A) → keep f (map g xs) ≡ map g (keep h xs)
  unfolding keep
  keep_map f g h e [] = refl
  keep_map f g h e (x ∷ xs) =
      split (h x) (λ p. rw (e x, p, keep_map f g h e xs)) (λ p. rw (e x, p, keep_map f g h e xs))

  pub map_ext : {B : Type 0} (f g : A → B) → ((x : A) → f x ≡ g x) → (xs : List A) → map f xs ≡ map g xs
  map_ext f g e [] = refl
  map_ext f g e (x ∷ xs) = rw (e x, map_ext f g e xs)
