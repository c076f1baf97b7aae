-- The first of a list of which a test holds: what is left without it, and with it changed. The lowest waiting picture is
-- the first that waits with its POC. Assumes nothing.
use Prim.Native.Nat.{ℕ, suc}
use mathlib.Core.Path.{◌≡◌, refl, ap}
use mathlib.Core.Logic.{◌⊎◌, inl, inr, ⊎_elim}
use mathlib.Core.List.{List, [], ◌∷◌}
use mathlib.Core.Bool.{Bool, true, false, cond, ◌&&◌, ◌||◌}
use native.Mathlib.Omega.{arith}
use lib.ListN.{length}
use lib.Signed.{lt_z}
use Rattle.paper.specs.declared.Picture.{Picture}
use Rattle.paper.specs.Words.{keep, any_b, drop_first, change_first}
use Rattle.paper.specs.Poc.{eq_z}
use Rattle.paper.specs.Output.{below, lowest, is_it}
use Rattle.paper.proofs.Whole.{lt_z_true, lt_z_is, lt_z_apart, eq_z_refl, eq_z_same, eq_z_true}
use Rattle.paper.proofs.Bools.{both, left, right, split, not_both, or_left, or_right, by_case}
use Rattle.paper.proofs.Every.{All, Mem}
use Rattle.std.proofs.Common.{Option, None, Some}

-- x is the first of which t holds
abbrev pub First : {A : Type 0} → (A → Bool) → A → List A → Type 0
First t x [] = ⊥
First t x (y ∷ ys) = ((t y ≡ true) × (x ≡ y)) ⊎ ((t y ≡ false) × First t x ys)

module _ {A : Type 0} where
  pub first_mem : (t : A → Bool) (x : A) (xs : List A) → First t x xs → Mem x xs
  first_mem t x [] f = absurd f
  first_mem t x (y ∷ ys) (inl f) = inl f.1
  first_mem t x (y ∷ ys) (inr f) = inr (first_mem t x ys f.1)

  first_holds : (t : A → Bool) (x : A) (xs : List A) → First t x xs → t x ≡ true
  first_holds t x [] f = absurd f
  first_holds t x (y ∷ ys) (inl f) = rw f.1 f.0
  first_holds t x (y ∷ ys) (inr f) = first_holds t x ys f.1

  -- what holds of all holds of those that are left
  pub all_drop : (P : A → Type 0) (t : A → Bool) (xs : List A) → All P xs → All P (drop_first t xs)
  unfolding drop_first
  all_drop P t [] a = tt
  all_drop P t (x ∷ xs) a = by_case (All P) (t x) xs (x ∷ drop_first t xs) (λ e. a.1) (λ e. (a.0, all_drop P t xs a.1))

  pub all_change : (P : A → Type 0) (t : A → Bool) (f : A → A) → ((x : A) → P x → P (f x)) → (xs : List A) → All P xs → All P (change_first t f xs)
  unfolding change_first
  all_change P t f h [] a = tt
  all_change P t f h (x ∷ xs) a =
      by_case (All P) (t x) (f x ∷ xs) (x ∷ change_first t f xs) (λ e. (h x a.0, a.1)) (λ e. (a.0, all_change P t f h xs a.1))

  -- a test that holds of one that is left
  pub any_drop : (g t : A → Bool) (xs : List A) → any_b g (drop_first t xs) ≡ true → any_b g xs ≡ true
  unfolding any_b drop_first
  any_drop g t [] e = e
  any_drop g t (x ∷ xs) e =
      split (t x)
      (λ p. or_right (g x) _ (rw p at e))
      (λ p. let h : (g x || any_b g (drop_first t xs)) ≡ true = rw p at e in split (g x) (λ q. or_left (g x) _ q) (λ q. or_right (g x) _ (any_drop g t xs (rw q at h))))

  pub any_change : (g t : A → Bool) (f : A → A) → ((x : A) → g (f x) ≡ true → g x ≡ true) → (xs : List A) → any_b g (change_first t f xs) ≡ true → any_b g xs ≡ true
  unfolding any_b change_first
  any_change g t f k [] e = e
  any_change g t f k (x ∷ xs) e =
      split (t x)
      (λ p. let h : (g (f x) || any_b g xs) ≡ true = rw p at e in split (g (f x)) (λ q. or_left (g x) _ (k x q)) (λ q. or_right (g x) _ (rw q at h)))
      (λ p. let h : (g x || any_b g (change_first t f xs)) ≡ true = rw p at e in split (g x) (λ q. or_left (g x) _ q) (λ q. or_right (g x) _ (any_change g t f k xs (rw q at h))))

  pub any_same : (g t : A → Bool) (f : A → A) → ((x : A) → g (f x) ≡ g x) → (xs : List A) → any_b g (change_first t f xs) ≡ any_b g xs
  unfolding any_b change_first
  any_same g t f k [] = refl
  any_same g t f k (x ∷ xs) = split (t x) (λ p. rw (p, k x)) (λ p. rw (p, any_same g t f k xs))

  -- how many are left
  pub drop_length : (t : A → Bool) (x : A) (xs : List A) → First t x xs → suc (length (drop_first t xs)) ≡ length xs
  unfolding drop_first
  drop_length t x [] f = absurd f
  drop_length t x (y ∷ ys) (inl f) = rw f.0
  drop_length t x (y ∷ ys) (inr f) = rw f.0 (ap suc (drop_length t x ys f.1))

  pub change_length : (t : A → Bool) (f : A → A) (xs : List A) → length (change_first t f xs) ≡ length xs
  unfolding change_first
  change_length t f [] = refl
  change_length t f (x ∷ xs) = split (t x) (λ p. rw p) (λ p. rw p (ap suc (change_length t f xs)))

  -- and how many of which g holds, where it holds of that one, and no longer when it is changed
  module _ (g t : A → Bool) (x : A) (h : g x ≡ true) where
    pub drop_keep : (xs : List A) → First t x xs → suc (length (keep g (drop_first t xs))) ≡ length (keep g xs)
    unfolding keep drop_first
    drop_keep [] f = absurd f
    drop_keep (y ∷ ys) (inl f) = rw (f.0, ← f.1, h)
    drop_keep (y ∷ ys) (inr f) =
        let k = drop_keep ys f.1 in
        rw f.0 (split (g y) (λ q. rw q (ap suc k)) (λ q. rw q k))

    pub change_keep : (c : A → A) → g (c x) ≡ false → (xs : List A) → First t x xs → suc (length (keep g (change_first t c xs))) ≡ length (keep g xs)
    unfolding keep change_first
    change_keep c n [] f = absurd f
    change_keep c n (y ∷ ys) (inl f) = rw (f.0, ← f.1, h, n)
    change_keep c n (y ∷ ys) (inr f) =
        let k = change_keep c n ys f.1 in
        rw f.0 (split (g y) (λ q. rw q (ap suc k)) (λ q. rw q k))

-- ---- the lowest that waits

-- what is handed out waits, and has that POC
it_waits : (p q : Picture) → is_it p q ≡ true → q.waiting ≡ true
it_waits p q i = left q.waiting _ i

pub waits_first : (p : Picture) (ps : List Picture) → First (is_it p) p ps → p.waiting ≡ true
waits_first p ps f = it_waits p p (first_holds (is_it p) p ps f)

it_poc : (p q : Picture) → is_it p q ≡ true → q.poc ≡ p.poc
it_poc p q i = eq_z_true q.poc p.poc (right q.waiting _ i)

-- lower than one that is lower
below_more : (p q : Picture) (b : Option Picture) → lt_z p.poc q.poc ≡ true → below q b ≡ true → below p b ≡ true
below_more p q None l u = refl
below_more p q (Some r) l u = lt_z_is p.poc r.poc (omega (arith, lt_z_true p.poc q.poc l, lt_z_true q.poc r.poc u))

-- it is what was found before, or the first of the list that waits with its POC, and lower than what was
lowest_is : (b : Option Picture) (ps : List Picture) (p : Picture) → lowest b ps ≡ Some p → (b ≡ Some p) ⊎ (First (is_it p) p ps × (below p b ≡ true))
unfolding lowest
lowest_is b [] p e = inl e
lowest_is b (q ∷ ps) p e =
    ⊎_elim {C = (b ≡ Some p) ⊎ (First (is_it p) p (q ∷ ps) × (below p b ≡ true))}
    (λ c. split (q.waiting && below q b) (λ t. inr (here t (is_the (rw t at c)))) (λ t. inl (rw t at c)))
    (λ m. split (q.waiting && below q b) (λ t. inr (later t m.0 (rw t at m.1))) (λ t. let u : below p b ≡ true = rw t at m.1 in inr (inr (passed t u, m.0), u)))
    (lowest_is (cond (q.waiting && below q b) (Some q) b) ps p e)
  where
    is_the : Some q ≡ Some p → p ≡ q
    is_the c = cc

    here : (q.waiting && below q b) ≡ true → p ≡ q → First (is_it p) p (q ∷ ps) × (below p b ≡ true)
    here t s = (inl (rw s (both (left q.waiting _ t) (eq_z_refl q.poc)), s), rw s (right q.waiting _ t))

    higher : lt_z p.poc q.poc ≡ true → is_it p q ≡ false
    higher l = split (is_it p q) (λ i. not_both (eq_z q.poc p.poc) (eq_z_same q.poc p.poc (it_poc p q i)) (lt_z_apart p.poc q.poc l)) (λ i. i)

    later : (q.waiting && below q b) ≡ true → First (is_it p) p ps → lt_z p.poc q.poc ≡ true → First (is_it p) p (q ∷ ps) × (below p b ≡ true)
    later t f l = (inr (higher l, f), below_more p q b l (right q.waiting _ t))

    passed : (q.waiting && below q b) ≡ false → below p b ≡ true → is_it p q ≡ false
    passed t u =
        split (is_it p q)
        (λ i. not_both (q.waiting && below q b) (both (it_waits p q i) (same_below b (it_poc p q i) u)) t) (λ i. i)
      where
        same_below : (b : Option Picture) → q.poc ≡ p.poc → below p b ≡ true → below q b ≡ true
        same_below None s u = refl
        same_below (Some r) s u = rw s u

pub lowest_first : (ps : List Picture) (p : Picture) → lowest None ps ≡ Some p → First (is_it p) p ps
lowest_first ps p e =
    ⊎_elim {C = First (is_it p) p ps} (λ c. absurd (let z : ◌≡◌ {A = ℕ} 0 1 = cc in omega arith)) (λ m. m.0) (lowest_is None ps p e)
