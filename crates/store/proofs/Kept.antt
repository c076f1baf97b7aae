-- What is kept of the pictures at the first places, one place more; and a picture written behind the first. Assumes
-- nothing.
use Prim.Native.Nat.{ℕ, ◌+◌, ◌<◌}
use mathlib.Core.Path.{◌≡◌, refl, ap, ◌∙◌}
use mathlib.Core.Bool.{Bool, true, false, cond}
use mathlib.Core.List.{List, [], ◌∷◌, ◌++◌, append-nil}
use native.Mathlib.Omega.{arith}
use lib.ListN.{length, set}
use lib.Seq.{get_or-set_same, get_or-set_other}
use Rattle.paper.specs.Words.{table, keep}
use Rattle.paper.specs.declared.Picture.{Picture}
use Rattle.store.specs.Walks.{blank}
use Rattle.store.specs.Places.{place_at, front}
use Rattle.store.proofs.StoreWords.{table_more, table_next}

module _ {A : Type 0} (f : A → Bool) where
  pub keep_append : (a b : List A) → keep f (a ++ b) ≡ keep f a ++ keep f b
  unfolding keep
  keep_append [] b = refl
  keep_append (p ∷ a) b = go (f p) (keep_append a b)
    where
      go : (t : Bool) → keep f (a ++ b) ≡ keep f a ++ keep f b → cond t (p ∷ keep f (a ++ b)) (keep f (a ++ b)) ≡ cond t (p ∷ keep f a) (keep f a) ++ keep f b
      go true h = rw h
      go false h = h

  module _ (g : ℕ → A) (i : ℕ) where
    -- one place more, which is kept or not
    pub keep_take : f (g i) ≡ true → keep f (table g (i + 1)) ≡ keep f (table g i) ++ (g i ∷ [])
    unfolding keep
    keep_take e = ap (keep f) (table_more g i) ∙ keep_append (table g i) (g i ∷ []) ∙ rw e

    pub keep_pass : f (g i) ≡ false → keep f (table g (i + 1)) ≡ keep f (table g i)
    unfolding keep
    keep_pass e = ap (keep f) (table_more g i) ∙ keep_append (table g i) (g i ∷ []) ∙ rw e (append-nil (keep f (table g i)))

-- ---- a picture behind the first k

module _ (ps : List Picture) (k : ℕ) (p : Picture) where
  pub put_other : (j : ℕ) → (j ≡ k → ⊥) → place_at (set ps k p) j ≡ place_at ps j
  put_other j n = get_or-set_other ps k j p blank n

  pub put_same : k < length ps → place_at (set ps k p) k ≡ p
  put_same lt = get_or-set_same ps k p blank lt

  pub put_more : k < length ps → front (set ps k p) (k + 1) ≡ front ps k ++ (p ∷ [])
  put_more lt = table_next (place_at (set ps k p)) (place_at ps) k p (λ i l. put_other i (λ e. omega arith)) (put_same lt)
