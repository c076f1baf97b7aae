-- A store read from its words and written to them, picture after picture: those before a place are read or written, and
-- what was tidy stays so. Assumes nothing.
use Prim.Native.Nat.{ℕ, ◌+◌, ◌≤◌, ◌<◌, max}
use mathlib.Core.Path.{◌≡◌, sym, ◌∙◌, subst}
use mathlib.Core.List.{List, map}
use native.Mathlib.Omega.{arith}
use lib.Dec.{eqb}
use lib.ListN.{length, set, length-set}
use lib.Seq.{get_or-set_same, get_or-set_other}
use borrow.Author.Tests.{eqb-true, eqb-false}
use Rattle.paper.proofs.Bools.{split}
use Rattle.paper.specs.declared.Picture.{Picture}
use Rattle.store.specs.Walks.{blank}
use Rattle.store.specs.StoreWords.{word, picture_at, pictures, count_in, Puts, Tidy, NormalForm}
use Rattle.store.specs.Places.{place_at, front}
use Rattle.store.proofs.StoreWords.{table_same, table_map}
use Rattle.store.proofs.Tidy.{puts_tidy, tidy_more}

-- ---- reading

-- the first i places are those of the words, each changed
pub record Loaded (g : Picture → Picture) (t : List ℕ) (ps : List Picture) (i : ℕ) : Type 0 where
  pub long : length ps ≡ 16
  pub before : (j : ℕ) → j < i → place_at ps j ≡ g (picture_at t j)

module _ {g : Picture → Picture} {t : List ℕ} where
  pub loaded_none : {ps : List Picture} → length ps ≡ 16 → Loaded g t ps 0
  loaded_none e = record { long = e; before = λ j lt. absurd (omega arith) }

  pub loaded_more : {ps : List Picture} {i : ℕ} (p : Picture) → Loaded g t ps i → i < 16 → p ≡ g (picture_at t i) → Loaded g t (set ps i p) (i + 1)
  loaded_more {ps} {i} p h lt e =
      record {
        long = length-set ps i p ∙ h.long;
        before = λ j l.
            split (eqb j i)
            (λ q. let x : j ≡ i = eqb-true j i q in rw x (get_or-set_same ps i p blank (omega (arith, h.long)) ∙ e))
            (λ q. let n = eqb-false j i q in get_or-set_other ps i j p blank n ∙ h.before j (omega arith));
      }

  pub loaded_all : {ps : List Picture} {n : ℕ} → Loaded g t ps n → front ps n ≡ map g (pictures t n)
  loaded_all {ps} {n} h = table_same (place_at ps) (λ (i : ℕ). g (picture_at t i)) n h.before ∙ sym (table_map g (picture_at t) n)

-- ---- writing

-- the words of the first i places are those of the store
pub record Saved (ps : List Picture) (t₀ t : List ℕ) (i : ℕ) : Type 0 where
  pub before : (j : ℕ) → j < i → picture_at t j ≡ place_at ps j
  pub tidy : (k : ℕ) → i ≤ k → Tidy t₀ k → Tidy t k

pub saved_none : (ps : List Picture) (t : List ℕ) → Saved ps t t 0
saved_none ps t = record { before = λ j lt. absurd (omega arith); tidy = λ k le d. d }

pub saved_more : {ps : List Picture} {t₀ t t' : List ℕ} {i : ℕ} → Saved ps t₀ t i → Puts i (place_at ps i) t t' → Saved ps t₀ t' (i + 1)
saved_more {ps} {t₀} {t} {t'} {i} h p =
    record {
      before = λ j l.
          split (eqb j i)
          (λ q. let x : j ≡ i = eqb-true j i q in rw x p.at)
          (λ q. let n = eqb-false j i q in p.others j n ∙ h.before j (omega arith));
      tidy = λ k le d. puts_tidy p (h.tidy k (omega arith) d) (omega arith);
    }

pub saved_all : {ps : List Picture} {t₀ t : List ℕ} {n : ℕ} → Saved ps t₀ t n → pictures t n ≡ front ps n
saved_all {ps} {t₀} {t} {n} h = table_same (picture_at t) (place_at ps) n h.before

-- in normal form the used places are those that the word says
pub normal_tidy : (t : List ℕ) (n : ℕ) → n ≡ count_in t → NormalForm t → Tidy t n
normal_tidy t n e h =
    let few = h.few in
    let k : word t 96 ≡ n = omega arith in
    subst (λ (i : ℕ). Tidy t i) k h.tidy

-- all that was used and all that is used then
pub saved_tidy : {ps : List Picture} {t₀ t : List ℕ} {n was top : ℕ} → Saved ps t₀ t n → was ≡ count_in t₀ → top ≡ max n was → NormalForm t₀ → Tidy t top
saved_tidy {t₀ = t₀} {was = was} h e m f = h.tidy _ (omega arith) (tidy_more (normal_tidy t₀ was e f) (omega arith))
