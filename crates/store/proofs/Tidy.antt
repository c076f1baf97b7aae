-- The normal form: what is written to a place leaves every place written as its picture is, and the places from the
-- length on are blanked. Two stores in normal form with the same pictures have the same words. Assumes nothing.
use Prim.Native.Nat.{ℕ, zero, suc, ◌+◌, ◌*◌, ◌/◌, ◌%◌, ◌≤◌, ◌<◌}
use mathlib.Core.Path.{◌≡◌, refl, sym, ap, ◌∙◌}
use mathlib.Core.List.{List}
use native.Mathlib.Omega.{arith}
use lib.Dec.{eqb, leb}
use lib.ListN.{length, get_or, set, replicate}
use lib.Seq.{get_or-set_same, get_or-set_other}
use borrow.Author.Tests.{eqb-true, eqb-false, leb-true, leb-false}
use Rattle.paper.proofs.Bools.{split}
use Rattle.paper.specs.declared.Picture.{Picture}
use Rattle.derivation.proofs.Runs.{table_get}
use Rattle.store.specs.Walks.{blank}
use Rattle.store.specs.StoreWords.{word, picture_at, pictures, stored, count_in, words_at, picture_words, Neat, Tidy, NormalForm, Puts}
use Rattle.store.proofs.StoreWords.{table_same, elsewhere, spells, neat_by, used_length}

-- a picture put at one of the first n places
pub puts_tidy : {i n : ℕ} {p : Picture} {t t' : List ℕ} → Puts i p t t' → Tidy t n → i < n → Tidy t' n
puts_tidy h d lt = record { neat = h.neat d.neat; behind = λ j le l. h.others j (λ e. omega arith) ∙ d.behind j le l }

pub tidy_more : {n m : ℕ} {t : List ℕ} → Tidy t n → n ≤ m → Tidy t m
tidy_more d le = record { neat = d.neat; behind = λ j lj l. d.behind j (omega arith) l }

-- ---- the places from k on are blanked, one after the other: those in front of i are

pub record Blanks (t₀ t : List ℕ) (k n i : ℕ) : Type 0 where
  pub kept : pictures t k ≡ pictures t₀ k
  pub neat : Tidy t₀ n → (j : ℕ) → j < 16 → Neat t j
  pub behind : Tidy t₀ n → (j : ℕ) → n ≤ j → j < 16 → picture_at t j ≡ blank
  pub blanked : (j : ℕ) → k ≤ j → j < i → picture_at t j ≡ blank

pub blanks_none : (t : List ℕ) (k n : ℕ) → Blanks t t k n k
blanks_none t k n = record { kept = refl; neat = λ d. d.neat; behind = λ d. d.behind; blanked = λ j le l. absurd (omega arith) }

pub blanks_more : {t₀ t t' : List ℕ} {k n i : ℕ} → Blanks t₀ t k n i → k ≤ i → i < n → Puts i blank t t' → Blanks t₀ t' k n (i + 1)
blanks_more {t₀} {t} {t'} {k} {n} {i} h le lt p =
    record {
      kept = table_same (picture_at t') (picture_at t) k (λ j l. p.others j (λ x. omega arith)) ∙ h.kept;
      neat = λ d. p.neat (h.neat d);
      behind = λ d j o l. p.others j (λ x. omega arith) ∙ h.behind d j o l;
      blanked = λ j o l.
          split (eqb j i)
          (λ e. let x : j ≡ i = eqb-true j i e in rw x p.at)
          (λ e. let x = eqb-false j i e in p.others j x ∙ h.blanked j o (omega arith));
    }

pub blanks_all : {t₀ t : List ℕ} {k n : ℕ} → Blanks t₀ t k n n → Tidy t₀ n → Tidy t k
blanks_all {t₀} {t} {k} {n} h d =
    record {
      neat = h.neat d;
      behind = λ j le l.
          split (leb n j)
          (λ e. let x : n ≤ j = leb-true n j e in h.behind d j x l)
          (λ e. let x : j < n = leb-false n j e in h.blanked j le x);
    }

-- ---- how many are used

-- the word behind the places is none of theirs
module _ (t : List ℕ) (n : ℕ) (room : 97 ≤ length t) where
  used_tidy : Tidy t n → Tidy (set t 96 n) n
  used_tidy d =
      let same : (j g : ℕ) → j < 16 → g < 6 → word (set t 96 n) (6 * j + g) ≡ word t (6 * j + g) = λ j g lj lg. get_or-set_other t 96 (6 * j + g) n 0 (λ e. omega arith) in
      record {
        neat = λ j l. neat_by (set t 96 n) j (same j 2 l (omega arith)) (same j 3 l (omega arith)) (same j 4 l (omega arith)) (spells t j (d.neat j l));
        behind = λ j le l. elsewhere t 16 0 n j (omega arith) (λ e. omega arith) ∙ d.behind j le l;
      }

  pub used_normal : n ≤ 16 → Tidy t n → NormalForm (set t 96 n)
  used_normal le d =
      let e : word (set t 96 n) 96 ≡ n = get_or-set_same t 96 n 0 (omega arith) in
      record { few = omega (arith, e); tidy = tidy_more (used_tidy d) (omega (arith, e)) }

-- ---- no picture

zeros : (n k : ℕ) → word (replicate n 0) k ≡ 0
zeros zero k = refl
zeros (suc n) zero = refl
zeros (suc n) (suc k) = zeros n k

zero_blank : (n i : ℕ) → picture_at (replicate n 0) i ≡ blank
unfolding picture_at
zero_blank n i = rw (zeros n (6 * i), zeros n (6 * i + 1), zeros n (6 * i + 2), zeros n (6 * i + 3), zeros n (6 * i + 4), zeros n (6 * i + 5))

pub zero_normal : (n : ℕ) → NormalForm (replicate n 0)
zero_normal n =
    record {
      few = omega (arith, zeros n 96);
      tidy = record {
        neat = λ i l. neat_by (replicate n 0) i (zeros n (6 * i + 2)) (zeros n (6 * i + 3)) (zeros n (6 * i + 4)) (record { poc = refl; mark = refl; flag = refl });
        behind = λ i le l. zero_blank n i;
      };
    }

-- ---- one normal form

-- the word of a field, of the six of a place
field : (t : List ℕ) (i g : ℕ) → g < 6 → word t (6 * i + g) ≡ get_or (words_at t i) g 0
field t i zero l = let z : 6 * i + 0 ≡ 6 * i = omega arith in ap (word t) z
field t i (suc zero) l = refl
field t i (suc (suc zero)) l = refl
field t i (suc (suc (suc zero))) l = refl
field t i (suc (suc (suc (suc zero)))) l = refl
field t i (suc (suc (suc (suc (suc zero))))) l = refl
field t i (suc (suc (suc (suc (suc (suc g)))))) l = absurd (omega arith)

module _ {t t' : List ℕ} (a : NormalForm t) (b : NormalForm t') (e : stored t ≡ stored t') where
  same_count : word t 96 ≡ word t' 96
  same_count =
      let x : length (stored t) ≡ length (stored t') = ap length e in
      omega (arith, x, used_length t, used_length t', a.few, b.few)

  same_picture : (i : ℕ) → i < 16 → picture_at t i ≡ picture_at t' i
  same_picture i l =
      split (leb (word t 96) i)
      (λ x.
      let le : word t 96 ≤ i = leb-true (word t 96) i x in
      a.tidy.behind i le l ∙ sym (b.tidy.behind i (omega (arith, same_count)) l))
      (λ x.
      let lt : i < word t 96 = leb-false (word t 96) i x in
      sym (table_get (picture_at t) (count_in t) i blank (omega arith)) ∙ ap (λ (ps : List Picture). get_or ps i blank) e
      ∙ table_get (picture_at t') (count_in t') i blank (omega (arith, same_count)))

  same_words : (i : ℕ) → i < 16 → words_at t i ≡ words_at t' i
  same_words i l = a.tidy.neat i l ∙ ap picture_words (same_picture i l) ∙ sym (b.tidy.neat i l)

  -- two stores in normal form with the same pictures have the same words
  pub one_form : (j : ℕ) → j < 97 → word t j ≡ word t' j
  one_form j l =
      split (leb 96 j)
      (λ x.
      let le : 96 ≤ j = leb-true 96 j x in
      let y : j ≡ 96 = omega arith in
      rw y same_count)
      (λ x.
      let lt : j < 96 = leb-false 96 j x in
      let q : 6 * (j / 6) + j % 6 ≡ j = omega arith in
      let g : j % 6 < 6 = omega arith in
      ap (word t) (sym q) ∙ field t (j / 6) (j % 6) g ∙ ap (λ (ws : List ℕ). get_or ws (j % 6) 0) (same_words (j / 6) (omega arith)) ∙ sym (field t' (j / 6) (j % 6) g) ∙ ap (word t') q)
