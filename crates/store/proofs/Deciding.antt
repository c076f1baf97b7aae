-- Tests on words decide how a place is written, and those of its places whether a store is in normal form. Assumes
-- nothing.
use Prim.Native.Nat.{ℕ, suc, ◌+◌, ◌*◌, ◌≤◌, ◌<◌}
use mathlib.Core.Path.{◌≡◌, refl, sym, ap, ◌∙◌}
use mathlib.Core.Bool.{Bool, true, false, ◌&&◌}
use mathlib.Core.List.{List, [], ◌∷◌}
use native.Mathlib.Omega.{arith}
use lib.Dec.{eqb, leb}
use lib.ListN.{length, get_or, drop}
use mir.Syntax.{w32}
use mir.Val.{to_z, of_z}
use borrow.Author.Tests.{eqb-true, eqb-false, leb-true, eq-eqb, le-leb}
use Rattle.paper.specs.Numbers.{a_serial, a_surface}
use Rattle.paper.specs.declared.Picture.{Picture}
use Rattle.paper.proofs.Bools.{split, both, left, right, not_both}
use Rattle.store.specs.Walks.{blank}
use Rattle.store.specs.Decides.{Decides}
use Rattle.store.specs.StoreWords.{word, flag_of, flag_word, mark_of, mark_word, picture_at, words_at, picture_words, Neat, InOrder, NormalForm}
use Rattle.store.proofs.StoreWords.{spells, neat_by}

-- ---- answers

pub decides_yes : {P : Type 0} → P → Decides true P
decides_yes p = record { only = λ e. p; always = λ x. refl }

pub decides_no : {P : Type 0} → (P → ⊥) → Decides false P
decides_no n = record { only = λ e. not_both false e refl; always = λ p. absurd (n p) }

-- any two answers are equal
pub one_answer : {a b : Bool} {P : Type 0} → Decides a P → Decides b P → a ≡ b
one_answer {a} {b} d e =
    split a (λ x. x ∙ sym (e.always (d.only x))) (λ x. split b (λ y. d.always (e.only y) ∙ sym y) (λ y. x ∙ sym y))

-- of what holds where P does and nowhere else
pub decides_by : {r : Bool} {P Q : Type 0} → (P → Q) → (Q → P) → Decides r P → Decides r Q
decides_by f g d = record { only = λ e. f (d.only e); always = λ q. d.always (g q) }

pub decides_both : {a b : Bool} {P Q : Type 0} → Decides a P → Decides b Q → Decides (a && b) (P × Q)
decides_both {a} {b} p q =
    record { only = λ e. (p.only (left a b e), q.only (right a b e)); always = λ x. both (p.always x.0) (q.always x.1) }

pub decides_is : (x y : ℕ) → Decides (eqb x y) (x ≡ y)
decides_is x y = record { only = eqb-true x y; always = eq-eqb x y }

pub decides_le : (x y : ℕ) → Decides (leb x y) (x ≤ y)
decides_le x y = record { only = leb-true x y; always = le-leb x y }

-- ---- words compared one by one, as the code does: behind an answer, and from the first on

abbrev pub same_from : Bool → List ℕ → List ℕ → Bool
same_from a [] [] = a
same_from a [] (y ∷ ys) = false
same_from a (x ∷ xs) [] = false
same_from a (x ∷ xs) (y ∷ ys) = same_from (a && eqb x y) xs ys

abbrev pub same : List ℕ → List ℕ → Bool
same [] [] = true
same [] (y ∷ ys) = false
same (x ∷ xs) [] = false
same (x ∷ xs) (y ∷ ys) = same_from (eqb x y) xs ys

-- none, and some
longer : (x : ℕ) (xs : List ℕ) → x ∷ xs ≡ [] → ⊥
longer x xs e = let n : suc (length xs) ≡ 0 = ap length e in omega arith

pub cons : {x y : ℕ} {xs ys : List ℕ} → x ≡ y → xs ≡ ys → x ∷ xs ≡ y ∷ ys
cons p q = λ i. p i ∷ q i

same_from_lem : {a : Bool} {P : Type 0} → Decides a P → (xs ys : List ℕ) → Decides (same_from a xs ys) (P × (xs ≡ ys))
same_from_lem d [] [] = decides_by (λ p. (p, refl)) (λ p. p.0) d
same_from_lem d [] (y ∷ ys) = decides_no (λ p. longer y ys (sym p.1))
same_from_lem d (x ∷ xs) [] = decides_no (λ p. longer x xs p.1)
same_from_lem {a = a} d (x ∷ xs) (y ∷ ys) =
    decides_by (λ p. (p.0.0, cons p.0.1 p.1)) (λ p. ((p.0, ap (λ (l : List ℕ). get_or l 0 0) p.1), ap (λ (l : List ℕ). drop 1 l) p.1))
    (same_from_lem {a = a && eqb x y} (decides_both d (decides_is x y)) xs ys)

pub words_told : (xs ys : List ℕ) → Decides (same xs ys) (xs ≡ ys)
words_told [] [] = decides_yes refl
words_told [] (y ∷ ys) = decides_no (λ e. longer y ys (sym e))
words_told (x ∷ xs) [] = decides_no (λ e. longer x xs e)
words_told (x ∷ xs) (y ∷ ys) =
    decides_by (λ p. cons p.0 p.1) (λ e. (ap (λ (l : List ℕ). get_or l 0 0) e, ap (λ (l : List ℕ). drop 1 l) e)) (same_from_lem (decides_is x y) xs ys)

-- with words that are the same
pub told_as : {r : Bool} {xs ys zs : List ℕ} → ys ≡ zs → Decides r (xs ≡ ys) → Decides r (xs ≡ zs)
told_as e d = decides_by (λ p. p ∙ e) (λ p. p ∙ sym e) d

-- ---- a place

-- what six words say
picture_of : List ℕ → Picture
picture_of ws =
    record { serial = a_serial (get_or ws 0 0); surface = a_surface (get_or ws 1 0); poc = to_z w32 (get_or ws 2 0); mark = mark_of (get_or ws 3 0); waiting = flag_of (get_or ws 4 0); count = get_or ws 5 0 }

module _ (t : List ℕ) (i : ℕ) where
  pub neat_told : {c d e : ℕ} → c ≡ of_z w32 (picture_at t i).poc → d ≡ mark_word (picture_at t i).mark → e ≡ flag_word (picture_at t i).waiting
      → Decides (eqb (word t (6 * i + 2)) c && eqb (word t (6 * i + 3)) d && eqb (word t (6 * i + 4)) e) (Neat t i)
  unfolding picture_at
  neat_told {c} {d} {e} x y z =
      decides_by (λ p. neat_by t i refl refl refl (record { poc = p.0.0 ∙ x; mark = p.0.1 ∙ y; flag = p.1 ∙ z }))
      (λ n. let s = spells t i n in ((s.poc ∙ sym x, s.mark ∙ sym y), s.flag ∙ sym z))
      (decides_both (decides_both (decides_is (word t (6 * i + 2)) c) (decides_is (word t (6 * i + 3)) d)) (decides_is (word t (6 * i + 4)) e))

  -- among the used places, and behind them
  pub used_told : {r : Bool} {n : ℕ} → i < n → Decides r (Neat t i) → Decides r (InOrder t n i)
  used_told l d = decides_by (λ p. (p, λ le. absurd (omega arith))) (λ p. p.0) d

  pub unused_told : {r : Bool} {n : ℕ} → n ≤ i → Decides r (words_at t i ≡ picture_words blank) → Decides r (InOrder t n i)
  unfolding picture_at picture_of
  unused_told l d =
      decides_by
      (λ e. let b : picture_at t i ≡ blank = ap picture_of e in (e ∙ ap picture_words (sym b), λ le. b))
      (λ p. p.0 ∙ ap picture_words (p.1 l))
      d

-- ---- a store

module _ (t : List ℕ) {n : ℕ} (used : n ≡ word t 96) where
  pub order_of : NormalForm t → (i : ℕ) → i < 16 → InOrder t n i
  order_of h i l = (h.tidy.neat i l, λ le. h.tidy.behind i (omega (arith, used)) l)

  pub normal_of : n ≤ 16 → ((i : ℕ) → i < 16 → InOrder t n i) → NormalForm t
  normal_of le h = record { few = omega (arith, used); tidy = record { neat = λ i l. (h i l).0; behind = λ i ge l. (h i l).1 (omega (arith, used)) } }

-- one place more
pub next_order : (t : List ℕ) (n i : ℕ) → ((j : ℕ) → j < i → InOrder t n j) → InOrder t n i → (j : ℕ) → j < i + 1 → InOrder t n j
next_order t n i h x j l = split (eqb j i) (λ e. let y : j ≡ i = eqb-true j i e in rw y x) (λ e. let y = eqb-false j i e in h j (omega arith))
