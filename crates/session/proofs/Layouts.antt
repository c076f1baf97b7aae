-- Memory is in normal form exactly where, part by part, its words are those that what they say is written as. Assumes
-- nothing.
use Prim.Native.Nat.{ℕ, ◌+◌, ◌≤◌}
use mathlib.Core.Path.{◌≡◌, refl, sym, ap, ◌∙◌}
use mathlib.Core.Bool.{Bool, ◌&&◌}
use mathlib.Core.List.{List, ◌∷◌, ◌++◌}
use native.Mathlib.Omega.{arith}
use lib.ListN.{length, get_or}
use Rattle.paper.specs.Words.{table}
use Rattle.derivation.specs.declared.ref_lists.Refs.{Refs}
use Rattle.derivation.specs.Lists.{refs_in}
use Rattle.derivation.proofs.Runs.{before_length, after_length, long_length}
use Rattle.store.specs.StoreWords.{word, NormalForm}
use Rattle.store.specs.Decides.{Decides}
use Rattle.store.proofs.Deciding.{decides_by, decides_both, cons}
use Rattle.session.specs.FrontPlaces.{CONFIGURED, NEXT, K, PREV, CURRENT, BEFORE, AFTER, LONG}
use Rattle.session.specs.View.{memory, session_in, front_in, limits_at, prev_at, now_at, refs_at}
use Rattle.session.specs.Laid.{limits_words, prev_words, now_words, size_words, sizes_of, front_words, front_words_of, NormalMemory, words_from, flag_words}
use Rattle.session.proofs.Fronts.{whole_words}

module _ (h xs t : List ℕ) (long : length h ≡ 23) (room : length xs ≡ 16) where
  abbrev r : Refs
  r = refs_at h

  abbrev sizes : List ℕ
  sizes = size_words (sizes_of (refs_in xs r))

  sizes_are : word h BEFORE + word h AFTER + word h LONG ≤ 16 → words_from h BEFORE 3 ≡ sizes
  unfolding table
  sizes_are le = cons (omega (arith, before_length xs r room)) (cons (omega (arith, after_length xs r room)) (cons (omega (arith, long_length xs r room)) refl))

  sizes_fit : words_from h BEFORE 3 ≡ sizes → word h BEFORE + word h AFTER + word h LONG ≤ 16
  unfolding table
  sizes_fit e =
      let b : word h BEFORE ≡ length (refs_in xs r).before = ap (λ (l : List ℕ). get_or l 0 0) e in
      let a : word h AFTER ≡ length (refs_in xs r).after = ap (λ (l : List ℕ). get_or l 1 0) e in
      let l : word h LONG ≡ length (refs_in xs r).lt_curr = ap (λ (l : List ℕ). get_or l 2 0) e in
      omega (arith, before_length xs r room, after_length xs r room, long_length xs r room)

  abbrev Written : Type 0
  Written = h ≡ front_words_of (session_in (memory h xs t))

  laid : words_from h CONFIGURED 3 ≡ flag_words h → words_from h K 5 ≡ limits_words (limits_at h) → words_from h PREV 3 ≡ prev_words (prev_at h) → words_from h CURRENT 8 ≡ now_words (now_at h) → words_from h BEFORE 3 ≡ sizes → Written
  unfolding front_in front_words table
  laid f l q n s = sym (whole_words h long) ∙ λ i. f i ++ (word h NEXT ∷ (l i ++ (q i ++ (n i ++ s i))))

  flags_of : Written → words_from h CONFIGURED 3 ≡ flag_words h
  unfolding front_in front_words table
  flags_of e = ap (λ (l : List ℕ). words_from l CONFIGURED 3) e

  limits_of : Written → words_from h K 5 ≡ limits_words (limits_at h)
  unfolding front_in front_words table
  limits_of e = ap (λ (l : List ℕ). words_from l K 5) e

  prev_of : Written → words_from h PREV 3 ≡ prev_words (prev_at h)
  unfolding front_in front_words table
  prev_of e = ap (λ (l : List ℕ). words_from l PREV 3) e

  now_of : Written → words_from h CURRENT 8 ≡ now_words (now_at h)
  unfolding front_in front_words table
  now_of e = ap (λ (l : List ℕ). words_from l CURRENT 8) e

  sizes_of_lem : Written → words_from h BEFORE 3 ≡ sizes
  unfolding front_in front_words table
  sizes_of_lem e = ap (λ (l : List ℕ). words_from l BEFORE 3) e

  pub memory_told : {a b c d e f : Bool} → Decides a (words_from h CONFIGURED 3 ≡ flag_words h) → Decides b (words_from h K 5 ≡ limits_words (limits_at h)) → Decides c (words_from h PREV 3 ≡ prev_words (prev_at h))
      → Decides d (words_from h CURRENT 8 ≡ now_words (now_at h)) → Decides e (word h BEFORE + word h AFTER + word h LONG ≤ 16) → Decides f (NormalForm t)
      → Decides (a && b && c && d && e && f) (NormalMemory (memory h xs t))
  memory_told a b c d e f =
      decides_by
      (λ p. record { front = laid p.0.0.0.0.0 p.0.0.0.0.1 p.0.0.0.1 p.0.0.1 (sizes_are p.0.1); store = p.1 })
      (λ m. let w = m.front in (((((flags_of w, limits_of w), prev_of w), now_of w), sizes_fit (sizes_of_lem w)), m.store))
      (decides_both (decides_both (decides_both (decides_both (decides_both a b) c) d) e) f)
