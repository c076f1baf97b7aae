-- Two memories in normal form that are one session have the same words. Assumes nothing.
use Prim.Native.Nat.{ℕ, ◌+◌, ◌-◌, ◌≤◌, ◌<◌}
use mathlib.Core.Path.{◌≡◌, refl, sym, ap, ◌∙◌}
use mathlib.Core.List.{List, [], ◌∷◌, map}
use native.Mathlib.Omega.{arith}
use lib.Dec.{ltb}
use lib.ListN.{length, take, drop, length-append, length-map, length-take}
use lib.Seq.{get_or-take, get_or-drop}
use borrow.Author.Tests.{ltb-true, ltb-false}
use Rattle.paper.specs.Numbers.{a_serial, serial_nos}
use Rattle.paper.specs.State.{all_refs}
use Rattle.paper.specs.State as P
use Rattle.paper.proofs.Bools.{split}
use Rattle.derivation.specs.declared.ref_lists.Refs.{Refs}
use Rattle.derivation.specs.Lists.{refs_in}
use Rattle.store.specs.StoreWords.{word}
use Rattle.store.proofs.Tidy.{one_form}
use Rattle.session.specs.View.{Memory, session_in, front_in, refs_at}
use Rattle.session.specs.Laid.{front_words_of, NormalMemory}

-- ---- the run of the sets, from the serials that are read of it

numbers : (l : List ℕ) → serial_nos (map a_serial l) ≡ l
numbers [] = refl
numbers (x ∷ l) = ap (λ (k : List ℕ). x ∷ k) (numbers l)

front_same : (n : ℕ) (xs ys : List ℕ) → map a_serial (take n xs) ≡ map a_serial (take n ys) → (i : ℕ) → i < n → word xs i ≡ word ys i
front_same n xs ys e i lt =
    let same : take n xs ≡ take n ys = sym (numbers (take n xs)) ∙ ap serial_nos e ∙ numbers (take n ys) in
    sym (get_or-take n xs i 0 lt) ∙ ap (λ (l : List ℕ). word l i) same ∙ get_or-take n ys i 0 lt

-- the same from a place on
part_same : (b n : ℕ) (xs ys : List ℕ) → map a_serial (take n (drop b xs)) ≡ map a_serial (take n (drop b ys)) → (i : ℕ) → b ≤ i → i < b + n → word xs i ≡ word ys i
part_same b n xs ys e i le lt =
    let k : b + (i - b) ≡ i = omega arith in
    let w = sym (get_or-drop b xs (i - b) 0) ∙ front_same n (drop b xs) (drop b ys) e (i - b) (omega arith) ∙ get_or-drop b ys (i - b) 0 in
    rw k at w

module _ (xs ys : List ℕ) (r : Refs) (e : refs_in xs r ≡ refs_in ys r) where
  refs_same : (i : ℕ) → i < r.before + r.after + r.long → word xs i ≡ word ys i
  unfolding refs_in
  refs_same i lt =
      split (ltb i r.before)
      (λ t. front_same r.before xs ys (ap (λ (x : P.Refs). x.before) e) i (ltb-true i r.before t))
      (λ t. let b : r.before ≤ i = ltb-false i r.before t in
      split (ltb i (r.before + r.after))
      (λ u. part_same r.before r.after xs ys (ap (λ (x : P.Refs). x.after) e) i b (ltb-true i (r.before + r.after) u))
      (λ u. part_same (r.before + r.after) r.long xs ys (ap (λ (x : P.Refs). x.lt_curr) e) i (ltb-false i (r.before + r.after) u) lt))

-- ---- a memory

abbrev pub size_of : Memory → ℕ
size_of m = let r = refs_at m.front in r.before + r.after + r.long

pub members_few : (m : Memory) → length (all_refs (session_in m).refs) ≤ size_of m
unfolding front_in refs_in
members_few m =
    let r = refs_at m.front in
    let xs = m.sets in
    let b = length-map (take r.before xs) a_serial ∙ length-take r.before xs in
    let a = length-map (take r.after (drop r.before xs)) a_serial ∙ length-take r.after (drop r.before xs) in
    let l = length-map (take r.long (drop (r.before + r.after) xs)) a_serial ∙ length-take r.long (drop (r.before + r.after) xs) in
    simp length-append (omega arith)

module _ {m1 m2 : Memory} (n1 : NormalMemory m1) (n2 : NormalMemory m2) (e : session_in m1 ≡ session_in m2) where
  pub fronts_same : m1.front ≡ m2.front
  fronts_same = n1.front ∙ ap front_words_of e ∙ sym n2.front

  pub members_same : (i : ℕ) → i < size_of m1 → word m1.sets i ≡ word m2.sets i
  unfolding front_in
  members_same =
      refs_same m1.sets m2.sets (refs_at m1.front)
      (ap (λ (v : P.Session). v.refs) e ∙ ap (λ (h : List ℕ). refs_in m2.sets (refs_at h)) (sym fronts_same))

  pub stores_same : (j : ℕ) → j < 97 → word m1.store j ≡ word m2.store j
  stores_same = one_form n1.store n2.store (ap (λ (v : P.Session). v.store) e)
