-- The tail of a reply where it lies: its three parts stand behind their counts, and `read_reply` reads it from the place
-- that the kind and the counts tell. So code that goes from place to place reads what the definitions read. Assumes
-- nothing.
use Prim.Native.Nat.{ℕ, suc, ◌+◌, ◌*◌}
use mathlib.Core.Path.{◌≡◌, ap, ◌∙◌}
use mathlib.Core.List.{List, ◌∷◌, map}
use native.Mathlib.Omega.{arith}
use lib.ListN.{drop}
use lib.Seq.{get_or-drop, drop-drop}
use lib.Dec.{eqb}
use borrow.Author.Tests.{ne_eqb, eqb-true, eqb-false}
use Rattle.paper.specs.Numbers.{u8, u16, u32, a_serial, a_surface}
use Rattle.paper.specs.Kinds.{begin_kind, lists_kind, reply_to, number_place, rest_place, word_width, begun_members, members_place}
use Rattle.paper.specs.Records.{kind_of}
use Rattle.paper.specs.Output.{quiet}
use Rattle.paper.specs.WholeReply.{thrown_at, released_at, members_of, tail_place}
use Rattle.paper.specs.Accounts.{tail_in}
use Rattle.paper.specs.Ledger.{read_words, read_shown, read_released, read_tail, read_reply, set_words}
use Rattle.paper.specs.declared.Reading.{Reading}
use Rattle.paper.specs.Reading.{shown_width_in}
use Rattle.paper.proofs.Bools.{split}
use Rattle.format.proofs.Ends.{tail_begun, tail_other}

-- ---- a number at a place

pub u8_drop : (k : ℕ) (r : List ℕ) → u8 (drop k r) 0 ≡ u8 r k
u8_drop k r = let e : k + 0 ≡ k = omega arith in rw e at (get_or-drop k r 0 0)

pub u32_drop : (k i : ℕ) (r : List ℕ) → u32 (drop k r) i ≡ u32 r (k + i)
u32_drop k i r =
    let p : k + (i + 1) ≡ k + i + 1 = omega arith in
    let q : k + (i + 2) ≡ k + i + 2 = omega arith in
    let s : k + (i + 2 + 1) ≡ k + i + 2 + 1 = omega arith in
    rw (get_or-drop k r i 0, get_or-drop k r (i + 1) 0, get_or-drop k r (i + 2) 0, get_or-drop k r (i + 2 + 1) 0, p, q, s)

pub u32_at : (k : ℕ) (r : List ℕ) → u32 (drop k r) 0 ≡ u32 r k
u32_at k r = let e : k + 0 ≡ k = omega arith in u32_drop k 0 r ∙ ap (u32 r) e

pub words_more : (m k : ℕ) (r : List ℕ) → read_words (suc m) (drop k r) ≡ u32 r k ∷ read_words m (drop (k + 4) r)
unfolding read_words
words_more m k r = rw (u32_at k r, drop-drop 4 k r)

-- ---- a tail, by its three parts

module _ (st : Reading) (at : ℕ) (r : List ℕ) where
  -- behind the pictures handed out, and behind the serials thrown away
  second_there : drop (shown_width_in st * u8 (drop at r) 0) (drop 1 (drop at r)) ≡ drop (thrown_at (shown_width_in st) r at) r
  second_there =
      let n = u8 r at in
      let g : at + (1 + shown_width_in st * n) ≡ thrown_at (shown_width_in st) r at = omega arith in
      ap (λ (k : ℕ). drop (shown_width_in st * k) (drop 1 (drop at r))) (u8_drop at r)
      ∙ drop-drop (shown_width_in st * n) 1 (drop at r) ∙ drop-drop (1 + shown_width_in st * n) at r ∙ ap (λ (k : ℕ). drop k r) g

  third_there : (k : ℕ) → drop (word_width * u8 (drop k r) 0) (drop 1 (drop k r)) ≡ drop (k + 1 + word_width * u8 r k) r
  third_there k =
      let n = u8 r k in
      let g : k + (1 + word_width * n) ≡ k + 1 + word_width * n = omega arith in
      ap (λ (m : ℕ). drop (word_width * m) (drop 1 (drop k r))) (u8_drop k r)
      ∙ drop-drop (word_width * n) 1 (drop k r) ∙ drop-drop (1 + word_width * n) k r ∙ ap (λ (m : ℕ). drop m r) g

  words_there : (k : ℕ) → read_released (drop k r) ≡ read_words (u8 r k) (drop (k + 1) r)
  unfolding read_released
  words_there k = rw (u8_drop k r, drop-drop 1 k r)

  pub handed_is : (read_tail st (drop at r)).handed ≡ read_shown st (u8 r at) (drop (at + 1) r)
  unfolding read_tail
  handed_is = rw (u8_drop at r, drop-drop 1 at r)

  pub thrown_is : (read_tail st (drop at r)).thrown ≡ map a_serial (read_words (u8 r (thrown_at (shown_width_in st) r at)) (drop (thrown_at (shown_width_in st) r at + 1) r))
  unfolding read_tail
  thrown_is = ap (λ (bs : List ℕ). map a_serial (read_released bs)) second_there ∙ ap (map a_serial) (words_there (thrown_at (shown_width_in st) r at))

  pub released_is : (read_tail st (drop at r)).released ≡ map a_surface (read_words (u8 r (released_at (shown_width_in st) r at)) (drop (released_at (shown_width_in st) r at + 1) r))
  unfolding read_tail
  released_is =
      ap (λ (bs : List ℕ). map a_surface (read_released (drop (word_width * u8 bs 0) (drop 1 bs)))) second_there
      ∙ ap (λ (bs : List ℕ). map a_surface (read_released bs)) (third_there (thrown_at (shown_width_in st) r at))
      ∙ ap (map a_surface) (words_there (released_at (shown_width_in st) r at))

-- ---- the tail of a reply

pub tail_there : (a : List ℕ) → drop (4 * set_words (drop rest_place a)) (drop begun_members (drop rest_place a)) ≡ drop (members_place + word_width * members_of a) a
tail_there a =
    let m : set_words (drop rest_place a) ≡ members_of a = rw (get_or-drop rest_place a 9 0, get_or-drop rest_place a 10 0, get_or-drop rest_place a 11 0, get_or-drop rest_place a 12 0, get_or-drop rest_place a 13 0) in
    ap (λ (k : ℕ). drop (4 * k) (drop begun_members (drop rest_place a))) m ∙ ap (drop (4 * members_of a)) (drop-drop begun_members rest_place a) ∙ drop-drop (4 * members_of a) 20 a

module _ (st : Reading) (a : List ℕ) where
  pub tail_refused : (u16 a number_place ≡ 0 → ⊥) → tail_in (read_reply st a) ≡ quiet
  unfolding read_reply tail_in
  tail_refused n = simp (ne_eqb (u16 a number_place) 0 n)

  pub tail_listed : u16 a number_place ≡ 0 → kind_of a ≡ reply_to lists_kind → tail_in (read_reply st a) ≡ quiet
  unfolding read_reply tail_in
  tail_listed z k = simp (z, k)

  pub tail_read : u16 a number_place ≡ 0 → (kind_of a ≡ reply_to lists_kind → ⊥) → tail_in (read_reply st a) ≡ read_tail st (drop (tail_place a) a)
  unfolding read_reply tail_in
  tail_read z n =
      split (eqb (kind_of a) (reply_to begin_kind))
      (λ e.
      let k = eqb-true (kind_of a) (reply_to begin_kind) e in
      rw (tail_begun a k) (simp (z, k) (ap (read_tail st) (tail_there a))))
      (λ e.
      let k = eqb-false (kind_of a) (reply_to begin_kind) e in
      rw (tail_other a k) (simp (z, e, ne_eqb (kind_of a) (reply_to lists_kind) n)))
