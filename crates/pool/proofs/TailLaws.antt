-- A tail read place by place tells the surfaces that the definitions tell: each that stands there is one bit, and all of
-- them those that the tail names. Assumes nothing.
use Prim.Native.Nat.{ℕ, zero, suc, ◌+◌, ◌*◌}
use mathlib.Core.Path.{◌≡◌, refl, sym, ap, ◌∙◌}
use mathlib.Core.List.{List, [], ◌∷◌, ◌++◌, map}
use mathlib.Core.Bool.{Bool, true, false, not, ◌&&◌, ◌||◌}
use native.Mathlib.Omega.{arith}
use native.Mathlib.Nat.{zero-add}
use lib.ListN.{length, set, drop, length-set}
use Rattle.std.proofs.lemmas.List.{get_or-set_same, get_or-set_other}
use lib.Bits.{bit_or}
use Rattle.std.specs.List.{range_with_len}
use Rattle.std.proofs.lemmas.List.FromFn.{map-range_with_len_more}
use lib.Seq.{drop-drop}
use lib.Dec.{eqb}
use borrow.Author.Tests.{eqb-true, eqb-false}
use Rattle.paper.specs.declared.Surface.{Surface}
use Rattle.paper.specs.declared.Reading.{Reading}
use Rattle.paper.specs.Numbers.{u8, u16, u32, bit, a_surface}
use Rattle.paper.specs.Kinds.{lists_kind, reply_to, number_place, word_width}
use Rattle.paper.specs.Records.{kind_of}
use Rattle.paper.specs.Reading.{shown_width_in}
use Rattle.paper.specs.Output.{Tail, quiet}
use Rattle.paper.specs.WholeReply.{released_at, tail_place}
use Rattle.paper.specs.Accounts.{tail_in}
use Rattle.paper.specs.Ledger.{read_shown, read_words, read_tail, read_reply}
use Rattle.paper.proofs.Bools.{split, not_both}
use Rattle.format.proofs.Tails.{u32_drop, words_more, handed_is, released_is, tail_refused, tail_listed, tail_read}
use Rattle.store.specs.StoreWords.{word}
use Rattle.pool.specs.Calls.{shown_on}
use Rattle.pool.specs.Memory.{SURFACES, HELD, PENDING}
use Rattle.pool.proofs.Bits.{bit_or_lem, bit_zero}
use Rattle.pool.specs.declared.tails.Tail as Code
use Rattle.pool.specs.Marks.{surfaces_of, is_of, surfaces_in, BitsOf, hit, Tells, Told}
use Rattle.pool.proofs.MarkLaws.{or_false, hit_none, hit_more}

-- ---- the surfaces that stand in a reply

hit_append : (n i : ℕ) (xs : List Surface) (x : Surface) → hit n (xs ++ (x ∷ [])) i ≡ (hit n xs i || is_of n x.0 i)
hit_append n i [] x = hit_more n i x [] ∙ ap (λ (b : Bool). is_of n x.0 i || b) (hit_none n i) ∙ or_false (is_of n x.0 i) ∙ sym (ap (λ (b : Bool). b || is_of n x.0 i) (hit_none n i))
hit_append n i (y ∷ xs) x =
    hit_more n i y (xs ++ (x ∷ [])) ∙ ap (λ (b : Bool). is_of n y.0 i || b) (hit_append n i xs x) ∙ or_more (is_of n y.0 i) (hit n xs i) (is_of n x.0 i)
    ∙ ap (λ (b : Bool). b || is_of n x.0 i) (sym (hit_more n i y xs))
  where
    or_more : (a b c : Bool) → (a || (b || c)) ≡ ((a || b) || c)
    or_more a b c = grind arith

-- one surface more
pub bits_more : (n : ℕ) (r : List ℕ) (at width i bits b : ℕ) → BitsOf n (surfaces_in r at width i) bits → ((y : ℕ) → bit y b ≡ is_of n (u32 r (at + width * i)) y)
    → BitsOf n (surfaces_in r at width (i + 1)) (bit_or bits b)
bits_more n r at width i bits b h e = λ y.
    bit_or_lem y bits b ∙ rw (h y, e y) (sym (hit_append n y (surfaces_in r at width i) (a_surface (u32 r (at + width * i)))))
    ∙ ap (λ (xs : List Surface). hit n xs y) (sym (map-range_with_len_more (λ (j : ℕ). a_surface (u32 r (at + width * j))) 0 i i (zero-add i)))

one_on : (k w a : ℕ) → k + w * a + w ≡ k + w * (a + 1)
one_on k w a = grind arith

-- the pictures handed out, from the one with number a on, are told by the surfaces that stand there
shown_from : (st : Reading) (r : List ℕ) (k m a : ℕ) → shown_on (read_shown st m (drop (k + shown_width_in st * a) r)) ≡ map (λ (i : ℕ). a_surface (u32 r (k + word_width + shown_width_in st * i))) (range_with_len a m)
unfolding read_shown
shown_from st r k zero a = refl
shown_from st r k (suc m) a =
    let w = shown_width_in st in
    let e : k + w * a + word_width ≡ k + word_width + w * a = omega arith in
    rw (u32_drop (k + w * a) word_width r, drop-drop w (k + w * a) r, e, one_on k w a, shown_from st r k m (a + 1))

words_from : (r : List ℕ) (k m a : ℕ) → map a_surface (read_words m (drop (k + word_width * a) r)) ≡ map (λ (i : ℕ). a_surface (u32 r (k + word_width * i))) (range_with_len a m)
unfolding read_words
words_from r k zero a = refl
words_from r k (suc m) a = ap (map a_surface) (words_more m (k + word_width * a) r) ∙ rw (one_on k word_width a, words_from r k m (a + 1))

module _ (r : List ℕ) (k m : ℕ) where
  shown_stand : (st : Reading) → shown_on (read_shown st m (drop k r)) ≡ surfaces_in r (k + word_width) (shown_width_in st) m
  shown_stand st = let e : k + shown_width_in st * 0 ≡ k = omega arith in ap (λ (j : ℕ). shown_on (read_shown st m (drop j r))) (sym e) ∙ shown_from st r k m 0

  words_stand : map a_surface (read_words m (drop k r)) ≡ surfaces_in r k word_width m
  words_stand = let e : k + word_width * 0 ≡ k = omega arith in ap (λ (j : ℕ). map a_surface (read_words m (drop j r))) (sym e) ∙ words_from r k m 0

-- ---- a whole tail

pub tells_tail : (n : ℕ) (st : Reading) (r : List ℕ) (at h f : ℕ)
    → BitsOf n (surfaces_in r (at + 1 + word_width) (shown_width_in st) (u8 r at)) h
    → BitsOf n (surfaces_in r (released_at (shown_width_in st) r at + 1) word_width (u8 r (released_at (shown_width_in st) r at))) f
    → Tells n (read_tail st (drop at r)) (record { handed = h; released = f })
tells_tail n st r at h f p q =
    let third = released_at (shown_width_in st) r at in
    record {
      handed = λ i. p i ∙ ap (λ (xs : List Surface). hit n xs i) (sym (ap shown_on (handed_is st at r) ∙ shown_stand r (at + 1) (u8 r at) st));
      released = λ i. q i ∙ ap (λ (xs : List Surface). hit n xs i) (sym (released_is st at r ∙ words_stand r (third + 1) (u8 r third)));
    }

-- a reply without one
pub tells_quiet : (n : ℕ) (t : Tail) → t ≡ quiet → Tells n t (record { handed = 0; released = 0 })
tells_quiet n t q =
    let none : (i : ℕ) → bit i 0 ≡ hit n [] i = λ i. bit_zero i ∙ sym (hit_none n i) in
    record {
      handed = λ i. none i ∙ ap (λ (v : Tail). hit n (shown_on v.handed) i) (sym q);
      released = λ i. none i ∙ ap (λ (v : Tail). hit n v.released i) (sym q);
    }

-- what the words are once a tail was told
module _ (ws : List ℕ) (three : length ws ≡ 3) (v : ℕ) where
  abbrev once : List ℕ
  once = set ws HELD v

  pub told_tail : (x : ℕ) (t : Tail) (a : Code.Tail) (h b : ℕ) → v ≡ bit_or h b → Tells (surfaces_of ws) t a
      → ((i : ℕ) → bit i b ≡ is_of (surfaces_of ws) x i) → ((i : ℕ) → bit i h ≡ (bit i (word ws HELD) && not (bit i a.released)))
      → Told ws x t (set once PENDING (bit_or (word once PENDING) a.handed))
  told_tail x t a h b q k e c =
      let u = bit_or (word once PENDING) a.handed in
      let few : length once ≡ 3 = length-set ws HELD v ∙ three in
      let held : word (set once PENDING u) HELD ≡ bit_or h b = get_or-set_other once PENDING HELD u 0 (omega arith) ∙ (get_or-set_same ws HELD v 0 (omega arith) ∙ q) in
      let pending : word (set once PENDING u) PENDING ≡ bit_or (word ws PENDING) a.handed = get_or-set_same once PENDING u 0 (omega arith) ∙ ap (λ (w : ℕ). bit_or w a.handed) (get_or-set_other ws HELD PENDING v 0 (omega arith)) in
      record {
        surfaces = get_or-set_other once PENDING SURFACES u 0 (omega arith) ∙ get_or-set_other ws HELD SURFACES v 0 (omega arith);
        held = λ i. ap (bit i) held ∙ (bit_or_lem i h b ∙ rw (c i, e i, k.released i));
        pending = λ i. ap (bit i) pending ∙ (bit_or_lem i (word ws PENDING) a.handed ∙ rw (k.handed i));
      }

-- ---- whether a reply has one

module _ (st : Reading) (a : List ℕ) where
  pub quiet_reply : (not (eqb (u16 a number_place) 0) || eqb (kind_of a) (reply_to lists_kind)) ≡ true → tail_in (read_reply st a) ≡ quiet
  quiet_reply h =
      split (eqb (u16 a number_place) 0)
      (λ z. tail_listed st a (eqb-true (u16 a number_place) 0 z) (eqb-true (kind_of a) (reply_to lists_kind) (rw z at h)))
      (λ z. tail_refused st a (eqb-false (u16 a number_place) 0 z))

  pub tail_is : (not (eqb (u16 a number_place) 0) || eqb (kind_of a) (reply_to lists_kind)) ≡ false → tail_in (read_reply st a) ≡ read_tail st (drop (tail_place a) a)
  tail_is h =
      split (eqb (u16 a number_place) 0)
      (λ z. tail_read st a (eqb-true (u16 a number_place) 0 z) (eqb-false (kind_of a) (reply_to lists_kind) (rw z at h)))
      (λ z. let t : true ≡ false = rw z at h in not_both true refl t)
