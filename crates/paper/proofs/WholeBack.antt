-- The bytes of a reply are a whole reply: the places of its counts are where the reader of its length looks.
use Prim.Native.Nat.{ℕ, ◌+◌, ◌*◌, ◌≤◌, ◌<◌}
use mathlib.Core.Path.{◌≡◌, refl, sym, ap, ◌∙◌}
use mathlib.Core.List.{List, [], ◌∷◌, ◌++◌, append_assoc}
use mathlib.Core.Bool.{Bool, true, not, ◌&&◌, ◌||◌}
use native.Mathlib.Omega.{arith}
use lib.Dec.{leb, eqb}
use lib.ListN.{length, length-append, length-map}
use lib.Seq.{get_or-append-add}
use borrow.Author.Tests.{eq-eqb, ne_eqb, le-leb}
use Rattle.paper.specs.declared.Serial.{Serial}
use Rattle.paper.specs.declared.Surface.{Surface}
use Rattle.paper.specs.declared.Reading.{Reading}
use Rattle.paper.specs.Words.{flat}
use Rattle.paper.specs.Numbers.{u8, u16, bytes16, bytes32, serial_nos, surface_nos}
use Rattle.paper.specs.Kinds.{configure_kind, begin_kind, lists_kind, abandon_kind, reply_to, malformed_reply, word_width, shown_width, members_place}
use Rattle.paper.specs.Sets.{in_order}
use Rattle.paper.specs.Output.{Tail}
use Rattle.paper.specs.Replies.{Begun, Reply, shown_bytes, words, tail_bytes, begun_bytes, framed, bytes_of}
use Rattle.paper.specs.WholeReply.{thrown_at, released_at, tail_end, members_of, reply_end, reply_kind, whole_reply}
use Rattle.paper.proofs.Bools.{both, or_left}
use Rattle.paper.proofs.Sizes.{words_length, shown_length}
use Rattle.paper.proofs.ReadBack.{Fit, two_back, length_order}

-- what stands behind some bytes
behind : (xs ys : List ℕ) (at : ℕ) → at ≡ length xs → u8 (xs ++ ys) at ≡ u8 ys 0
behind xs ys at e = let k : at ≡ length xs + 0 = omega (arith, e) in ap (λ (n : ℕ). u8 (xs ++ ys) n) k ∙ get_or-append-add xs ys 0 0

-- the end of a tail that stands behind some bytes
module _ (xs : List ℕ) (t : Tail) (at : ℕ) (e : at ≡ length xs) where
  abbrev H : List ℕ
  H = length t.handed ∷ flat shown_bytes t.handed

  abbrev T : List ℕ
  T = length t.thrown ∷ words (serial_nos t.thrown)

  abbrev R : List ℕ
  R = length t.released ∷ words (surface_nos t.released)

  thrown_at_lem : thrown_at shown_width (xs ++ tail_bytes t) at ≡ length (xs ++ H)
  unfolding tail_bytes
  thrown_at_lem =
      let a : u8 (xs ++ tail_bytes t) at ≡ length t.handed = behind xs (tail_bytes t) at e in
      omega (arith, a, e, length-append xs H, shown_length t.handed)

  behind_handed : xs ++ tail_bytes t ≡ (xs ++ H) ++ (T ++ R)
  unfolding tail_bytes
  behind_handed = rw (append_assoc xs H (T ++ R), append_assoc (flat shown_bytes t.handed) T R)

  behind_thrown : xs ++ tail_bytes t ≡ ((xs ++ H) ++ T) ++ R
  behind_thrown = behind_handed ∙ sym (append_assoc (xs ++ H) T R)

  released_at_lem : released_at shown_width (xs ++ tail_bytes t) at ≡ length ((xs ++ H) ++ T)
  released_at_lem =
      let a : u8 (xs ++ tail_bytes t) (thrown_at shown_width (xs ++ tail_bytes t) at) ≡ length t.thrown =
      ap (λ (l : List ℕ). u8 l (thrown_at shown_width (xs ++ tail_bytes t) at)) behind_handed ∙ behind (xs ++ H) (T ++ R) (thrown_at shown_width (xs ++ tail_bytes t) at) thrown_at_lem in
      omega (arith, a, thrown_at_lem, length-append (xs ++ H) T, words_length (serial_nos t.thrown), length-map t.thrown (λ (n : Serial). n.0))

  pub tail_end_lem : tail_end shown_width (xs ++ tail_bytes t) at ≡ length (xs ++ tail_bytes t)
  tail_end_lem =
      let a : u8 (xs ++ tail_bytes t) (released_at shown_width (xs ++ tail_bytes t) at) ≡ length t.released =
      ap (λ (l : List ℕ). u8 l (released_at shown_width (xs ++ tail_bytes t) at)) behind_thrown ∙ behind ((xs ++ H) ++ T) R (released_at shown_width (xs ++ tail_bytes t) at) released_at_lem in
      let b = ap length behind_thrown in
      omega (arith, a, b, released_at_lem, length-append ((xs ++ H) ++ T) R, words_length (surface_nos t.released), length-map t.released (λ (x : Surface). x.0))

-- the kinds that a session writes
abbrev pub Known : Reply → Type 0
Known (Reply.Refused kind n) = (((leb (reply_to configure_kind) kind && leb kind (reply_to abandon_kind)) || eqb kind malformed_reply) ≡ true) × (kind < 65536)
Known (Reply.Done kind t) = (0 < kind) × (kind < 9)
Known (Reply.Started b t) = Unit {0}
Known (Reply.Listed l0 l1) = Unit {0}

-- a head that says its length, a known kind, and an end where the bytes end
framed_whole : (st : Reading) (kind number : ℕ) (rest : List ℕ) → kind < 65536 → number < 65536 → length rest ≤ 506 → ((leb (reply_to configure_kind) kind && leb kind (reply_to abandon_kind)) || (eqb kind malformed_reply && not (eqb number 0))) ≡ true
    → reply_end st (framed kind number rest) ≡ length (framed kind number rest) → whole_reply st (framed kind number rest) ≡ true
unfolding whole_reply
framed_whole st kind number rest k n l known end =
    let a : u16 (framed kind number rest) 0 ≡ 2 + length rest = two_back (2 + length rest) (omega (arith, l)) in
    let b : u16 (framed kind number rest) 2 ≡ kind = two_back kind k in
    let c : u16 (framed kind number rest) 4 ≡ number = two_back number n in
    let m : length (framed kind number rest) ≡ 6 + length rest = omega arith in
    both (le-leb 6 (length (framed kind number rest)) (omega (arith, m)))
    (both (eq-eqb (length (framed kind number rest)) (4 + u16 (framed kind number rest) 0) (omega (arith, m, a)))
    (both {a = reply_kind (framed kind number rest)} (rw (b, c) known) (eq-eqb (length (framed kind number rest)) (reply_end st (framed kind number rest)) (sym end))))

begun_length : (b : Begun) → length (begun_bytes b) ≡ 14 + 4 * length (in_order b.sets)
unfolding begun_bytes bytes32
begun_length b = omega (arith, words_length (serial_nos (in_order b.sets)), length-map (in_order b.sets) (λ (n : Serial). n.0))

refused_end : (st : Reading) (kind n : ℕ) → n < 65536 → (n ≡ 0 → ⊥) → reply_end st (framed kind n []) ≡ length (framed kind n [])
unfolding reply_end
refused_end st kind n h z = let c : u16 (framed kind n []) 4 ≡ n = two_back n h in rw (c, ne_eqb n 0 z)

done_end : (st : Reading) (kind : ℕ) (t : Tail) → kind < 9 → (kind ≡ begin_kind → ⊥) → (kind ≡ lists_kind → ⊥) → reply_end st (framed (reply_to kind) 0 (tail_bytes t)) ≡ length (framed (reply_to kind) 0 (tail_bytes t))
unfolding reply_end
done_end st kind t h z2 z3 =
    let b : u16 (framed (reply_to kind) 0 (tail_bytes t)) 2 ≡ reply_to kind = two_back (reply_to kind) (omega arith) in
    let e = tail_end_lem (bytes16 (2 + length (tail_bytes t)) ++ bytes16 (reply_to kind) ++ bytes16 0) t 6 refl in
    rw (b, ne_eqb (reply_to kind) (reply_to begin_kind) (λ q. z2 (omega arith)), ne_eqb (reply_to kind) (reply_to lists_kind) (λ q. z3 (omega arith))) e

members : (b : Begun) (t : Tail) → members_of (framed (reply_to begin_kind) 0 (begun_bytes b ++ tail_bytes t)) ≡ length (in_order b.sets)
unfolding begun_bytes bytes32
members b t = sym (length_order b.sets)

started_end : (st : Reading) (b : Begun) (t : Tail) → reply_end st (framed (reply_to begin_kind) 0 (begun_bytes b ++ tail_bytes t)) ≡ length (framed (reply_to begin_kind) 0 (begun_bytes b ++ tail_bytes t))
unfolding reply_end
started_end st b t =
    let six = bytes16 (2 + length (begun_bytes b ++ tail_bytes t)) ++ bytes16 (reply_to begin_kind) ++ bytes16 0 in
    let m : members_of (framed (reply_to begin_kind) 0 (begun_bytes b ++ tail_bytes t)) ≡ length (in_order b.sets) = members b t in
    tail_end_lem (six ++ begun_bytes b) t (members_place + word_width * members_of (framed (reply_to begin_kind) 0 (begun_bytes b ++ tail_bytes t))) (omega (arith, m, begun_length b))

listed_end : (st : Reading) (l0 l1 : List Serial) → reply_end st (framed (reply_to lists_kind) 0 (length l0 ∷ length l1 ∷ words (serial_nos (l0 ++ l1)))) ≡ length (framed (reply_to lists_kind) 0 (length l0 ∷ length l1 ∷ words (serial_nos (l0 ++ l1))))
unfolding reply_end
listed_end st l0 l1 = omega (arith, words_length (serial_nos (l0 ++ l1)), length-map (l0 ++ l1) (λ (n : Serial). n.0), length-append l0 l1)

-- a reply that fits, of a known kind, is whole
pub whole_back : (st : Reading) (x : Reply) → Fit x → Known x → length (bytes_of x) ≤ 512 → whole_reply st (bytes_of x) ≡ true
unfolding bytes_of
whole_back st (Reply.Refused kind n) f k l =
    framed_whole st kind n [] k.1 f.1 (omega arith) (rw (ne_eqb n 0 f.2, mathlib.Core.Bool.and-true) k.0) (refused_end st kind n f.1 f.2)
whole_back st (Reply.Done kind t) f k l =
    framed_whole st (reply_to kind) 0 (tail_bytes t) (omega arith) (omega arith) (omega (arith, l)) (or_left _ _ (both (le-leb (reply_to configure_kind) (reply_to kind) (omega (arith, k.0))) (le-leb (reply_to kind) (reply_to abandon_kind) (omega (arith, k.1)))))
    (done_end st kind t k.1 f.1 f.2)
whole_back st (Reply.Started b t) f k l = framed_whole st (reply_to begin_kind) 0 (begun_bytes b ++ tail_bytes t) (omega arith) (omega arith) (omega (arith, l)) refl (started_end st b t)
whole_back st (Reply.Listed l0 l1) f k l =
    framed_whole st (reply_to lists_kind) 0 (length l0 ∷ length l1 ∷ words (serial_nos (l0 ++ l1))) (omega arith) (omega arith) (omega (arith, l)) refl (listed_end st l0 l1)
