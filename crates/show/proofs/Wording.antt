-- The words of kinds and refusals, and the texts of a reply at their places.
use Prim.Native.Nat.{ℕ, zero, suc, ◌+◌, ◌-◌, ◌*◌, ◌≤◌, ◌<◌}
use mathlib.Core.Path.{◌≡◌, refl, sym, ap, ap₂, ◌∙◌}
use mathlib.Core.List.{List, [], ◌++◌}
use mathlib.Core.Bool.{Bool, true, false, cond}
use native.Mathlib.Omega.{arith}
use borrow.Author.Tests.{eq-eqb, ne_eqb, le-leb}
use lib.Dec.{ltb}
use lib.ListN.{drop, get_or}
use lib.Seq.{drop-drop}
use mir.Val.{to_z}
use mir.Syntax.{w32}
use Rattle.paper.specs.Numbers.{u8, u16, u32, bit, serial_nos}
use Rattle.paper.specs.Kinds.{begin_kind, lists_kind, reply_offset, reply_to, number_place, rest_place, word_width, begun_flags, begun_serial, begun_counts, begun_members, flags_place, serial_place, counts_place, members_place, lists_place}
use Rattle.paper.specs.Records.{kind_of}
use Rattle.paper.proofs.Bools.{both, not_both}
use Rattle.paper.specs.declared.Reading.{Reading}
use Rattle.paper.specs.Ledger.{read_words, read_serials, read_tail, read_sets, read_begun, read_reply, set_words}
use Rattle.paper.specs.WholeReply.{members_of, whole_reply}
use Rattle.format.specs.Kind.{is_reply}
use Rattle.stream.specs.Text.{ascii, decimal, integer}
use Rattle.show.specs.Text.{serial_text}
use Rattle.show.specs.Lists.{named, short_text, long_text}
use Rattle.show.specs.Lines.{kind_word, refusal_words, refusal_word, flags_text, refused_text, done_text, told_text, listed_text, reply_text, begun_at, damaged_text, said_text}
use Rattle.show.proofs.Places.{u8_drop, u32_drop, serials_at}

-- a kind or a number that has no word of its own
other_kind : (k : ℕ) → (k ≡ 1 → ⊥) → (k ≡ 2 → ⊥) → (k ≡ 3 → ⊥) → (k ≡ 4 → ⊥) → (k ≡ 5 → ⊥) → (k ≡ 6 → ⊥) → (k ≡ 7 → ⊥) → (k ≡ 8 → ⊥) → kind_word k ≡ ascii "?"
unfolding kind_word
other_kind zero h1 h2 h3 h4 h5 h6 h7 h8 = refl
other_kind (suc zero) h1 h2 h3 h4 h5 h6 h7 h8 = absurd (h1 refl)
other_kind (suc (suc zero)) h1 h2 h3 h4 h5 h6 h7 h8 = absurd (h2 refl)
other_kind (suc (suc (suc zero))) h1 h2 h3 h4 h5 h6 h7 h8 = absurd (h3 refl)
other_kind (suc (suc (suc (suc zero)))) h1 h2 h3 h4 h5 h6 h7 h8 = absurd (h4 refl)
other_kind (suc (suc (suc (suc (suc zero))))) h1 h2 h3 h4 h5 h6 h7 h8 = absurd (h5 refl)
other_kind (suc (suc (suc (suc (suc (suc zero)))))) h1 h2 h3 h4 h5 h6 h7 h8 = absurd (h6 refl)
other_kind (suc (suc (suc (suc (suc (suc (suc zero))))))) h1 h2 h3 h4 h5 h6 h7 h8 = absurd (h7 refl)
other_kind (suc (suc (suc (suc (suc (suc (suc (suc zero)))))))) h1 h2 h3 h4 h5 h6 h7 h8 = absurd (h8 refl)
other_kind (suc (suc (suc (suc (suc (suc (suc (suc (suc n))))))))) h1 h2 h3 h4 h5 h6 h7 h8 = refl

-- the number of no kind's reply
outside : (k : ℕ) → is_reply k ≡ false → (i : ℕ) → 0 < i → i ≤ 8 → k - 256 ≡ i → ⊥
outside k h i a b e = not_both (is_reply k) (both (le-leb 257 k (omega arith)) (le-leb k 264 (omega arith))) h

pub no_reply : (k : ℕ) → is_reply k ≡ false → kind_word (k - 256) ≡ ascii "?"
no_reply k h =
    let o = outside k h in
    other_kind (k - 256) (o 1 (omega arith) (omega arith)) (o 2 (omega arith) (omega arith)) (o 3 (omega arith) (omega arith)) (o 4 (omega arith) (omega arith)) (o 5 (omega arith) (omega arith)) (o 6 (omega arith) (omega arith)) (o 7 (omega arith) (omega arith)) (o 8 (omega arith) (omega arith))

other_session : (n : ℕ) → (n ≡ 1 → ⊥) → (n ≡ 2 → ⊥) → (n ≡ 3 → ⊥) → (n ≡ 4 → ⊥) → (n ≡ 5 → ⊥) → (n ≡ 6 → ⊥) → (n ≡ 7 → ⊥) → (n ≡ 8 → ⊥) → (n ≡ 9 → ⊥) → (n ≡ 10 → ⊥) → (n ≡ 11 → ⊥) → (n ≡ 12 → ⊥) → (n ≡ 13 → ⊥) → (n ≡ 14 → ⊥) → get_or refusal_words n (ascii "unknown") ≡ ascii "unknown"
other_session zero h1 h2 h3 h4 h5 h6 h7 h8 h9 h10 h11 h12 h13 h14 = refl
other_session (suc zero) h1 h2 h3 h4 h5 h6 h7 h8 h9 h10 h11 h12 h13 h14 = absurd (h1 refl)
other_session (suc (suc zero)) h1 h2 h3 h4 h5 h6 h7 h8 h9 h10 h11 h12 h13 h14 = absurd (h2 refl)
other_session (suc (suc (suc zero))) h1 h2 h3 h4 h5 h6 h7 h8 h9 h10 h11 h12 h13 h14 = absurd (h3 refl)
other_session (suc (suc (suc (suc zero)))) h1 h2 h3 h4 h5 h6 h7 h8 h9 h10 h11 h12 h13 h14 = absurd (h4 refl)
other_session (suc (suc (suc (suc (suc zero))))) h1 h2 h3 h4 h5 h6 h7 h8 h9 h10 h11 h12 h13 h14 = absurd (h5 refl)
other_session (suc (suc (suc (suc (suc (suc zero)))))) h1 h2 h3 h4 h5 h6 h7 h8 h9 h10 h11 h12 h13 h14 = absurd (h6 refl)
other_session (suc (suc (suc (suc (suc (suc (suc zero))))))) h1 h2 h3 h4 h5 h6 h7 h8 h9 h10 h11 h12 h13 h14 = absurd (h7 refl)
other_session (suc (suc (suc (suc (suc (suc (suc (suc zero)))))))) h1 h2 h3 h4 h5 h6 h7 h8 h9 h10 h11 h12 h13 h14 = absurd (h8 refl)
other_session (suc (suc (suc (suc (suc (suc (suc (suc (suc zero))))))))) h1 h2 h3 h4 h5 h6 h7 h8 h9 h10 h11 h12 h13 h14 = absurd (h9 refl)
other_session (suc (suc (suc (suc (suc (suc (suc (suc (suc (suc zero)))))))))) h1 h2 h3 h4 h5 h6 h7 h8 h9 h10 h11 h12 h13 h14 = absurd (h10 refl)
other_session (suc (suc (suc (suc (suc (suc (suc (suc (suc (suc (suc zero))))))))))) h1 h2 h3 h4 h5 h6 h7 h8 h9 h10 h11 h12 h13 h14 = absurd (h11 refl)
other_session (suc (suc (suc (suc (suc (suc (suc (suc (suc (suc (suc (suc zero)))))))))))) h1 h2 h3 h4 h5 h6 h7 h8 h9 h10 h11 h12 h13 h14 = absurd (h12 refl)
other_session (suc (suc (suc (suc (suc (suc (suc (suc (suc (suc (suc (suc (suc zero))))))))))))) h1 h2 h3 h4 h5 h6 h7 h8 h9 h10 h11 h12 h13 h14 = absurd (h13 refl)
other_session (suc (suc (suc (suc (suc (suc (suc (suc (suc (suc (suc (suc (suc (suc zero)))))))))))))) h1 h2 h3 h4 h5 h6 h7 h8 h9 h10 h11 h12 h13 h14 = absurd (h14 refl)
other_session (suc (suc (suc (suc (suc (suc (suc (suc (suc (suc (suc (suc (suc (suc (suc n))))))))))))))) h1 h2 h3 h4 h5 h6 h7 h8 h9 h10 h11 h12 h13 h14 = refl

pub other_refusal : (n : ℕ) → (n ≡ 1 → ⊥) → (n ≡ 2 → ⊥) → (n ≡ 3 → ⊥) → (n ≡ 4 → ⊥) → (n ≡ 5 → ⊥) → (n ≡ 6 → ⊥) → (n ≡ 7 → ⊥) → (n ≡ 8 → ⊥) → (n ≡ 9 → ⊥) → (n ≡ 10 → ⊥) → (n ≡ 11 → ⊥) → (n ≡ 12 → ⊥) → (n ≡ 13 → ⊥) → (n ≡ 14 → ⊥) → (n ≡ 18 → ⊥) → refusal_word n ≡ ascii "unknown"
unfolding refusal_word
other_refusal n h1 h2 h3 h4 h5 h6 h7 h8 h9 h10 h11 h12 h13 h14 h18 = rw (ne_eqb n 18 h18) (other_session n h1 h2 h3 h4 h5 h6 h7 h8 h9 h10 h11 h12 h13 h14)

-- the flags: by name, or the byte
pub spare_flags : (n : ℕ) (a b c e : Bool) → ltb n 16 ≡ false → flags_text n a b c e ≡ ascii " flags=" ++ decimal n
unfolding flags_text
spare_flags n a b c e h = simp h

pub plain_flags : (n : ℕ) (a b c e : Bool) → ltb n 16 ≡ true → a ≡ bit 0 n → b ≡ bit 1 n → c ≡ bit 2 n → e ≡ bit 3 n → cond a (ascii " norasl") [] ++ cond b (ascii " output") [] ++ cond c (ascii " valid") [] ++ cond e (ascii " noprior") [] ≡ flags_text n (bit 0 n) (bit 1 n) (bit 2 n) (bit 3 n)
unfolding flags_text
plain_flags n a b c e h p q r s = rw (p, q, r, s) (simp h)

module _ (r : List ℕ) where
  -- what begin says of its picture
  pub told_at : told_text (u8 r flags_place) (read_begun (drop rest_place r)) ≡ ascii "begun poc=" ++ integer (to_z w32 (u32 r rest_place)) ++ flags_text (u8 r flags_place) (bit 0 (u8 r flags_place)) (bit 1 (u8 r flags_place)) (bit 2 (u8 r flags_place)) (bit 3 (u8 r flags_place)) ++ ascii " serial=" ++ decimal (u32 r serial_place)
  unfolding told_text read_begun
  told_at =
      let f : u8 (drop rest_place r) begun_flags ≡ u8 r flags_place = u8_drop rest_place r begun_flags flags_place refl in
      let p : u32 (drop rest_place r) 0 ≡ u32 r rest_place = u32_drop rest_place r 0 6 refl in
      let s : u32 (drop rest_place r) begun_serial ≡ u32 r serial_place = u32_drop rest_place r begun_serial serial_place refl in
      ap (λ (n : ℕ). ascii "begun poc=" ++ integer (to_z w32 (u32 (drop rest_place r) 0)) ++ flags_text (u8 r flags_place) (bit 0 n) (bit 1 n) (bit 2 n) (bit 3 n) ++ ascii " serial=" ++ decimal (u32 (drop rest_place r) begun_serial)) f
      ∙ ap₂ (λ (x y : ℕ). ascii "begun poc=" ++ integer (to_z w32 x) ++ flags_text (u8 r flags_place) (bit 0 (u8 r flags_place)) (bit 1 (u8 r flags_place)) (bit 2 (u8 r flags_place)) (bit 3 (u8 r flags_place)) ++ ascii " serial=" ++ decimal y) p s

  -- the counts and the places of the five sets
  at20 : drop begun_members (drop rest_place r) ≡ drop members_place r
  at20 = drop-drop begun_members rest_place r

  module _ (a b f : ℕ) (ea : a ≡ u8 r counts_place) (eb : b ≡ u8 r (counts_place + 1)) (ef : f ≡ u8 r (counts_place + 2)) where
    before_is : serial_nos (read_begun (drop rest_place r)).sets.before ≡ read_words a (drop members_place r)
    unfolding read_begun read_sets
    before_is = ap (λ (n : ℕ). serial_nos (read_serials n (drop begun_members (drop rest_place r)))) (u8_drop rest_place r begun_counts counts_place refl ∙ sym ea) ∙ serials_at a r 20 at20

    behind_a : drop (4 * u8 (drop rest_place r) begun_counts) (drop begun_members (drop rest_place r)) ≡ drop (members_place + word_width * a) r
    behind_a = ap₂ (λ (n : ℕ) (l : List ℕ). drop (4 * n) l) (u8_drop rest_place r begun_counts counts_place refl ∙ sym ea) at20 ∙ drop-drop (4 * a) 20 r

    after_is : serial_nos (read_begun (drop rest_place r)).sets.after ≡ read_words b (drop (members_place + word_width * a) r)
    unfolding read_begun read_sets
    after_is = ap (λ (n : ℕ). serial_nos (read_serials n (drop (4 * u8 (drop rest_place r) begun_counts) (drop begun_members (drop rest_place r))))) (u8_drop rest_place r (begun_counts + 1) (counts_place + 1) refl ∙ sym eb) ∙ serials_at b r (members_place + word_width * a) behind_a

    behind_b : drop (4 * u8 (drop rest_place r) (begun_counts + 1)) (drop (4 * u8 (drop rest_place r) begun_counts) (drop begun_members (drop rest_place r))) ≡ drop (members_place + word_width * (a + b)) r
    behind_b =
        let q : members_place + word_width * a + 4 * b ≡ members_place + word_width * (a + b) = omega arith in
        ap₂ (λ (n : ℕ) (l : List ℕ). drop (4 * n) l) (u8_drop rest_place r (begun_counts + 1) (counts_place + 1) refl ∙ sym eb) behind_a
        ∙ drop-drop (4 * b) (members_place + word_width * a) r
        ∙ ap (λ (n : ℕ). drop n r) q

    foll_is : serial_nos (read_begun (drop rest_place r)).sets.foll ≡ read_words f (drop (members_place + word_width * (a + b)) r)
    unfolding read_begun read_sets
    foll_is =
        ap (λ (n : ℕ). serial_nos (read_serials n (drop (4 * u8 (drop rest_place r) (begun_counts + 1)) (drop (4 * u8 (drop rest_place r) begun_counts) (drop begun_members (drop rest_place r)))))) (u8_drop rest_place r (begun_counts + 2) (counts_place + 2) refl ∙ sym ef)
        ∙ serials_at f r (members_place + word_width * (a + b)) behind_b

    pub short_at : short_text (read_begun (drop rest_place r)).sets ≡ named (ascii " before=") serial_text (read_words a (drop members_place r)) ++ named (ascii " after=") serial_text (read_words b (drop (members_place + word_width * a) r)) ++ named (ascii " foll=") serial_text (read_words f (drop (members_place + word_width * (a + b)) r))
    unfolding short_text
    short_at =
        ap₂ (λ (x y : List ℕ). named (ascii " before=") serial_text x ++ named (ascii " after=") serial_text y ++ named (ascii " foll=") serial_text (serial_nos (read_begun (drop rest_place r)).sets.foll)) before_is after_is
        ∙ ap (λ (z : List ℕ). named (ascii " before=") serial_text (read_words a (drop members_place r)) ++ named (ascii " after=") serial_text (read_words b (drop (members_place + word_width * a) r)) ++ named (ascii " foll=") serial_text z) foll_is

  module _ (s d e : ℕ) (es : s ≡ u8 r counts_place + u8 r (counts_place + 1) + u8 r (counts_place + 2)) (ed : d ≡ u8 r (counts_place + 3)) (ee : e ≡ u8 r (counts_place + 4)) where
    behind_f : drop (4 * u8 (drop rest_place r) (begun_counts + 2)) (drop (4 * u8 (drop rest_place r) (begun_counts + 1)) (drop (4 * u8 (drop rest_place r) begun_counts) (drop begun_members (drop rest_place r)))) ≡ drop (members_place + word_width * s) r
    behind_f =
        let q : members_place + word_width * (u8 r counts_place + u8 r (counts_place + 1)) + 4 * u8 r (counts_place + 2) ≡ members_place + word_width * s = omega arith in
        ap₂ (λ (n : ℕ) (l : List ℕ). drop (4 * n) l) (u8_drop rest_place r (begun_counts + 2) (counts_place + 2) refl) (behind_b (u8 r counts_place) (u8 r (counts_place + 1)) (u8 r (counts_place + 2)) refl refl refl)
        ∙ drop-drop (4 * u8 r (counts_place + 2)) (members_place + word_width * (u8 r counts_place + u8 r (counts_place + 1))) r
        ∙ ap (λ (n : ℕ). drop n r) q

    curr_is : serial_nos (read_begun (drop rest_place r)).sets.lt_curr ≡ read_words d (drop (members_place + word_width * s) r)
    unfolding read_begun read_sets
    curr_is =
        ap (λ (n : ℕ). serial_nos (read_serials n (drop (4 * u8 (drop rest_place r) (begun_counts + 2)) (drop (4 * u8 (drop rest_place r) (begun_counts + 1)) (drop (4 * u8 (drop rest_place r) begun_counts) (drop begun_members (drop rest_place r))))))) (u8_drop rest_place r (begun_counts + 3) (counts_place + 3) refl ∙ sym ed)
        ∙ serials_at d r (members_place + word_width * s) behind_f

    behind_d : drop (4 * u8 (drop rest_place r) (begun_counts + 3)) (drop (4 * u8 (drop rest_place r) (begun_counts + 2)) (drop (4 * u8 (drop rest_place r) (begun_counts + 1)) (drop (4 * u8 (drop rest_place r) begun_counts) (drop begun_members (drop rest_place r))))) ≡ drop (members_place + word_width * s + 4 * d) r
    behind_d = ap₂ (λ (n : ℕ) (l : List ℕ). drop (4 * n) l) (u8_drop rest_place r (begun_counts + 3) (counts_place + 3) refl ∙ sym ed) behind_f ∙ drop-drop (4 * d) (members_place + word_width * s) r

    lt_foll_is : serial_nos (read_begun (drop rest_place r)).sets.lt_foll ≡ read_words e (drop (members_place + word_width * s + 4 * d) r)
    unfolding read_begun read_sets
    lt_foll_is =
        ap (λ (n : ℕ). serial_nos (read_serials n (drop (4 * u8 (drop rest_place r) (begun_counts + 3)) (drop (4 * u8 (drop rest_place r) (begun_counts + 2)) (drop (4 * u8 (drop rest_place r) (begun_counts + 1)) (drop (4 * u8 (drop rest_place r) begun_counts) (drop begun_members (drop rest_place r)))))))) (u8_drop rest_place r (begun_counts + 4) (counts_place + 4) refl ∙ sym ee)
        ∙ serials_at e r (members_place + word_width * s + 4 * d) behind_d

    pub long_at : long_text (read_begun (drop rest_place r)).sets ≡ named (ascii " ltcurr=") serial_text (read_words d (drop (members_place + word_width * s) r)) ++ named (ascii " ltfoll=") serial_text (read_words e (drop (members_place + word_width * s + 4 * d) r))
    unfolding long_text
    long_at = ap₂ (λ (x y : List ℕ). named (ascii " ltcurr=") serial_text x ++ named (ascii " ltfoll=") serial_text y) curr_is lt_foll_is

  -- the tail of a begun picture
  pub begun_tail : (m : ℕ) → m ≡ members_of r → drop (members_place + word_width * m) r ≡ drop (4 * set_words (drop rest_place r)) (drop begun_members (drop rest_place r))
  begun_tail m e =
      let a = u8_drop rest_place r begun_counts counts_place refl in
      let b = u8_drop rest_place r (begun_counts + 1) (counts_place + 1) refl in
      let f = u8_drop rest_place r (begun_counts + 2) (counts_place + 2) refl in
      let d = u8_drop rest_place r (begun_counts + 3) (counts_place + 3) refl in
      let g = u8_drop rest_place r (begun_counts + 4) (counts_place + 4) refl in
      let s : m ≡ set_words (drop rest_place r) = e ∙ sym (ap₂ (λ (x y : ℕ). x + y) (ap₂ (λ (x y : ℕ). x + y) (ap₂ (λ (x y : ℕ). x + y) (ap₂ (λ (x y : ℕ). x + y) a b) f) d) g) in
      sym (drop-drop (4 * m) 20 r) ∙ ap₂ (λ (n : ℕ) (l : List ℕ). drop (4 * n) l) s (sym at20)

  -- accepted lists
  pub listed_at : (n m : ℕ) → n ≡ u8 r rest_place → m ≡ u8 r (rest_place + 1) → listed_text (read_serials (u8 r rest_place) (drop lists_place r)) (read_serials (u8 r (rest_place + 1)) (drop (4 * u8 r rest_place) (drop lists_place r))) ≡ ascii "lists" ++ named (ascii " l0=") serial_text (read_words n (drop lists_place r)) ++ named (ascii " l1=") serial_text (read_words m (drop (8 + 4 * n) r))
  unfolding listed_text
  listed_at n m e g =
      ap₂ (λ (x y : List ℕ). ascii "lists" ++ named (ascii " l0=") serial_text x ++ named (ascii " l1=") serial_text y)
      (ap (λ (k : ℕ). serial_nos (read_serials k (drop lists_place r))) (sym e) ∙ serials_at n r 8 refl)
      (ap (λ (k : ℕ). serial_nos (read_serials k (drop (4 * u8 r rest_place) (drop lists_place r)))) (sym g) ∙ serials_at m r (8 + 4 * n) (ap (λ (k : ℕ). drop (4 * k) (drop lists_place r)) (sym e) ∙ drop-drop (4 * n) 8 r))

  -- ---- each way to a text
  pub said_damaged : (st : Reading) → whole_reply st r ≡ false → said_text st r ≡ damaged_text r
  unfolding said_text
  said_damaged st e = simp e

  module _ (st : Reading) (w : whole_reply st r ≡ true) where
    pub said_refused : (u16 r number_place ≡ 0 → ⊥) → said_text st r ≡ refused_text (kind_of r) (u16 r number_place)
    unfolding said_text reply_text read_reply
    said_refused n = simp (w, ne_eqb (u16 r number_place) 0 n)

    module _ (z : u16 r number_place ≡ 0) where
      pub said_begun : kind_of r ≡ reply_to begin_kind → said_text st r ≡ begun_at st r
      unfolding said_text reply_text read_reply
      said_begun e = simp (w, eq-eqb (u16 r number_place) 0 z, eq-eqb (kind_of r) (reply_to begin_kind) e)

      module _ (n : kind_of r ≡ reply_to begin_kind → ⊥) where
        pub said_listed : kind_of r ≡ reply_to lists_kind → said_text st r ≡ listed_text (read_serials (u8 r rest_place) (drop lists_place r)) (read_serials (u8 r (rest_place + 1)) (drop (4 * u8 r rest_place) (drop lists_place r)))
        unfolding said_text reply_text read_reply
        said_listed e = simp (w, eq-eqb (u16 r number_place) 0 z, ne_eqb (kind_of r) (reply_to begin_kind) n, eq-eqb (kind_of r) (reply_to lists_kind) e)

        pub said_done : (kind_of r ≡ reply_to lists_kind → ⊥) → said_text st r ≡ done_text (kind_of r - reply_offset) (read_tail st (drop rest_place r))
        unfolding said_text reply_text read_reply
        said_done m = simp (w, eq-eqb (u16 r number_place) 0 z, ne_eqb (kind_of r) (reply_to begin_kind) n, ne_eqb (kind_of r) (reply_to lists_kind) m)
