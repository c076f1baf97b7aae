-- What `read_reply` reads, by cases, and where its parts stand.
use Prim.Native.Nat.{ℕ, suc, ◌+◌, ◌-◌, ◌*◌, ◌≤◌, min}
use mathlib.Core.Path.{◌≡◌, refl, sym, ap, ◌∙◌}
use mathlib.Core.Bool.{Bool, true, false, cond, not, ◌&&◌}
use mathlib.Core.List.{List, [], ◌∷◌, ◌++◌, map, map-append}
use native.Mathlib.Omega.{arith}
use lib.ListN.{drop}
use lib.Seq.{get_or-drop, drop-drop}
use lib.Dec.{eqb}
use borrow.Author.Tests.{ne_eqb, eqb-true, eqb-false}
use Rattle.paper.specs.Numbers.{u8, u16, u32, i32, bit, a_serial, a_surface}
use Rattle.paper.specs.Kinds.{begin_kind, lists_kind, reply_offset, reply_to, malformed_reply, number_place, rest_place, word_width, shown_width, surface_place, begun_counts, begun_members, flags_place, serial_place, members_place, lists_place}
use Rattle.paper.specs.Records.{kind_of}
use Rattle.paper.specs.Words.{keep, all_b}
use Rattle.paper.specs.Sets.{in_order}
use Rattle.paper.specs.Replies.{Reply}
use Rattle.paper.specs.WholeReply.{thrown_at, members_of, tail_place}
use Rattle.paper.specs.Accounts.{tail_in}
use Rattle.paper.specs.Ledger.{read_words, read_serials, read_sets, read_begun, set_words, read_reply, heard, line_of, names}
use Rattle.paper.specs.declared.Reading.{Reading}
use Rattle.paper.specs.declared.Serial.{Serial}
use Rattle.paper.specs.declared.Line.{Line}
use Rattle.paper.proofs.Bools.{split}
use Rattle.format.proofs.Ends.{tail_begun, tail_other}
use Rattle.format.proofs.Tails.{u32_drop, words_more, tail_there}
use Rattle.watch.specs.Places.{started_in, done_in}
use Rattle.watch.specs.Book.{lists_in, refused_in, tallied, most}
use Rattle.paper.specs.Blame.{first_serial, strangers}
use Rattle.paper.specs.declared.Blamed.{Blamed}
use Rattle.paper.specs.declared.Blamed.TheVariants.{Nothing, Picture, Surface, Both}
use Rattle.watch.specs.Judging.{calls}
use Rattle.watch.specs.declared.Tally.{Tally}
use Rattle.watch.proofs.Bytes.{words_append, thrown_count, handed_count}

-- ---- the kind of reply

module _ (st : Reading) (a : List ℕ) where
  pub read_refused : (u16 a number_place ≡ 0 → ⊥) → read_reply st a ≡ Reply.Refused (kind_of a) (u16 a number_place)
  unfolding read_reply
  read_refused n = simp (ne_eqb (u16 a number_place) 0 n)

  module _ (z : u16 a number_place ≡ 0) where
    pub read_started : kind_of a ≡ reply_to begin_kind → read_reply st a ≡ started_in st a
    unfolding read_reply
    read_started k = simp (z, k)

    pub read_listed : kind_of a ≡ reply_to lists_kind → read_reply st a ≡ Reply.Listed (read_serials (u8 a rest_place) (drop lists_place a)) (read_serials (u8 a (rest_place + 1)) (drop (4 * u8 a rest_place) (drop lists_place a)))
    unfolding read_reply
    read_listed k = simp (z, k)

    pub read_done : (kind_of a ≡ reply_to begin_kind → ⊥) → (kind_of a ≡ reply_to lists_kind → ⊥) → read_reply st a ≡ done_in st a
    unfolding read_reply
    read_done n m = simp (z, ne_eqb (kind_of a) (reply_to begin_kind) n, ne_eqb (kind_of a) (reply_to lists_kind) m)

-- ---- whether it answers the record

module _ (st : Reading) (r a : List ℕ) where
  pub heard_refused : (u16 a number_place ≡ 0 → ⊥) → heard r (read_reply st a) ≡ cond (eqb (u16 a number_place) 13) (eqb (kind_of a) malformed_reply) (eqb (kind_of a) (reply_to (kind_of r)))
  unfolding heard
  heard_refused n = rw (read_refused st a n)

  pub heard_else : u16 a number_place ≡ 0 → heard r (read_reply st a) ≡ eqb (kind_of a - reply_offset) (kind_of r)
  unfolding heard
  heard_else z =
      split (eqb (kind_of a) (reply_to begin_kind))
      (λ e.
      let k : kind_of a ≡ reply_to begin_kind = eqb-true (kind_of a) (reply_to begin_kind) e in
      let m : kind_of a - reply_offset ≡ 2 = omega arith in
      ap (heard r) (read_started st a z k) ∙ ap (λ (n : ℕ). eqb n (kind_of r)) (sym m))
      (λ e.
      split (eqb (kind_of a) (reply_to lists_kind))
      (λ f.
      let k : kind_of a ≡ reply_to lists_kind = eqb-true (kind_of a) (reply_to lists_kind) f in
      let m : kind_of a - reply_offset ≡ 3 = omega arith in
      ap (heard r) (read_listed st a z k) ∙ ap (λ (n : ℕ). eqb n (kind_of r)) (sym m))
      (λ f. ap (heard r) (read_done st a z (eqb-false (kind_of a) (reply_to begin_kind) e) (eqb-false (kind_of a) (reply_to lists_kind) f))))

-- ---- the members of a begin

serials_append : (n m k : ℕ) (r : List ℕ) → read_serials n (drop k r) ++ read_serials m (drop (k + 4 * n) r) ≡ read_serials (n + m) (drop k r)
serials_append n m k r = sym (ap (map a_serial) (words_append n m k r) ∙ map-append a_serial (read_words n (drop k r)) (read_words m (drop (k + 4 * n) r)))

serials_next : (n m k o : ℕ) (r : List ℕ) → o ≡ k + 4 * n → read_serials n (drop k r) ++ read_serials m (drop o r) ≡ read_serials (n + m) (drop k r)
serials_next n m k o r e = rw e (serials_append n m k r)

-- five runs of serials, one behind the other
five_runs : (n m k l j : ℕ) (bs : List ℕ)
    → read_serials n bs ++ read_serials m (drop (4 * n) bs) ++ read_serials k (drop (4 * n + 4 * m) bs) ++ read_serials l (drop (4 * n + 4 * m + 4 * k) bs) ++ read_serials j (drop (4 * n + 4 * m + 4 * k + 4 * l) bs)
    ≡ read_serials (n + m + k + l + j) bs
five_runs n m k l j bs =
    let p : read_serials n (drop 0 bs) ++ read_serials m (drop (4 * n) bs) ≡ read_serials (n + m) (drop 0 bs) = serials_next n m 0 (4 * n) bs (omega arith) in
    let q : read_serials (n + m) (drop 0 bs) ++ read_serials k (drop (4 * n + 4 * m) bs) ≡ read_serials (n + m + k) (drop 0 bs) = serials_next (n + m) k 0 (4 * n + 4 * m) bs (omega arith) in
    let s : read_serials (n + m + k) (drop 0 bs) ++ read_serials l (drop (4 * n + 4 * m + 4 * k) bs) ≡ read_serials (n + m + k + l) (drop 0 bs) = serials_next (n + m + k) l 0 (4 * n + 4 * m + 4 * k) bs (omega arith) in
    let t : read_serials (n + m + k + l) (drop 0 bs) ++ read_serials j (drop (4 * n + 4 * m + 4 * k + 4 * l) bs) ≡ read_serials (n + m + k + l + j) (drop 0 bs) = serials_next (n + m + k + l) j 0 (4 * n + 4 * m + 4 * k + 4 * l) bs (omega arith) in
    ap (λ (x : List Serial). x ++ read_serials k (drop (4 * n + 4 * m) bs) ++ read_serials l (drop (4 * n + 4 * m + 4 * k) bs) ++ read_serials j (drop (4 * n + 4 * m + 4 * k + 4 * l) bs)) p
    ∙ ap (λ (x : List Serial). x ++ read_serials l (drop (4 * n + 4 * m + 4 * k) bs) ++ read_serials j (drop (4 * n + 4 * m + 4 * k + 4 * l) bs)) q
    ∙ ap (λ (x : List Serial). x ++ read_serials j (drop (4 * n + 4 * m + 4 * k + 4 * l) bs)) s
    ∙ t

five_places : (n m k l : ℕ) (bs : List ℕ)
    → (drop (4 * m) (drop (4 * n) bs) ≡ drop (4 * n + 4 * m) bs)
    × ((drop (4 * k) (drop (4 * m) (drop (4 * n) bs)) ≡ drop (4 * n + 4 * m + 4 * k) bs)
    × (drop (4 * l) (drop (4 * k) (drop (4 * m) (drop (4 * n) bs))) ≡ drop (4 * n + 4 * m + 4 * k + 4 * l) bs))
five_places n m k l bs =
    let f = drop-drop (4 * m) (4 * n) bs in
    let g = ap (drop (4 * k)) f ∙ drop-drop (4 * k) (4 * n + 4 * m) bs in
    (f, (g, ap (drop (4 * l)) g ∙ drop-drop (4 * l) (4 * n + 4 * m + 4 * k) bs))

pub members_read : (a : List ℕ) → in_order (read_begun (drop rest_place a)).sets ≡ read_serials (members_of a) (drop members_place a)
unfolding read_begun read_sets
members_read a =
    let n = u8 (drop rest_place a) begun_counts in
    let m = u8 (drop rest_place a) (begun_counts + 1) in
    let k = u8 (drop rest_place a) (begun_counts + 2) in
    let l = u8 (drop rest_place a) (begun_counts + 3) in
    let j = u8 (drop rest_place a) (begun_counts + 4) in
    let bs = drop begun_members (drop rest_place a) in
    let f = five_places n m k l bs in
    let e = five_runs n m k l j bs in
    let c : set_words (drop rest_place a) ≡ members_of a = rw (get_or-drop rest_place a 9 0, get_or-drop rest_place a 10 0, get_or-drop rest_place a 11 0, get_or-drop rest_place a 12 0, get_or-drop rest_place a 13 0) in
    let d : read_serials (set_words (drop rest_place a)) bs ≡ read_serials (members_of a) (drop members_place a) = ap (λ (x : ℕ). read_serials x bs) c ∙ ap (read_serials (members_of a)) (drop-drop begun_members rest_place a) in
    rw (f.1.1, f.1.0, f.0) (e ∙ d)

pub lists_read : (a : List ℕ) → read_serials (u8 a rest_place) (drop lists_place a) ++ read_serials (u8 a (rest_place + 1)) (drop (4 * u8 a rest_place) (drop lists_place a)) ≡ read_serials (u8 a rest_place + u8 a (rest_place + 1)) (drop lists_place a)
lists_read a = rw (drop-drop (4 * u8 a rest_place) 8 a) (serials_append (u8 a rest_place) (u8 a (rest_place + 1)) 8 a)

pub line_read : (r a : List ℕ) → line_of r (read_begun (drop rest_place a)) ≡ record { serial = a_serial (u32 a serial_place); surface = a_surface (u32 r surface_place); poc = i32 a rest_place; wants = bit 1 (u8 a flags_place) }
unfolding read_begun
line_read r a = rw (u32_drop rest_place 5 a, u32_drop rest_place 0 a, get_or-drop rest_place a 4 0)

-- ---- members, one after the other

module _ (H : List Line) (m k : ℕ) (r : List ℕ) where
  pub known_next : calls H (a_serial (u32 r k)) ≡ true → strangers (read_serials (suc m) (drop k r)) H ≡ strangers (read_serials m (drop (k + 4) r)) H
  unfolding strangers keep
  known_next e = rw (words_more m k r, e)

  pub strange_next : calls H (a_serial (u32 r k)) ≡ false → strangers (read_serials (suc m) (drop k r)) H ≡ a_serial (u32 r k) ∷ strangers (read_serials m (drop (k + 4) r)) H
  unfolding strangers keep
  strange_next e = rw (words_more m k r, e)

pub strange_end : (H : List Line) (bs : List ℕ) → strangers (read_serials 0 bs) H ≡ []
unfolding strangers keep read_words
strange_end H bs = refl

-- nothing is named
abbrev pub is_nothing : Blamed → Bool
is_nothing Nothing = true
is_nothing (Picture n) = false
is_nothing (Surface x) = false
is_nothing (Both n x) = false

pub something : (x : Blamed) → (x ≡ Nothing → ⊥) → is_nothing x ≡ false
something Nothing n = absurd (n refl)
something (Picture m) n = refl
something (Surface y) n = refl
something (Both m y) n = refl

-- where there is no stranger all are named
pub no_stranger : (ns : List Serial) (H : List Line) → is_nothing (first_serial (strangers ns H)) ≡ names ns H
unfolding first_serial strangers keep names all_b
no_stranger [] H = refl
no_stranger (n ∷ ns) H = go (calls H n) (no_stranger ns H)
  where
    go : (t : Bool) → is_nothing (first_serial (strangers ns H)) ≡ names ns H → is_nothing (first_serial (cond (not t) (n ∷ strangers ns H) (strangers ns H))) ≡ (t && names ns H)
    go true h = h
    go false h = refl

-- ---- the tally

stay : (n : ℕ) → n ≤ most → n ≡ min (n + 0) most
stay n h = omega arith

module _ (st : Reading) (t : Tally) (a : List ℕ) where
  pub tally_refused : (u16 a number_place ≡ 0 → ⊥) → t.handed ≤ most → t.thrown ≤ most → t.lists ≤ most
      → record { handed = t.handed; thrown = t.thrown; lists = t.lists; refused = min (t.refused + 1) most } ≡ tallied t (read_reply st a)
  unfolding tallied tail_in lists_in refused_in
  tally_refused n h u l = rw (read_refused st a n) (λ i. record { handed = stay t.handed h i; thrown = stay t.thrown u i; lists = stay t.lists l i; refused = min (t.refused + 1) most })

  module _ (z : u16 a number_place ≡ 0) where
    pub tally_listed : kind_of a ≡ reply_to lists_kind → t.handed ≤ most → t.thrown ≤ most → t.refused ≤ most
        → record { handed = t.handed; thrown = t.thrown; lists = min (t.lists + 1) most; refused = t.refused } ≡ tallied t (read_reply st a)
    unfolding tallied tail_in lists_in refused_in
    tally_listed k h u f = rw (read_listed st a z k) (λ i. record { handed = stay t.handed h i; thrown = stay t.thrown u i; lists = min (t.lists + 1) most; refused = stay t.refused f i })

    pub tally_tail : (kind_of a ≡ reply_to lists_kind → ⊥) → t.lists ≤ most → t.refused ≤ most
        → record { handed = min (t.handed + u8 a (tail_place a)) most; thrown = min (t.thrown + u8 a (thrown_at shown_width a (tail_place a))) most; lists = t.lists; refused = t.refused } ≡ tallied t (read_reply st a)
    unfolding tallied tail_in lists_in refused_in
    tally_tail n l f =
        split (eqb (kind_of a) (reply_to begin_kind))
        (λ e.
        let k : kind_of a ≡ reply_to begin_kind = eqb-true (kind_of a) (reply_to begin_kind) e in
        rw (tail_begun a k, read_started st a z k, tail_there a, handed_count st (members_place + word_width * members_of a) a, thrown_count st (members_place + word_width * members_of a) a)
        (λ i. record { handed = min (t.handed + u8 a (members_place + word_width * members_of a)) most; thrown = min (t.thrown + u8 a (thrown_at shown_width a (members_place + word_width * members_of a))) most; lists = stay t.lists l i; refused = stay t.refused f i }))
        (λ e.
        let k = eqb-false (kind_of a) (reply_to begin_kind) e in
        rw (tail_other a k, read_done st a z k n, handed_count st 6 a, thrown_count st 6 a)
        (λ i. record { handed = min (t.handed + u8 a rest_place) most; thrown = min (t.thrown + u8 a (thrown_at shown_width a 6)) most; lists = stay t.lists l i; refused = stay t.refused f i }))
