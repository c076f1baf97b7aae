-- Each way out of the functions that find what is to be named: what the code found is what the paper names.
use Prim.Native.Nat.{ℕ, suc, ◌+◌, ◌-◌, ◌*◌, ◌≤◌}
use mathlib.Core.Path.{◌≡◌, sym, ap, ap₂, ◌∙◌}
use mathlib.Core.List.{List, map}
use native.Mathlib.Omega.{arith}
use lib.ListN.{drop}
use borrow.Author.Tests.{ne_eqb, le-ltb}
use Rattle.derivation.proofs.Pad.{is_view}
use Rattle.paper.specs.Words.{keep}
use Rattle.paper.specs.Numbers.{u8, u32, a_serial}
use Rattle.paper.specs.Kinds.{rest_place, word_width, shown_width, begun_members, members_place}
use Rattle.paper.specs.Sets.{in_order}
use Rattle.paper.specs.Output.{Tail}
use Rattle.paper.specs.WholeReply.{thrown_at, members_of}
use Rattle.paper.specs.Ledger.{Ledger, Event, lies, events, read_words, read_begun, read_tail, read_reply, read_serials, set_words, line_of}
use Rattle.paper.specs.Watch.{tail_part, part_of}
use Rattle.paper.specs.Blame.{first_line, first_serial, strangers, movable, moved_blame, done_blame, reply_blame, blamed}
use Rattle.paper.specs.declared.Reading.{Reading}
use Rattle.paper.specs.declared.Serial.{Serial}
use Rattle.paper.specs.declared.Line.{Line}
use Rattle.paper.specs.declared.Blamed.{Blamed}
use Rattle.paper.specs.declared.Blamed.TheVariants.{Nothing, Picture, Both}
use Rattle.format.proofs.Tails.{words_more, thrown_is, tail_there}
use Rattle.watch.specs.declared.Book.{Book}
use Rattle.watch.specs.declared.line.Ask.TheVariants.{Any}
use Rattle.std.specs.Prelude.{Result, Ok, Err}
use Rattle.watch.specs.declared.Lines.{Lines}
use Rattle.watch.specs.declared.demand.Broken.{Broken}
use Rattle.watch.proofs.Numbers.{positive}
use Rattle.watch.specs.Book.{view, current_in, book_in, HoldsBook}
use Rattle.watch.specs.Walks.{asking}
use Rattle.watch.specs.Events.{Tells}
use Rattle.watch.specs.Places.{started_in}
use Rattle.watch.specs.Judging.{page_of}
use Rattle.watch.proofs.Walks.{keep_all}
use Rattle.watch.proofs.ReplyLaws.{members_read}
use Rattle.watch.proofs.Hearing.{same_page}

-- ---- the first picture thrown away

module _ (st : Reading) (at : ℕ) (a : List ℕ) where
  pub thrown_none : u8 a (thrown_at shown_width a at) ≡ 0 → Nothing ≡ first_serial (read_tail st (drop at a)).thrown
  unfolding first_serial read_words
  thrown_none z = rw (thrown_is st at a, z)

  pub thrown_first : (u8 a (thrown_at shown_width a at) ≡ 0 → ⊥) → Picture (a_serial (u32 a (thrown_at shown_width a at + 1))) ≡ first_serial (read_tail st (drop at a)).thrown
  unfolding first_serial
  thrown_first n =
      let k = u8 a (thrown_at shown_width a at) in
      let e : k ≡ suc (k - 1) = omega arith in
      let w : (read_tail st (drop at a)).thrown ≡ map a_serial (read_words (suc (k - 1)) (drop (thrown_at shown_width a at + 1) a)) =
      thrown_is st at a ∙ ap (λ (m : ℕ). map a_serial (read_words m (drop (thrown_at shown_width a at + 1) a))) e in
      rw (w, words_more (k - 1) (thrown_at shown_width a at + 1) a)

-- ---- begin

module _ (p : ℕ) (b : Book) (r a : List ℕ) where
  abbrev Is : Blamed → Type 0
  Is x = x ≡ reply_blame p (page_of b) r (started_in b.reading a)

  pub begins_3 : p ≡ 3 → Is (first_line Nothing (current_in b.current))
  unfolding reply_blame
  begins_3 e = rw e

  module _ (e : Line) (w : e ≡ line_of r (read_begun (drop rest_place a))) where
    pub begins_4 : p ≡ 4 → Is (Both e.serial e.surface)
    unfolding reply_blame
    begins_4 q = rw (q, w)

    pub begins_5 : p ≡ 5 → Is (first_line Nothing (keep (lies e.surface.0) (view b.held)))
    unfolding reply_blame
    begins_5 q = rw (q, w)

  module _ (n : ℕ) (m : n ≡ members_of a) where
    abbrev moves : List Event
    moves = events (read_tail b.reading (drop (4 * set_words (drop rest_place a)) (drop begun_members (drop rest_place a))))

    abbrev moved : List Event
    moved = events (read_tail b.reading (drop (members_place + word_width * n) a))

    there : {t : Result Lines Broken} → Tells moved (view b.held) t → Tells moves (view b.held) t
    there g = rw (tail_there a, ← m) g

    module _ (x : p ≡ 3 → ⊥) (y : p ≡ 4 → ⊥) (z : p ≡ 5 → ⊥) where
      pub begins_tail : (t : Broken) → Tells moved (view b.held) (Err t) → Is t.blamed
      unfolding reply_blame
      begins_tail t g =
          let v : tail_part moves (view b.held) ≡ 0 → ⊥ = λ q. positive t.part ((there g).part ∙ q) in
          rw (ne_eqb p 3 x, ne_eqb p 4 y, ne_eqb p 5 z, ne_eqb (tail_part moves (view b.held)) 0 v) (there g).blamed

      pub begins_12 : (t : Lines) → Tells moved (view b.held) (Ok t) → (p ≡ 19 → ⊥) → Is (first_serial (strangers (read_serials n (drop members_place a)) (view t)))
      unfolding reply_blame
      begins_12 t g u =
          let v : tail_part moves (view b.held) ≡ 0 = sym (there g).part in
          let w : in_order (read_begun (drop rest_place a)).sets ≡ read_serials n (drop members_place a) = members_read a ∙ ap (λ (k : ℕ). read_serials k (drop members_place a)) (sym m) in
          rw (ne_eqb p 3 x, ne_eqb p 4 y, ne_eqb p 5 z, v, ne_eqb p 19 u) (ap₂ (λ (ns : List Serial) (H : List Line). first_serial (strangers ns H)) (sym w) (is_view (there g).lines))

    pub begins_19 : (t : Lines) → Tells moved (view b.held) (Ok t) → p ≡ 19 → Is (first_serial (read_tail b.reading (drop (members_place + word_width * n) a)).thrown)
    unfolding reply_blame
    begins_19 t g u =
        let v : tail_part moves (view b.held) ≡ 0 = sym (there g).part in
        rw (u, v, tail_there a, ← m)

-- ---- any other call

module _ (x : Tail) (H : List Line) where
  pub moved_tail : (y : Broken) → Tells (events x) H (Err y) → y.blamed ≡ moved_blame x H
  moved_tail y g = rw (ne_eqb (tail_part (events x) H) 0 (λ q. positive y.part (g.part ∙ q))) g.blamed

  pub moved_left : (t : Lines) → Tells (events x) H (Ok t) → first_line Nothing (keep (asking Any) (view t)) ≡ moved_blame x H
  moved_left t g =
      let v : tail_part (events x) H ≡ 0 = sym g.part in
      rw v (ap (first_line Nothing) (keep_all (view t) ∙ is_view g.lines))

module _ (p kind : ℕ) (L : Ledger) (t : Tail) where
  pub done_13 : p ≡ 13 → Nothing ≡ done_blame p kind L t
  done_13 e = rw e

  pub done_9 : p ≡ 9 → first_serial t.thrown ≡ done_blame p kind L t
  done_9 e = rw e

  pub done_16 : p ≡ 16 → first_line Nothing L.current ≡ done_blame p kind L t
  done_16 e = rw e

  pub done_moved : (p ≡ 13 → ⊥) → (p ≡ 9 → ⊥) → (p ≡ 16 → ⊥) → moved_blame t (movable kind L) ≡ done_blame p kind L t
  done_moved x y z = rw (ne_eqb p 13 x, ne_eqb p 9 y, ne_eqb p 16 z)

-- ---- a book in normal form names what the book names that it is made of

pub blames : (b : Book) (r a : List ℕ) (p : ℕ) → p ≡ part_of b.reading (book_in b) r a → 3 ≤ p → (t : Book) → HoldsBook t b.reading (book_in b) b.tally
    → reply_blame p (page_of t) r (read_reply t.reading a) ≡ blamed b.reading (book_in b) r a
unfolding blamed
blames b r a p e n t g =
    let q = part_of b.reading (book_in b) r a in
    rw (le-ltb q 3 (omega arith))
    (ap (λ (m : ℕ). reply_blame m (page_of t) r (read_reply t.reading a)) e ∙ ap₂ (λ (L : Ledger) (st : Reading). reply_blame q L r (read_reply st a)) (same_page b t g) g.reading)
