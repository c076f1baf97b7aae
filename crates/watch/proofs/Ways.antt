-- Each way out of the judging functions: what the code found gives the part that the paper names, and the book after
-- it.
use Prim.Native.Nat.{ℕ, ◌+◌, ◌*◌, ◌≤◌, ◌<◌}
use mathlib.Core.Path.{◌≡◌, refl, sym, ap, ◌∙◌}
use mathlib.Core.Bool.{Bool, true, false, not, ◌&&◌, ◌||◌}
use mathlib.Core.List.{List, [], ◌∷◌, ◌++◌}
use native.Mathlib.Omega.{arith}
use lib.ListN.{length, drop, length-map}
use lib.Seq.{get_or-drop}
use lib.Dec.{eqb, ltb}
use borrow.Author.Tests.{eq-eqb, ne_eqb, lt-ltb, le-ltb}
use Rattle.derivation.proofs.Pad.{is_view}
use Rattle.paper.specs.Words.{◌gives◌, first, any_b}
use Rattle.paper.specs.Numbers.{u8, bit}
use Rattle.paper.specs.Kinds.{finish_kind, discard_kind, end_kind, abandon_kind, rest_place, word_width, shown_width, begun_members, flags_place, members_place}
use Rattle.paper.specs.Sets.{in_order}
use Rattle.paper.specs.Output.{Tail}
use Rattle.paper.specs.Replies.{Reply}
use Rattle.paper.specs.WholeReply.{thrown_at, members_of}
use Rattle.paper.specs.Ledger.{Ledger, Event, Hand, Throw, Free, lies, off, free, upon, upon_all, events, none, names, clearing, read_begun, read_tail, read_serials, set_words, line_of, tell}
use Rattle.paper.specs.Watch.{tail_part, started_part, reply_part}
use Rattle.paper.specs.declared.Reading.{Reading}
use Rattle.paper.specs.declared.Serial.{Serial}
use Rattle.paper.specs.declared.Line.{Line}
use Rattle.std.specs.Prelude.{None, Some, Result, Ok, Err}
use Rattle.watch.specs.declared.Book.{Book}
use Rattle.watch.specs.declared.Lines.{Lines}
use Rattle.watch.specs.declared.demand.Part.{Part}
use Rattle.watch.specs.declared.demand.Part.TheVariants.{BegunWhileCurrent, NotNextSerial, BegunOnHeld, ThrownByCall, NamesNotHeld, NoCurrent, EndMoves, LeavesSome, StoresTooMany}
use Rattle.watch.specs.declared.demand.Broken.{Broken}
use Rattle.watch.specs.Parts.{number_of}
use Rattle.watch.proofs.Numbers.{positive}
use Rattle.std.proofs.lemmas.Result.{IfOk-weaker}
use Rattle.watch.specs.Book.{Holds, view, current_in, HoldsBook}
use Rattle.watch.specs.Events.{Tells}
use Rattle.watch.specs.Places.{started_in}
use Rattle.watch.specs.Judging.{Tidy, page_of, left_part, Gives, Judged, Lists, Ends, Abandons, Lands}
use Rattle.watch.proofs.Walks.{keep_short}
use Rattle.watch.proofs.Bytes.{none_thrown, none_handed}
use Rattle.format.proofs.Tails.{tail_there}
use Rattle.watch.proofs.ReplyLaws.{members_read}

-- ---- an answer with a part, and one with none

pub gives_no : {b : Book} {p : ℕ} {L : Ledger} (q : Part) → p ≡ number_of q → Gives b p L (Err q)
gives_no q e = record { part = sym e; book = tt }

pub gives_yes : {b : Book} {p : ℕ} {L : Ledger} {k : Book} → p ≡ 0 → HoldsBook k b.reading L b.tally → Gives b p L (Ok k)
gives_yes e h = record { part = sym e; book = h }

-- a book in normal form holds its own page
pub own_page : (b : Book) → Tidy b → HoldsBook b b.reading (page_of b) b.tally
own_page b t = record { held = t.good; few = t.few; current = refl; begun = refl; tally = refl; reading = refl }

-- events leave no more lines than there were
upon_short : (e : Event) (H : List Line) → length (upon e H) ≤ length H
unfolding upon free
upon_short (Hand x) H = omega (arith, length-map H (off x.serial.0))
upon_short (Throw n) H = omega (arith, length-map H (off n.0))
upon_short (Free x) H = keep_short (λ (e : Line). not (lies x.0 e)) H

all_short : (es : List Event) (H : List Line) → length (upon_all es H) ≤ length H
unfolding upon_all
all_short [] H = omega arith
all_short (e ∷ es) H = omega (arith, upon_short e H, all_short es (upon e H))

none_length : (H : List Line) → none H ≡ eqb (length H) 0
unfolding none
none_length [] = refl
none_length (e ∷ H) = let n : length (e ∷ H) ≡ 0 → ⊥ = omega arith in sym (ne_eqb (length (e ∷ H)) 0 n)

-- ---- begin

-- the test of a clear, read where the code reads it
pub clear_is : (st : Reading) (H : List Line) (a : List ℕ) (at n : ℕ) → n ≡ length H
    → (eqb (u8 a (thrown_at shown_width a at)) 0 || (bit 3 (u8 a flags_place) && (eqb (u8 a at) 0 && eqb n 0))) ≡ clearing (read_begun (drop rest_place a)) (read_tail st (drop at a)) H
unfolding read_begun
clear_is st H a at n e = rw (none_thrown st at a, none_handed st at a, none_length H, get_or-drop rest_place a 4 0, e)

module _ (st : Reading) (H : List Line) (a : List ℕ) (n : ℕ) where
  pub left_19 : clearing (read_begun (drop rest_place a)) (read_tail st (drop (members_place + word_width * n) a)) H ≡ false → left_part st H a n ≡ 19
  unfolding first
  left_19 e = rw e

  module _ (e : clearing (read_begun (drop rest_place a)) (read_tail st (drop (members_place + word_width * n) a)) H ≡ true) where
    pub left_12 : names (read_serials n (drop members_place a)) H ≡ false → left_part st H a n ≡ 12
    unfolding first
    left_12 f = rw (e, f)

    pub left_0 : names (read_serials n (drop members_place a)) H ≡ true → left_part st H a n ≡ 0
    unfolding first
    left_0 f = rw (e, f)

module _ (b : Book) (r a : List ℕ) where
  pub begins_3 : none (current_in b.current) ≡ false → Judged b r (started_in b.reading a) (Err BegunWhileCurrent)
  unfolding reply_part first
  begins_3 c = gives_no BegunWhileCurrent (rw c)

  module _ (c : none (current_in b.current) ≡ true) (e : Line) (w : e ≡ line_of r (read_begun (drop rest_place a))) where
    pub begins_4 : (e.serial.0 ≡ b.begun → ⊥) → Judged b r (started_in b.reading a) (Err NotNextSerial)
    unfolding reply_part first
    begins_4 n = gives_no NotNextSerial (rw (c, ne_eqb (read_begun (drop rest_place a)).serial.0 b.begun (rw w at n)))

    module _ (s : e.serial.0 ≡ b.begun) where
      pub begins_5 : any_b (lies e.surface.0) (view b.held) ≡ true → Judged b r (started_in b.reading a) (Err BegunOnHeld)
      unfolding reply_part first
      begins_5 h = gives_no BegunOnHeld (rw (c, eq-eqb (read_begun (drop rest_place a)).serial.0 b.begun (rw w at s), rw w at h))

      module _ (h : any_b (lies e.surface.0) (view b.held) ≡ false) (n : ℕ) (m : n ≡ members_of a) where
        there : {t : Result Lines Broken} → Tells (events (read_tail b.reading (drop (members_place + word_width * n) a))) (view b.held) t
            → Tells (events (read_tail b.reading (drop (4 * set_words (drop rest_place a)) (drop begun_members (drop rest_place a))))) (view b.held) t
        there g = rw (tail_there a, ← m) g

        pub begins_tail : (y : Broken) → Tells (events (read_tail b.reading (drop (members_place + word_width * n) a))) (view b.held) (Err y) → Judged b r (started_in b.reading a) (Err y.part)
        unfolding reply_part first
        begins_tail y g =
            let v : tail_part (events (read_tail b.reading (drop (4 * set_words (drop rest_place a)) (drop begun_members (drop rest_place a))))) (view b.held) ≡ number_of y.part = sym (there g).part in
            gives_no y.part (rw (c, eq-eqb (read_begun (drop rest_place a)).serial.0 b.begun (rw w at s), rw w at h, v, ne_eqb (number_of y.part) 0 (positive y.part)))

        module _ (t : Lines) (g : Tells (events (read_tail b.reading (drop (members_place + word_width * n) a))) (view b.held) (Ok t)) where
          zero_part : tail_part (events (read_tail b.reading (drop (4 * set_words (drop rest_place a)) (drop begun_members (drop rest_place a))))) (view b.held) ≡ 0
          zero_part = sym (there g).part

          left_lines : Holds t (upon_all (events (read_tail b.reading (drop (4 * set_words (drop rest_place a)) (drop begun_members (drop rest_place a))))) (view b.held))
          left_lines = (there g).lines

          -- the last two parts, read where the code reads them
          left_is : first (not (clearing (read_begun (drop rest_place a)) (read_tail b.reading (drop (4 * set_words (drop rest_place a)) (drop begun_members (drop rest_place a)))) (upon_all (events (read_tail b.reading (drop (4 * set_words (drop rest_place a)) (drop begun_members (drop rest_place a))))) (view b.held))) gives 19
              ∷ not (names (in_order (read_begun (drop rest_place a)).sets) (upon_all (events (read_tail b.reading (drop (4 * set_words (drop rest_place a)) (drop begun_members (drop rest_place a))))) (view b.held))) gives 12
              ∷ []) ≡ left_part b.reading (view t) a n
          left_is =
              let B = read_begun (drop rest_place a) in
              let H = view t in
              let x : drop (4 * set_words (drop rest_place a)) (drop begun_members (drop rest_place a)) ≡ drop (members_place + word_width * n) a = tail_there a ∙ ap (λ (k : ℕ). drop (members_place + word_width * k) a) (sym m) in
              let y : in_order B.sets ≡ read_serials n (drop members_place a) = members_read a ∙ ap (λ (k : ℕ). read_serials k (drop members_place a)) (sym m) in
              ap (λ (K : List Line). first (not (clearing B (read_tail b.reading (drop (4 * set_words (drop rest_place a)) (drop begun_members (drop rest_place a)))) K) gives 19 ∷ not (names (in_order B.sets) K) gives 12 ∷ [])) (sym (is_view left_lines))
              ∙ ap (λ (w : List ℕ). first (not (clearing B (read_tail b.reading w) H) gives 19 ∷ not (names (in_order B.sets) H) gives 12 ∷ [])) x
              ∙ ap (λ (ns : List Serial). first (not (clearing B (read_tail b.reading (drop (members_place + word_width * n) a)) H) gives 19 ∷ not (names ns H) gives 12 ∷ [])) y

          started_left : started_part (page_of b) r (read_begun (drop rest_place a)) (read_tail b.reading (drop (4 * set_words (drop rest_place a)) (drop begun_members (drop rest_place a)))) ≡ left_part b.reading (view t) a n
          unfolding first
          started_left = rw (c, eq-eqb (read_begun (drop rest_place a)).serial.0 b.begun (rw w at s), rw w at h, zero_part) left_is

          pub begins_left : (p : Part) → number_of p ≡ left_part b.reading (view t) a n → Judged b r (started_in b.reading a) (Err p)
          unfolding reply_part
          begins_left p q = gives_no p (started_left ∙ sym q)

          pub begins_0 : Tidy b → left_part b.reading (view t) a n ≡ 0
              → Judged b r (started_in b.reading a) (Ok (record { held = t; current = Some e; begun = b.begun + 1; tally = b.tally; reading = b.reading }))
          unfolding reply_part tell
          begins_0 tidy q =
              gives_yes (started_left ∙ q)
              (record {
                held = left_lines;
                few = omega (arith, left_lines.long, all_short (events (read_tail b.reading (drop (4 * set_words (drop rest_place a)) (drop begun_members (drop rest_place a))))) (view b.held), tidy.few, tidy.good.long);
                current = rw w;
                begun = refl;
                tally = refl;
                reading = refl;
              })

-- ---- lists

module _ (b : Book) (ns : List Serial) where
  pub lists_13 : none (current_in b.current) ≡ true → Lists b ns (Err NoCurrent)
  unfolding first
  lists_13 c = gives_no NoCurrent (rw c)

  module _ (c : none (current_in b.current) ≡ false) where
    pub lists_12 : names ns (view b.held ++ current_in b.current) ≡ false → Lists b ns (Err NamesNotHeld)
    unfolding first
    lists_12 q = gives_no NamesNotHeld (rw (c, q))

    pub lists_0 : Tidy b → names ns (view b.held ++ current_in b.current) ≡ true → Lists b ns (Ok b)
    unfolding first
    lists_0 tidy q = gives_yes (rw (c, q)) (own_page b tidy)

-- ---- end of sequence

module _ (b : Book) (t : Tail) where
  pub ends_14 : none (events t) ≡ false → Ends b t (Err EndMoves)
  unfolding first
  ends_14 q = gives_no EndMoves (rw q)

  pub ends_0 : Tidy b → none (events t) ≡ true → Ends b t (Ok b)
  unfolding first
  ends_0 tidy q = gives_yes (rw q) (record { held = tidy.good; few = tidy.few; current = refl; begun = refl; tally = refl; reading = refl })

-- ---- abandon

module _ (b : Book) (x : Tail) where
  pub abandons_13 : none (current_in b.current) ≡ true → Abandons b x (Err NoCurrent)
  unfolding first
  abandons_13 c = gives_no NoCurrent (rw c)

  module _ (c : none (current_in b.current) ≡ false) where
    pub abandons_tail : (y : Broken) → Tells (events x) (current_in b.current) (Err y) → Abandons b x (Err y.part)
    unfolding first
    abandons_tail y g =
        let v : tail_part (events x) (current_in b.current) ≡ number_of y.part = sym g.part in
        gives_no y.part (rw (c, v, ne_eqb (number_of y.part) 0 (positive y.part)))

    module _ (t : Lines) (g : Tells (events x) (current_in b.current) (Ok t)) where
      pub abandons_15 : (t.len ≡ 0 → ⊥) → Abandons b x (Err LeavesSome)
      unfolding first
      abandons_15 n =
          let v : tail_part (events x) (current_in b.current) ≡ 0 = sym g.part in
          let m : length (upon_all (events x) (current_in b.current)) ≡ 0 → ⊥ = λ e. n (g.lines.long ∙ e) in
          gives_no LeavesSome (rw (c, v, none_length (upon_all (events x) (current_in b.current)), ne_eqb (length (upon_all (events x) (current_in b.current))) 0 m))

      pub abandons_0 : Tidy b → t.len ≡ 0 → Abandons b x (Ok (record { held = b.held; current = None; begun = b.begun; tally = b.tally; reading = b.reading }))
      unfolding first
      abandons_0 tidy n =
          let v : tail_part (events x) (current_in b.current) ≡ 0 = sym g.part in
          let m : length (upon_all (events x) (current_in b.current)) ≡ 0 = sym g.lines.long ∙ n in
          gives_yes (rw (c, v, none_length (upon_all (events x) (current_in b.current)), m)) (record { held = tidy.good; few = tidy.few; current = refl; begun = refl; tally = refl; reading = refl })

-- ---- finish, drain, configure, discard

module _ (b : Book) (kind : ℕ) (a : List ℕ) where
  pub lands_13 : (eqb kind finish_kind && none (current_in b.current)) ≡ true → Lands b kind (read_tail b.reading (drop rest_place a)) (Err NoCurrent)
  unfolding first
  lands_13 c = gives_no NoCurrent (rw c)

  module _ (c : (eqb kind finish_kind && none (current_in b.current)) ≡ false) (w : ℕ) (e : w ≡ u8 a (thrown_at shown_width a 6)) where
    threw : {v : Bool} → (not (eqb kind discard_kind) && not (eqb w 0)) ≡ v → (not (eqb kind discard_kind) && not (none (read_tail b.reading (drop rest_place a)).thrown)) ≡ v
    threw m = rw (none_thrown b.reading 6 a, ← e) m

    pub lands_9 : (not (eqb kind discard_kind) && not (eqb w 0)) ≡ true → Lands b kind (read_tail b.reading (drop rest_place a)) (Err ThrownByCall)
    unfolding first
    lands_9 m = gives_no ThrownByCall (rw (c, threw m))

    module _ (m : (not (eqb kind discard_kind) && not (eqb w 0)) ≡ false) where
      pub lands_tail : (y : Broken) → Tells (events (read_tail b.reading (drop rest_place a))) (view b.held ++ current_in b.current) (Err y) → Lands b kind (read_tail b.reading (drop rest_place a)) (Err y.part)
      unfolding first
      lands_tail y g =
          let v : tail_part (events (read_tail b.reading (drop rest_place a))) (view b.held ++ current_in b.current) ≡ number_of y.part = sym g.part in
          gives_no y.part (rw (c, threw m, v, ne_eqb (number_of y.part) 0 (positive y.part)))

      module _ (t : Lines) (g : Tells (events (read_tail b.reading (drop rest_place a))) (view b.held ++ current_in b.current) (Ok t)) where
        landed_part : tail_part (events (read_tail b.reading (drop rest_place a))) (view b.held ++ current_in b.current) ≡ 0
        landed_part = sym g.part

        landed_lines : Holds t (upon_all (events (read_tail b.reading (drop rest_place a))) (view b.held ++ current_in b.current))
        landed_lines = g.lines

        leaves : {v : Bool} → (not (eqb kind finish_kind) && not (eqb t.len 0)) ≡ v
            → (not (eqb kind finish_kind) && not (none (upon_all (events (read_tail b.reading (drop rest_place a))) (view b.held ++ current_in b.current)))) ≡ v
        leaves n = rw (none_length (upon_all (events (read_tail b.reading (drop rest_place a))) (view b.held ++ current_in b.current)), ← landed_lines.long) n

        pub lands_15 : (not (eqb kind finish_kind) && not (eqb t.len 0)) ≡ true → Lands b kind (read_tail b.reading (drop rest_place a)) (Err LeavesSome)
        unfolding first
        lands_15 n = gives_no LeavesSome (rw (c, threw m, landed_part, leaves n))

        module _ (n : (not (eqb kind finish_kind) && not (eqb t.len 0)) ≡ false) where
          pub lands_16 : 16 < t.len → Lands b kind (read_tail b.reading (drop rest_place a)) (Err StoresTooMany)
          unfolding first
          lands_16 lt =
              let k : ltb 16 (length (upon_all (events (read_tail b.reading (drop rest_place a))) (view b.held ++ current_in b.current))) ≡ true = lt-ltb _ _ (rw landed_lines.long at lt) in
              gives_no StoresTooMany (rw (c, threw m, landed_part, leaves n, k))

          pub lands_0 : t.len ≤ 16
              → Lands b kind (read_tail b.reading (drop rest_place a)) (Ok (record { held = t; current = None; begun = b.begun; tally = b.tally; reading = b.reading }))
          unfolding first
          lands_0 le =
              let k : ltb 16 (length (upon_all (events (read_tail b.reading (drop rest_place a))) (view b.held ++ current_in b.current))) ≡ false = le-ltb _ _ (rw landed_lines.long at le) in
              gives_yes (rw (c, threw m, landed_part, leaves n, k)) (record { held = landed_lines; few = le; current = refl; begun = refl; tally = refl; reading = refl })

-- ---- the kinds that hold a tail alone

module _ (b : Book) (r : List ℕ) (kind : ℕ) (t : Tail) (h : Result Book Part) where
  pub done_7 : kind ≡ end_kind → Ends b t h → Judged b r (Reply.Done kind t) h
  unfolding reply_part tell
  done_7 k g = rw k g

  pub done_8 : kind ≡ abandon_kind → Abandons b t h → Judged b r (Reply.Done kind t) h
  unfolding reply_part tell
  done_8 k g = rw k g

  pub done_else : (kind ≡ end_kind → ⊥) → (kind ≡ abandon_kind → ⊥) → Lands b kind t h → Judged b r (Reply.Done kind t) h
  unfolding reply_part tell
  done_else n m g = rw (ne_eqb kind end_kind n, ne_eqb kind abandon_kind m) g

-- ---- lists and refusals

pub judged_listed : (b : Book) (r : List ℕ) (l0 l1 : List Serial) (h : Result Book Part) → Lists b (l0 ++ l1) h → Judged b r (Reply.Listed l0 l1) h
unfolding reply_part tell
judged_listed b r l0 l1 h g =
    record { part = g.part; book = IfOk-weaker h _ _ (λ _ k. record { held = k.held; few = k.few; current = k.current; begun = k.begun; tally = k.tally; reading = k.reading }) g.book }

pub judged_refused : (b : Book) (r : List ℕ) (kind n : ℕ) → Tidy b → Judged b r (Reply.Refused kind n) (Ok b)
unfolding reply_part tell
judged_refused b r kind n tidy = gives_yes refl (own_page b tidy)
