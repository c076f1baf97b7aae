-- Exchanges that are heard are cut off in front, and what waits behind them is moved to the start: all that was read is
-- still there.
use Prim.Native.Nat.{ℕ, ◌+◌, ◌-◌, ◌≤◌, min}
use mathlib.Core.Path.{◌≡◌, refl, sym, ap, ap₂, subst, ◌∙◌}
use mathlib.Core.List.{List, [], ◌++◌, append_assoc}
use mathlib.Core.Bool.{true, false, ◌&&◌, ◌||◌}
use native.Mathlib.Omega.{arith}
use lib.Dec.{ltb, eqb}
use lib.ListN.{length, take, drop, get_or, length-append}
use lib.Seq.{take_all, take-append-add, length-take-le, get_or-append-add}
use borrow.Author.Tests.{eqb-true, eqb-false, lt-ltb, le-ltb}
use Rattle.paper.specs.declared.Reading.{Reading}
use Rattle.paper.specs.Reading.{opening, further_all}
use Rattle.paper.specs.Blame.{blamed}
use Rattle.paper.specs.Ledger.{blank}
use Rattle.paper.specs.Watch.{Verdict, watched}
use Rattle.paper.proofs.Bools.{split, not_both}
use Rattle.paper.proofs.Bools as Bools
use Rattle.paper.proofs.Again.{further_append}
use Rattle.format.specs.Cut.{size_of, joined, is_whole, cut, rest_of}
use Rattle.format.proofs.Fitting.{within}
use Rattle.format.proofs.Cutting.{joined_on, all_append, none_whole, some_cut, front_whole}
use Rattle.stream.specs.declared.files.Feed.{Feed}
use Rattle.stream.specs.Turns.{shifted}
use Rattle.stream.specs.Files.{brought, lessened}
use Rattle.stream.proofs.Keeping.{taken_off}
use Rattle.stream.proofs.Sides.{onward_less, unread_less}
use Rattle.watch.specs.declared.exchanges.Paired.{Paired}
use Rattle.watch.specs.Book.{book_in, HoldsBook, no_tally, most}
use Rattle.watch.specs.Parts.{part_at, blamed_at}
use Rattle.watch.specs.Pairs.{tally_all, Watches, WatchesAll}
use Rattle.watch.proofs.Far.{length_none}
use Rattle.watch.proofs.ExchangeLaws.{is_ledger, same_blame, watched_even, tally_append}
use Rattle.watch.proofs.Determined.{also}
use Rattle.watch.proofs.Blocks.{next_block, next_place, next_book}
use Rattle.ledger.specs.declared.State.{State}
use Rattle.ledger.specs.Verdict.{judged}
use Rattle.ledger.specs.Turns.{Judging, Says, exchange_waits, Turned}
use Rattle.ledger.proofs.Verdicts.{broken_stands, judged_front}

not_both_whole : (n m : ℕ) → (eqb n 0 || eqb m 0) ≡ true → (ltb 0 n && ltb 0 m) ≡ false
not_both_whole n m h =
    split (eqb n 0)
    (λ e. let z = eqb-true n 0 e in rw (le-ltb 0 n (omega arith)))
    (λ e. let z = eqb-true m 0 (rw e at h) in rw (le-ltb 0 m (omega arith), mathlib.Core.Bool.and-false))

-- what was taken of a file joins what is in front of it
cut_front : {all after : List ℕ} (f : Feed) (n : ℕ) (before : List ℕ) (rs qs : List (List ℕ)) → f.held ≤ length before → n ≤ f.held → take n (take f.held before) ≡ joined qs
    → after ≡ shifted before n f.held → all ≡ joined rs ++ take f.held before → all ++ brought f (lessened f n) after ≡ joined (rs ++ qs) ++ take (f.held - n) after
cut_front {after = after} f n before rs qs h k c e a =
    joined_on rs qs (take f.held before) (brought f (lessened f n) after) (take (f.held - n) after) a (taken_off (joined qs) f.held before h k c e)

module _ {p : Paired} (s : State) (records replies : List ℕ) (h : s.records.held ≤ length records) (k : s.replies.held ≤ length replies)
    (g : WatchesAll s.book (take s.records.held records) (take s.replies.held replies) p) where
  abbrev heard : Watches s.book (take s.records.held records) (take s.replies.held replies) p
  heard = g.watches

  -- where no byte was taken no exchange is whole
  pub none_taken : p.taken ≡ 0 → exchange_waits s records replies ≡ false
  unfolding joined watched
  none_taken z =
      let w = take s.records.held records in
      let v = take s.replies.held replies in
      let a : heard.said ≡ [] = none_whole heard.said w heard.whole_said heard.cut_said z in
      let b : heard.answers ≡ [] = length_none heard.answers (sym heard.even ∙ ap length a) in
      let c : part_at p.broken ≡ 0 = heard.part ∙ ap₂ (λ (x y : List (List ℕ)). (watched s.book.reading 0 (book_in s.book) x y).part) a b in
      let d : length (take p.answered v) ≡ 0 = ap length (heard.cut_answers ∙ ap joined b) in
      let e = length-take-le p.answered v g.answered in
      let f : p.answered ≡ 0 = omega arith in
      not_both_whole (size_of w) (size_of v) (subst (λ (n : ℕ). (eqb (size_of (drop n w)) 0 || eqb (size_of v) 0) ≡ true) z (subst (λ (m : ℕ). (eqb (size_of (drop p.taken w)) 0 || eqb (size_of (drop m v)) 0) ≡ true) f (g.rest c)))

  taken_within : p.taken ≤ s.records.held
  taken_within = within s.records.held records h g.taken

  answered_within : p.answered ≤ s.replies.held
  answered_within = within s.replies.held replies k g.answered

  abbrev pub next_state : State
  next_state =
      record {
        book = p.book;
        number = min (s.number + p.pairs) most;
        records = lessened s.records p.taken;
        replies = lessened s.replies p.answered;
        broken = p.broken;
        rest = 0;
        more = eqb (part_at p.broken) 0;
      }

  -- all that was read, behind the exchanges so far and those of this turn
  module _ {R A : List ℕ} (j : Judging s records replies R A) where
    abbrev all_records_said : List (List ℕ)
    all_records_said = j.said ++ heard.said

    abbrev all_answers : List (List ℕ)
    all_answers = j.answers ++ heard.answers

    abbrev both : Verdict
    both = watched opening 0 blank all_records_said all_answers

    part_both : part_at p.broken ≡ both.part
    part_both = next_block opening blank j.said j.answers j.unbroken j.book heard

    even_both : length all_records_said ≡ length all_answers
    even_both =
        let e = (watched_even opening 0 blank j.said j.answers j.unbroken).0 in
        omega (arith, length-append j.said heard.said, length-append j.answers heard.answers, heard.even)

    number_both : min (s.number + p.pairs) most ≡ min both.at most
    number_both = let e = next_place opening blank j.said j.answers j.unbroken j.book heard in omega (arith, j.number)

    book_both : HoldsBook p.book (further_all opening (take both.at all_answers)) both.ledger (tally_all opening no_tally (take both.at all_answers))
    book_both =
        let e = next_place opening blank j.said j.answers j.unbroken j.book heard in
        let n = (watched_even opening 0 blank j.said j.answers j.unbroken).1 in
        let m : length j.answers + p.pairs ≡ both.at = omega arith in
        let t = take p.pairs heard.answers in
        let q = sym (take-append-add j.answers heard.answers p.pairs) ∙ ap (λ (x : ℕ). take x all_answers) m in
        let u = sym (tally_append opening no_tally j.answers t) ∙ ap (tally_all opening no_tally) q in
        let w = sym (further_append opening j.answers t) ∙ ap (further_all opening) q in
        also w refl u (next_book opening blank j.said j.answers j.unbroken j.book heard)

    -- what the last exchange of this turn names, if it breaks a part
    named_both : (part_at p.broken ≡ 0 → ⊥) → blamed_at p.broken ≡ blamed (further_all opening (take both.at all_answers)) both.ledger (get_or all_records_said both.at []) (get_or all_answers both.at [])
    named_both w =
        let e = next_place opening blank j.said j.answers j.unbroken j.book heard in
        let n = watched_even opening 0 blank j.said j.answers j.unbroken in
        let k : length j.said + p.pairs ≡ both.at = omega (arith, n.0, n.1) in
        let m : length j.answers + p.pairs ≡ both.at = omega (arith, n.1) in
        let x = sym (get_or-append-add j.said heard.said p.pairs []) ∙ ap (λ (i : ℕ). get_or all_records_said i []) k in
        let y = sym (get_or-append-add j.answers heard.answers p.pairs []) ∙ ap (λ (i : ℕ). get_or all_answers i []) m in
        let b = book_both in
        heard.blamed w
        ∙ ap₂ (blamed p.book.reading (book_in p.book)) x y
        ∙ same_blame (is_ledger b) p.book.reading (get_or all_records_said both.at []) (get_or all_answers both.at [])
        ∙ ap (λ (st : Reading). blamed st both.ledger (get_or all_records_said both.at []) (get_or all_answers both.at [])) b.reading

    module _ {records' replies' : List ℕ} (a : records' ≡ shifted records p.taken s.records.held)
        (b : replies' ≡ shifted replies p.answered s.replies.held) where
      said_both : R ++ brought s.records next_state.records records' ≡ joined all_records_said ++ take (s.records.held - p.taken) records'
      said_both = cut_front s.records p.taken records j.said heard.said h taken_within heard.cut_said a j.cut_said

      answers_both : A ++ brought s.replies next_state.replies replies' ≡ joined all_answers ++ take (s.replies.held - p.answered) replies'
      answers_both = cut_front s.replies p.answered replies j.answers heard.answers k answered_within heard.cut_answers b j.cut_answers

      goes : part_at p.broken ≡ 0 → Judging next_state records' replies' (R ++ brought s.records next_state.records records') (A ++ brought s.replies next_state.replies replies')
      goes z =
          let u : both.part ≡ 0 = sym part_both ∙ z in
          let n = (watched_even opening 0 blank all_records_said all_answers u).1 in
          record {
            said = all_records_said;
            answers = all_answers;
            whole_said = all_append is_whole j.said heard.said j.whole_said heard.whole_said;
            whole_answers = all_append is_whole j.answers heard.answers j.whole_answers heard.whole_answers;
            cut_said = said_both;
            cut_answers = answers_both;
            unbroken = u;
            number = number_both;
            book = subst (λ (l : List (List ℕ)). HoldsBook p.book (further_all opening l) both.ledger (tally_all opening no_tally l)) (take_all both.at all_answers (omega arith)) book_both;
          }

      breaks : (part_at p.broken ≡ 0 → ⊥) → (more others : List ℕ)
          → Says next_state (judged ((R ++ brought s.records next_state.records records') ++ more) ((A ++ brought s.replies next_state.replies replies') ++ others))
      breaks w more others =
          let x = take (s.records.held - p.taken) records' in
          let y = take (s.replies.held - p.answered) replies' in
          let u : both.part ≡ 0 → ⊥ = λ q. w (part_both ∙ q) in
          let c = ap (λ (l : List ℕ). l ++ more) said_both ∙ append_assoc (joined all_records_said) x more in
          let d = ap (λ (l : List ℕ). l ++ others) answers_both ∙ append_assoc (joined all_answers) y others in
          let v =
          ap₂ judged c d
          ∙ judged_front all_records_said all_answers (all_append is_whole j.said heard.said j.whole_said heard.whole_said) (all_append is_whole j.answers heard.answers j.whole_answers heard.whole_answers) (x ++ more) (y ++ others)
          ∙ broken_stands all_records_said all_answers even_both (cut (x ++ more)) (cut (y ++ others)) (length (rest_of (x ++ more))) (length (rest_of (y ++ others))) u in
          rw v (record { part = part_both; named = named_both w; rest = refl; number = number_both; book = book_both })

  -- where some were, one is
  some_taken : (p.taken ≡ 0 → ⊥) → exchange_waits s records replies ≡ true
  some_taken n =
      let w = take s.records.held records in
      let v = take s.replies.held replies in
      let m = some_cut heard.said w heard.cut_said g.taken n in
      let a = front_whole p.taken heard.said w heard.whole_said heard.cut_said m in
      let b = front_whole p.answered heard.answers v heard.whole_answers heard.cut_answers (omega (arith, m, heard.even)) in
      Bools.both (lt-ltb 0 (size_of w) a) (lt-ltb 0 (size_of v) b)

  -- A TURN THAT HEARS EXCHANGES
  pub takes : {records' replies' : List ℕ} → records' ≡ shifted records p.taken s.records.held
      → replies' ≡ shifted replies p.answered s.replies.held → (p.taken ≡ 0 → ⊥) → Turned s records replies next_state records' replies'
  takes {records'} {replies'} a b n =
      record {
        keeps =
            record {
              records_on = onward_less s.records p.taken records records' h taken_within a;
              replies_on = onward_less s.replies p.answered replies replies' k answered_within b;
              goes_on = λ R A j q. goes j a b (eqb-true (part_at p.broken) 0 q);
              ends = λ R A j q x y more others c d. breaks j a b (eqb-false (part_at p.broken) 0 q) more others;
            };
        hears = λ _. (unread_less s.records p.taken records', unread_less s.replies p.answered replies');
        reads = λ e. not_both (exchange_waits s records replies) (some_taken n) e;
      }
