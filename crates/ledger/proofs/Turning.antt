-- A turn that hears nothing: a read goes behind what waits, so that all that was read is still there; an end is the
-- answer of the files.
use Prim.Native.Nat.{ℕ, ◌≤◌, ◌<◌, min}
use mathlib.Core.Path.{◌≡◌, refl, sym, ap, ap₂, ◌∙◌}
use mathlib.Core.List.{List, [], ◌++◌, append-nil, append_assoc}
use mathlib.Core.Bool.{Bool, true, false, not, ◌&&◌}
use native.Mathlib.Omega.{arith}
use lib.Dec.{ltb}
use lib.ListN.{length, take}
use lib.Seq.{length-take-le}
use borrow.Author.Tests.{lt-ltb, le-ltb, ltb-true, ltb-false}
use Rattle.paper.specs.Words.{first}
use Rattle.paper.specs.Reading.{opening}
use Rattle.paper.specs.Ledger.{blank}
use Rattle.paper.proofs.Bools.{not_both}
use Rattle.format.specs.Cut.{Parts, size_of, joined, parts, cut, rest_of}
use Rattle.format.proofs.Cutting.{parts_none, cut_some}
use Rattle.stream.specs.declared.files.Feed.{Feed}
use Rattle.stream.specs.Files.{Fed}
use Rattle.stream.proofs.Keeping.{still_same}
use Rattle.stream.proofs.Sides.{Side, side_fed, side_same}
use Rattle.watch.proofs.ExchangeLaws.{watched_even}
use Rattle.ledger.specs.declared.State.{State}
use Rattle.std.specs.Prelude.{Option, None}
use Rattle.paper.specs.declared.Blamed.TheVariants.{Nothing}
use Rattle.watch.specs.declared.demand.Part.TheVariants.{NotWhole, RecordAlone, ReplyAlone}
use Rattle.watch.specs.declared.demand.Broken.{Broken}
use Rattle.watch.specs.Parts.{part_at, blamed_at}
use Rattle.ledger.specs.Moves.{alone, move_of}
use Rattle.ledger.specs.Verdict.{last_part, last_rest, judged}
use Rattle.ledger.specs.Turns.{state_of, wants, Went, Judging, Says, Keeps, exchange_waits, Turned}
use Rattle.ledger.proofs.Verdicts.{rest_decides, judged_front}

-- ---- what waits in a file, with whatever stands behind it

abbrev on_from : Feed → List ℕ → List ℕ → List ℕ
on_from f l more = take f.held l ++ more

module _ {more : List ℕ} (f : Feed) (l : List ℕ) (z : ltb 0 (size_of (take f.held l)) ≡ false) (e : f.ended ≡ true) (n : f.ended ≡ true → more ≡ []) where
  -- no whole one waits, and nothing comes behind
  none_waits : parts (on_from f l more) ≡ record { whole = []; rest = take f.held l }
  none_waits =
      let x = take f.held l in
      let k = ltb-false 0 (size_of x) z in
      ap (λ (m : List ℕ). parts (x ++ m)) (n e) ∙ ap parts (append-nil x) ∙ parts_none (length x) x (omega arith)

  none_cut : length (cut (on_from f l more)) ≡ 0
  none_cut = ap (λ (p : Parts). length p.whole) none_waits

  left_over : f.held ≤ length l → length (rest_of (on_from f l more)) ≡ f.held
  left_over h = ap (λ (p : Parts). length p.rest) none_waits ∙ length-take-le f.held l h

-- a whole one waits
some_cut : (f : Feed) (l : List ℕ) → ltb 0 (size_of (take f.held l)) ≡ true → (more : List ℕ) → 0 < length (cut (on_from f l more))
some_cut f l a more = cut_some (take f.held l) more (ltb-true 0 (size_of (take f.held l)) a)

-- ---- what is left decides

module _ (n m rest : ℕ) where
  last_18 : n ≡ 0 → 0 < m → last_part n m rest ≡ 18
  unfolding first
  last_18 a b = rw (lt-ltb n m (omega arith))

  module _ (a : m ≡ 0) where
    last_1 : 0 < rest → last_part n m rest ≡ 1
    unfolding first
    last_1 b = rw (le-ltb n m (omega arith), lt-ltb 0 rest b)

    last_17 : rest ≡ 0 → 0 < n → last_part n m rest ≡ 17
    unfolding first
    last_17 b c = rw (le-ltb n m (omega arith), le-ltb 0 rest (omega arith), lt-ltb m n (omega arith))

    last_0 : rest ≡ 0 → n ≡ 0 → last_part n m rest ≡ 0
    unfolding first
    last_0 b c = rw (le-ltb n m (omega arith), le-ltb 0 rest (omega arith), le-ltb m n (omega arith))

-- ---- a file is read on

module _ (s : State) (records replies : List ℕ) (h : s.records.held ≤ length records) (k : s.replies.held ≤ length replies) where
  abbrev Next : State → List ℕ → List ℕ → Type 0
  Next = Keeps s records replies

  -- a run that ends after a read could not read
  reads : {f g : Feed} {records' replies' : List ℕ} (more : Bool) → Side s.records records f records' → Side s.replies replies g replies'
      → (more ≡ false → f.failed ≡ false → g.failed ≡ false → ⊥) → Next (state_of s f g None 0 more) records' replies'
  reads more a b n =
      record {
        records_on = a.onward;
        replies_on = b.onward;
        goes_on =
            λ R A j m.
            record {
              said = j.said;
              answers = j.answers;
              whole_said = j.whole_said;
              whole_answers = j.whole_answers;
              cut_said = a.waits R (joined j.said) j.cut_said;
              cut_answers = b.waits A (joined j.answers) j.cut_answers;
              unbroken = j.unbroken;
              number = j.number;
              book = j.book;
            };
        ends = λ R A j m p q. absurd (n m p q);
      }

  reads_records : {f : Feed} {after : List ℕ} → Fed s.records records f after → Next (state_of s f s.replies None 0 (not f.failed)) after replies
  reads_records {f} g = reads (not f.failed) (side_fed h g) (side_same s.replies replies k) (λ m p q. not_both (not f.failed) (ap not p) m)

  reads_replies : {f : Feed} {after : List ℕ} → Fed s.replies replies f after → Next (state_of s s.records f None 0 (not f.failed)) records after
  reads_replies {f} g = reads (not f.failed) (side_same s.records records h) (side_fed k g) (λ m p q. not_both (not f.failed) (ap not q) m)

  -- ---- the run ends where no exchange is whole

  abbrev said_on : List ℕ → List ℕ
  said_on = on_from s.records records

  abbrev answers_on : List ℕ → List ℕ
  answers_on = on_from s.replies replies

  -- the part is the one that what is left calls for, and so is the rest
  abbrev LastPart : ℕ → List ℕ → List ℕ → Type 0
  LastPart part more others =
      (min (length (cut (said_on more))) (length (cut (answers_on others))) ≡ 0) × (last_part (length (cut (said_on more))) (length (cut (answers_on others))) (length (rest_of (answers_on others))) ≡ part)
      × (last_rest part (length (rest_of (said_on more))) (length (rest_of (answers_on others))) ≡ last_rest part s.records.held s.replies.held)

  -- how the run ends with a part
  abbrev ended : Option Broken → State
  ended broken = state_of s s.records s.replies broken (last_rest (part_at broken) s.records.held s.replies.held) false

  says_last : {R A : List ℕ} (broken : Option Broken) → blamed_at broken ≡ Nothing → (more others : List ℕ) → Judging s records replies R A → LastPart (part_at broken) more others → Says (ended broken) (judged (R ++ more) (A ++ others))
  says_last {R} {A} broken o more others j l =
      let e = (watched_even opening 0 blank j.said j.answers j.unbroken).0 in
      let x = said_on more in
      let y = answers_on others in
      let p : R ++ more ≡ joined j.said ++ x = ap (λ (q : List ℕ). q ++ more) j.cut_said ∙ append_assoc (joined j.said) (take s.records.held records) more in
      let q : A ++ others ≡ joined j.answers ++ y = ap (λ (q : List ℕ). q ++ others) j.cut_answers ∙ append_assoc (joined j.answers) (take s.replies.held replies) others in
      let v = ap₂ judged p q ∙ judged_front j.said j.answers j.whole_said j.whole_answers x y ∙ rest_decides j.said j.answers e (cut x) (cut y) (length (rest_of x)) (length (rest_of y)) j.unbroken l.0 in
      rw v (record { part = sym l.1; named = o; rest = sym (ap (λ (q : ℕ). last_rest q (length (rest_of x)) (length (rest_of y))) l.1 ∙ l.2); number = j.number; book = j.book })

  stops : (broken : Option Broken) → blamed_at broken ≡ Nothing → ((more others : List ℕ) → (s.records.ended ≡ true → more ≡ []) → (s.replies.ended ≡ true → others ≡ []) → LastPart (part_at broken) more others)
      → Next (ended broken) records replies
  stops broken o l =
      record {
        records_on = (side_same s.records records h).onward;
        replies_on = (side_same s.replies replies k).onward;
        goes_on = λ R A j m. not_both false m refl;
        ends =
            λ R A j m a b more others c d.
            rw (still_same {all = R} s.records.held s.records.held records (omega arith), still_same {all = A} s.replies.held s.replies.held replies (omega arith))
            (says_last broken o more others j (l more others c d));
      }

  abbrev Sizes : Bool → Bool → Bool → Bool → Bool → Type 0
  Sizes said all_records_said answered allAnswered rest =
      (ltb 0 (size_of (take s.records.held records)) ≡ said) × (s.records.ended ≡ all_records_said) × (ltb 0 (size_of (take s.replies.held replies)) ≡ answered) × (s.replies.ended ≡ allAnswered)
      × (ltb 0 s.replies.held ≡ rest)

  stops_18 : {x y : Bool} → Sizes false true true x y → Next (ended (alone ReplyAlone)) records replies
  stops_18 z =
      stops (alone ReplyAlone) refl
      (λ more others c d.
      let a = none_cut s.records records z.0 z.1 c in
      let b = some_cut s.replies replies z.2 others in
      (omega arith, last_18 (length (cut (said_on more))) (length (cut (answers_on others))) (length (rest_of (answers_on others))) a b, refl))

  stops_1 : {x y : Bool} → Sizes x y false true true → Next (ended (alone NotWhole)) records replies
  stops_1 z =
      stops (alone NotWhole) refl
      (λ more others c d.
      let a = none_cut s.replies replies z.2 z.3 d in
      let b = left_over s.replies replies z.2 z.3 d k in
      let e = ltb-true 0 s.replies.held z.4 in
      (omega arith, last_1 (length (cut (said_on more))) (length (cut (answers_on others))) (length (rest_of (answers_on others))) a (omega arith), b))

  stops_17 : {x : Bool} → Sizes true x false true false → Next (ended (alone RecordAlone)) records replies
  stops_17 z =
      stops (alone RecordAlone) refl
      (λ more others c d.
      let a = none_cut s.replies replies z.2 z.3 d in
      let b = left_over s.replies replies z.2 z.3 d k in
      let e = ltb-false 0 s.replies.held z.4 in
      (omega arith, last_17 (length (cut (said_on more))) (length (cut (answers_on others))) (length (rest_of (answers_on others))) a (omega arith) (some_cut s.records records z.0 more), refl))

  stops_0 : Sizes false true false true false → Next (ended None) records replies
  stops_0 z =
      stops None refl
      (λ more others c d.
      let a = none_cut s.replies replies z.2 z.3 d in
      let b = left_over s.replies replies z.2 z.3 d k in
      let e = ltb-false 0 s.replies.held z.4 in
      let f = none_cut s.records records z.0 z.1 c in
      let g = left_over s.records records z.0 z.1 c h in
      (omega arith, last_0 (length (cut (said_on more))) (length (cut (answers_on others))) (length (rest_of (answers_on others))) a (omega arith) f, g))

  -- ---- where no exchange is whole

  module _ {r : State} {records' replies' : List ℕ} where
    stopped : {broken : Option Broken} → Next (ended broken) records replies
        → (records' ≡ records) × (replies' ≡ replies) × (r ≡ ended broken) → Next r records' replies'
    stopped t w = rw (w.0, w.1, w.2) t

    -- the move is the one that the sizes call for, and not both a whole record and a whole reply wait
    moved : (said all_records_said answered allAnswered rest : Bool) → Sizes said all_records_said answered allAnswered rest → (said && answered) ≡ false
        → Went s (move_of said all_records_said answered allAnswered rest) records replies r records' replies' → Next r records' replies'
    moved true x true y z e n w = not_both true refl n
    moved true x false false z e n w = rw (w.1, w.2) (reads_replies w.0)
    moved true x false true true e n w = stopped (stops_1 e) w
    moved true x false true false e n w = stopped (stops_17 e) w
    moved false false x y z e n w = rw (w.1, w.2) (reads_records w.0)
    moved false true true y z e n w = stopped (stops_18 e) w
    moved false true false false z e n w = rw (w.1, w.2) (reads_replies w.0)
    moved false true false true true e n w = stopped (stops_1 e) w
    moved false true false true false e n w = stopped (stops_0 e) w

    -- A TURN THAT HEARS NOTHING
    pub starved : exchange_waits s records replies ≡ false → Went s (wants s records replies) records replies r records' replies' → Turned s records replies r records' replies'
    starved n w =
        record {
          keeps =
              moved (ltb 0 (size_of (take s.records.held records))) s.records.ended (ltb 0 (size_of (take s.replies.held replies))) s.replies.ended (ltb 0 s.replies.held)
              (refl, refl, refl, refl, refl) n w;
          hears = λ e. not_both (exchange_waits s records replies) e n;
          reads = λ _. w;
        }
