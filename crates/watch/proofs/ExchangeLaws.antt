-- Exchange after exchange: one more is heard as `watched` hears it.
use Prim.Native.Nat.{ℕ, suc, ◌+◌, ◌-◌, ◌<◌}
use mathlib.Core.Path.{◌≡◌, refl, sym, ap, ap₂, subst, ◌∙◌}
use mathlib.Core.Bool.{true, cond}
use mathlib.Core.List.{List, [], ◌∷◌, ◌++◌}
use native.Mathlib.Omega.{arith}
use lib.ListN.{length, take, drop, get_or, length-append}
use lib.Seq.{take-append-le, take_all, get_or_at}
use lib.Dec.{ltb, eqb}
use borrow.Author.Tests.{eqb-false, ne_eqb}
use Rattle.paper.specs.Words.{all_b, first}
use Rattle.paper.specs.declared.Reading.{Reading}
use Rattle.paper.specs.Reading.{further, further_all}
use Rattle.paper.specs.Kinds.{end_kind, abandon_kind}
use Rattle.paper.specs.Replies.{Reply}
use Rattle.paper.specs.Ledger.{Ledger, tell, hear, read_reply}
use Rattle.paper.specs.Watch.{Verdict, reply_part, part_of, watched}
use Rattle.paper.specs.declared.Blamed.{Blamed}
use Rattle.paper.specs.declared.Blamed.TheVariants.{Nothing}
use Rattle.paper.specs.Blame.{reply_blame, blamed}
use Rattle.paper.proofs.Bools.{split}
use Rattle.paper.proofs.Again.{further_more}
use Rattle.watch.specs.declared.Tally.{Tally}
use Rattle.watch.specs.declared.Book.{Book}
use Rattle.std.specs.Prelude.{Result, Ok, Err, None, Some}
use Rattle.watch.specs.declared.demand.Part.{Part}
use Rattle.watch.specs.Parts.{number_of, part_in}
use Rattle.watch.proofs.Numbers.{positive}
use Rattle.watch.specs.Book.{Holds, book_in, HoldsBook, tallied}
use Rattle.watch.specs.Hears.{Hears}
use Rattle.format.specs.Cut.{size_of, is_whole, joined}
use Rattle.watch.specs.Pairs.{tally_all, IsLedger, paired_of, Watches}
use Rattle.watch.proofs.Determined.{also, whole_view}
use Rattle.format.proofs.Cutting.{taken_more, whole_more}

-- ---- nothing that is judged looks at `ok`

abbrev pub in_order : Ledger → Ledger
in_order L = record { held = L.held; current = L.current; begun = L.begun; ok = true }

pub part_order : (L : Ledger) (r : List ℕ) (x : Reply) → reply_part (in_order L) r x ≡ reply_part L r x
unfolding reply_part
part_order L r (Reply.Refused kind n) = refl
part_order L r (Reply.Done kind t) = refl
part_order L r (Reply.Started b t) = refl
part_order L r (Reply.Listed l0 l1) = refl

pub held_order : (L : Ledger) (r : List ℕ) (x : Reply) → (tell (in_order L) r x).held ≡ (tell L r x).held
unfolding tell
held_order L r (Reply.Refused kind n) = refl
held_order L r (Reply.Done kind t) = split (eqb kind end_kind) (λ e. rw e) (λ e. split (eqb kind abandon_kind) (λ f. rw (e, f)) (λ f. rw (e, f)))
held_order L r (Reply.Started b t) = refl
held_order L r (Reply.Listed l0 l1) = refl

pub current_order : (L : Ledger) (r : List ℕ) (x : Reply) → (tell (in_order L) r x).current ≡ (tell L r x).current
unfolding tell
current_order L r (Reply.Refused kind n) = refl
current_order L r (Reply.Done kind t) = split (eqb kind end_kind) (λ e. rw e) (λ e. split (eqb kind abandon_kind) (λ f. rw (e, f)) (λ f. rw (e, f)))
current_order L r (Reply.Started b t) = refl
current_order L r (Reply.Listed l0 l1) = refl

pub begun_order : (L : Ledger) (r : List ℕ) (x : Reply) → (tell (in_order L) r x).begun ≡ (tell L r x).begun
unfolding tell
begun_order L r (Reply.Refused kind n) = refl
begun_order L r (Reply.Done kind t) = split (eqb kind end_kind) (λ e. rw e) (λ e. split (eqb kind abandon_kind) (λ f. rw (e, f)) (λ f. rw (e, f)))
begun_order L r (Reply.Started b t) = refl
begun_order L r (Reply.Listed l0 l1) = refl

pub blame_order : (p : ℕ) (L : Ledger) (r : List ℕ) (x : Reply) → reply_blame p (in_order L) r x ≡ reply_blame p L r x
unfolding reply_blame
blame_order p L r (Reply.Refused kind n) = refl
blame_order p L r (Reply.Done kind t) = refl
blame_order p L r (Reply.Started b t) = refl
blame_order p L r (Reply.Listed l0 l1) = refl

-- a book in normal form is its ledger
pub is_ledger : {b : Book} {st : Reading} {L : Ledger} {t : Tally} → HoldsBook b st L t → IsLedger b L
is_ledger h = record { held = whole_view h; current = h.current; begun = h.begun }

module _ {b : Book} {L : Ledger} (h : IsLedger b L) where
  pub same_book : book_in b ≡ in_order L
  same_book = λ i. record { held = h.held i; current = h.current i; begun = h.begun i; ok = true }

  pub same_part : (st : Reading) (r a : List ℕ) → part_of st (book_in b) r a ≡ part_of st L r a
  unfolding part_of first
  same_part st r a = let e : reply_part (book_in b) r (read_reply st a) ≡ reply_part L r (read_reply st a) = ap (λ (K : Ledger). reply_part K r (read_reply st a)) same_book ∙ part_order L r (read_reply st a) in rw e

  pub same_blame : (st : Reading) (r a : List ℕ) → blamed st (book_in b) r a ≡ blamed st L r a
  unfolding blamed
  same_blame st r a =
      ap₂ (λ (p : ℕ) (K : Ledger). cond (ltb p 3) Nothing (reply_blame p K r (read_reply st a))) (same_part st r a) same_book
      ∙ ap (cond (ltb (part_of st L r a) 3) Nothing) (blame_order (part_of st L r a) L r (read_reply st a))

  pub next_normal : {k : Book} {st : Reading} {t : Tally} (r : List ℕ) (x : Reply) → HoldsBook k st (hear (book_in b) r x) t → HoldsBook k st (hear L r x) t
  next_normal {k} r x g =
      record {
        held = subst (Holds k.held) (ap (λ (K : Ledger). (tell K r x).held) same_book ∙ held_order L r x) g.held;
        few = g.few;
        current = g.current ∙ ap (λ (K : Ledger). (tell K r x).current) same_book ∙ current_order L r x;
        begun = g.begun ∙ ap (λ (K : Ledger). (tell K r x).begun) same_book ∙ begun_order L r x;
        tally = g.tally;
        reading = g.reading;
      }

-- ---- one exchange more

abbrev breaks : ℕ → ℕ → Ledger → Verdict
breaks n p L = record { at = n; part = p; ledger = L }

pub watched_more : (st : Reading) (n : ℕ) (L : Ledger) (rs answers qs bs : List (List ℕ)) → (watched st n L rs answers).part ≡ 0
    → watched st n L (rs ++ qs) (answers ++ bs) ≡ watched (further_all st answers) (watched st n L rs answers).at (watched st n L rs answers).ledger qs bs
unfolding watched further_all
watched_more st n L [] [] qs bs z = refl
watched_more st n L (r ∷ rs) [] qs bs z = absurd (omega arith)
watched_more st n L [] (a ∷ answers) qs bs z = absurd (omega arith)
watched_more st n L (r ∷ rs) (a ∷ answers) qs bs z =
    split (eqb (part_of st L r a) 0)
    (λ e.
    let w : (watched (further st a) (n + 1) (hear L r (read_reply st a)) rs answers).part ≡ 0 = rw e at z in
    rw e (watched_more (further st a) (n + 1) (hear L r (read_reply st a)) rs answers qs bs w))
    (λ e. absurd (eqb-false (part_of st L r a) 0 e (rw e at z)))

one_right : (st : Reading) (n : ℕ) (L : Ledger) (r a : List ℕ) → part_of st L r a ≡ 0 → watched st n L (r ∷ []) (a ∷ []) ≡ breaks (n + 1) 0 (hear L r (read_reply st a))
unfolding watched
one_right st n L r a z = rw z

one_wrong : (st : Reading) (n : ℕ) (L : Ledger) (r a : List ℕ) → (part_of st L r a ≡ 0 → ⊥) → watched st n L (r ∷ []) (a ∷ []) ≡ breaks n (part_of st L r a) L
unfolding watched
one_wrong st n L r a z = rw (ne_eqb (part_of st L r a) 0 z)

pub tally_append : (st : Reading) (t : Tally) (answers bs : List (List ℕ)) → tally_all st t (answers ++ bs) ≡ tally_all (further_all st answers) (tally_all st t answers) bs
unfolding tally_all further_all
tally_append st t [] bs = refl
tally_append st t (a ∷ answers) bs = tally_append (further st a) (tallied t (read_reply st a)) answers bs

tally_more : (st : Reading) (t : Tally) (answers : List (List ℕ)) (a : List ℕ) → tally_all st t (answers ++ (a ∷ [])) ≡ tallied (tally_all st t answers) (read_reply (further_all st answers) a)
unfolding tally_all
tally_more st t answers a = tally_append st t answers (a ∷ [])

even_more : (rs qs : List (List ℕ)) (r q : List ℕ) → length rs ≡ length qs → length (rs ++ (r ∷ [])) ≡ length (qs ++ (q ∷ []))
even_more rs qs r q e = let a = length-append rs (r ∷ []) in let b = length-append qs (q ∷ []) in omega arith

-- where nothing breaks there are as many records as replies, and the place is behind them
pub watched_even : (st : Reading) (n : ℕ) (L : Ledger) (rs answers : List (List ℕ)) → (watched st n L rs answers).part ≡ 0 → (length rs ≡ length answers) × ((watched st n L rs answers).at ≡ n + length answers)
unfolding watched
watched_even st n L [] [] z = (refl, omega arith)
watched_even st n L (r ∷ rs) [] z = absurd (omega arith)
watched_even st n L [] (a ∷ answers) z = absurd (omega arith)
watched_even st n L (r ∷ rs) (a ∷ answers) z =
    split (eqb (part_of st L r a) 0)
    (λ e.
    let k = watched_even (further st a) (n + 1) (hear L r (read_reply st a)) rs answers (rw e at z) in
    rw e (ap suc k.0, omega (arith, k.1)))
    (λ e. absurd (eqb-false (part_of st L r a) 0 e (rw e at z)))

pub nothing_heard : (b : Book) (records replies : List ℕ) → Watches b records replies (paired_of b 0 0 0 None)
unfolding joined watched all_b tally_all further_all
nothing_heard b records replies =
    record {
      said = [];
      answers = [];
      whole_said = refl;
      whole_answers = refl;
      even = refl;
      cut_said = refl;
      cut_answers = refl;
      part = refl;
      pairs = refl;
      ledger = record { held = refl; current = refl; begun = refl };
      tally = refl;
      reading = refl;
      same = λ _. refl;
      normal = λ h. absurd (omega arith);
      last = λ z. absurd (z refl);
      blamed = λ z. absurd (z refl);
      unblamed = λ _. refl;
    }

module _ {b k : Book} {records replies : List ℕ} (taken answered pairs n m : ℕ) (h : 0 < n) (e : n ≡ size_of (drop taken records)) (i : 0 < m) (f : m ≡ size_of (drop answered replies))
    (g : Watches b records replies (paired_of k taken answered pairs None)) (x : Result Book Part)
    (d : Hears k (take (taken + n - taken) (drop taken records)) (take (answered + m - answered) (drop answered replies)) x) where
  rec : List ℕ
  rec = take n (drop taken records)

  ans : List ℕ
  ans = take m (drop answered replies)

  now_hears : Hears k rec ans x
  unfolding rec ans
  now_hears =
      let p : taken + n - taken ≡ n = omega arith in
      let q : answered + m - answered ≡ m = omega arith in
      rw (p, q) at d

  -- what the book reads the next reply with
  abbrev carried : Reading
  carried = further_all b.reading g.answers

  before : Verdict
  before = watched b.reading 0 (book_in b) g.said g.answers

  goes_on : watched b.reading 0 (book_in b) (g.said ++ (rec ∷ [])) (g.answers ++ (ans ∷ [])) ≡ watched carried before.at before.ledger (rec ∷ []) (ans ∷ [])
  unfolding before
  goes_on = watched_more b.reading 0 (book_in b) g.said g.answers (rec ∷ []) (ans ∷ []) (sym g.part)

  all : pairs ≡ length g.answers
  all = let k = watched_even b.reading 0 (book_in b) g.said g.answers (sym g.part) in omega (arith, k.1, g.pairs)

  reads : k.reading ≡ carried
  reads = g.reading ∙ ap (further_all b.reading) (take_all pairs g.answers (let e = all in omega arith))

  its_part : part_in x ≡ part_of carried before.ledger rec ans
  unfolding before
  its_part = now_hears.part ∙ same_part g.ledger k.reading rec ans ∙ ap (λ (st : Reading). part_of st before.ledger rec ans) reads

  said_cut : take (taken + n) records ≡ joined (g.said ++ (rec ∷ []))
  unfolding rec
  said_cut = taken_more g.said records taken n g.cut_said

  answers_cut : take (answered + m) replies ≡ joined (g.answers ++ (ans ∷ []))
  unfolding ans
  answers_cut = taken_more g.answers replies answered m g.cut_answers

  whole_rec : all_b is_whole (g.said ++ (rec ∷ [])) ≡ true
  unfolding rec
  whole_rec = whole_more g.said records taken n h e g.whole_said

  whole_ans : all_b is_whole (g.answers ++ (ans ∷ [])) ≡ true
  unfolding ans
  whole_ans = whole_more g.answers replies answered m i f g.whole_answers

  evenly : length (g.said ++ (rec ∷ [])) ≡ length (g.answers ++ (ans ∷ []))
  evenly = even_more g.said g.answers rec ans g.even

  counts : k.tally ≡ tally_all b.reading b.tally g.answers
  counts = g.tally ∙ ap (tally_all b.reading b.tally) (take_all pairs g.answers (let e = all in omega arith))

  one_longer : length (g.answers ++ (ans ∷ [])) ≡ pairs + 1
  one_longer = let e = all in let n = length-append g.answers (ans ∷ []) in omega arith

  -- the record and the reply that were heard last stand behind all others
  its_record : get_or (g.said ++ (rec ∷ [])) pairs [] ≡ rec
  its_record = get_or_at g.said rec [] [] pairs (let e = all in omega (arith, g.even))

  its_reply : get_or (g.answers ++ (ans ∷ [])) pairs [] ≡ ans
  its_reply = get_or_at g.answers ans [] [] pairs (sym all)

  pub heard_wrong : (q : Part) → x ≡ Err q → (o : Blamed) → o ≡ blamed k.reading (book_in k) (take (taken + n - taken) (drop taken records)) (take (answered + m - answered) (drop answered replies))
      → Watches b records replies (paired_of k (taken + n) (answered + m) pairs (Some (record { part = q; blamed = o })))
  unfolding before rec ans
  heard_wrong q f o u =
      let its : number_of q ≡ part_of carried before.ledger rec ans = sym (ap part_in f) ∙ its_part in
      let z = positive q in
      let w : part_of carried before.ledger rec ans ≡ 0 → ⊥ = λ y. z (its ∙ y) in
      let v = goes_on ∙ one_wrong carried before.at before.ledger rec ans w in
      let l = sym (ap (λ (y : Verdict). y.ledger) v) in
      let e-q = sym (take-append-le pairs g.answers (ans ∷ []) (let y = all in omega arith)) in
      let t = ap (tally_all b.reading b.tally) e-q in
      let s = ap (further_all b.reading) e-q in
      let i-n : taken + n - taken ≡ n = omega arith in
      let i-m : answered + m - answered ≡ m = omega arith in
      record {
        said = g.said ++ (rec ∷ []);
        answers = g.answers ++ (ans ∷ []);
        whole_said = whole_rec;
        whole_answers = whole_ans;
        even = evenly;
        cut_said = said_cut;
        cut_answers = answers_cut;
        part = its ∙ sym (ap (λ (y : Verdict). y.part) v);
        pairs = g.pairs ∙ sym (ap (λ (y : Verdict). y.at) v);
        ledger = subst (IsLedger k) l g.ledger;
        tally = g.tally ∙ t;
        reading = g.reading ∙ s;
        same = g.same;
        normal = λ y. also s l t (g.normal y);
        last = λ _. evenly ∙ one_longer;
        blamed = λ _. u ∙ ap₂ (blamed k.reading (book_in k)) (ap (λ (w : ℕ). take w (drop taken records)) i-n ∙ sym its_record) (ap (λ (w : ℕ). take w (drop answered replies)) i-m ∙ sym its_reply);
        unblamed = λ y. absurd (z y);
      }

  pub heard_right : (o : Book) → x ≡ Ok o → Watches b records replies (paired_of o (taken + n) (answered + m) (pairs + 1) None)
  unfolding before
  heard_right o f =
      let c : Hears k rec ans (Ok o) = subst (λ (y : Result Book Part). Hears k rec ans y) f now_hears in
      let w : part_of carried before.ledger rec ans ≡ 0 = sym its_part ∙ ap part_in f in
      let v = goes_on ∙ one_right carried before.at before.ledger rec ans w in
      let q = sym (take_all (pairs + 1) (g.answers ++ (ans ∷ [])) (let u = one_longer in omega arith)) in
      let t : tallied k.tally (read_reply k.reading ans) ≡ tally_all b.reading b.tally (take (pairs + 1) (g.answers ++ (ans ∷ []))) =
      ap₂ (λ (u : Tally) (st : Reading). tallied u (read_reply st ans)) counts reads
      ∙ sym (tally_more b.reading b.tally g.answers ans)
      ∙ ap (tally_all b.reading b.tally) q in
      let s : further k.reading ans ≡ further_all b.reading (take (pairs + 1) (g.answers ++ (ans ∷ []))) =
      ap (λ (st : Reading). further st ans) reads
      ∙ sym (further_more b.reading g.answers ans)
      ∙ ap (further_all b.reading) q in
      let l = ap (λ (st : Reading). hear before.ledger rec (read_reply st ans)) reads ∙ sym (ap (λ (u : Verdict). u.ledger) v) in
      let y = also s l t (next_normal g.ledger rec (read_reply k.reading ans) (c.kept (sym c.part))) in
      record {
        said = g.said ++ (rec ∷ []);
        answers = g.answers ++ (ans ∷ []);
        whole_said = whole_rec;
        whole_answers = whole_ans;
        even = evenly;
        cut_said = said_cut;
        cut_answers = answers_cut;
        part = sym (ap (λ (u : Verdict). u.part) v);
        pairs = ap (λ (u : ℕ). u + 1) g.pairs ∙ sym (ap (λ (u : Verdict). u.at) v);
        ledger = is_ledger y;
        tally = y.tally;
        reading = y.reading;
        same = λ u. absurd (omega arith);
        normal = λ _. y;
        last = λ u. absurd (u refl);
        blamed = λ u. absurd (u refl);
        unblamed = λ _. refl;
      }
