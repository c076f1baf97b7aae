-- What `hear_all` finds is a function of the bytes: heads leave one way to cut them, and each whole record goes with
-- its whole reply as far as both go.
use Prim.Native.Nat.{ℕ, ◌+◌, ◌≤◌, ◌<◌, min}
use mathlib.Core.Path.{◌≡◌, refl, sym, ap, ap₂, subst, ◌∙◌}
use mathlib.Core.Bool.{true, cond, ◌||◌}
use mathlib.Core.List.{List, [], ◌∷◌, ◌++◌, append-nil}
use native.Mathlib.Omega.{arith}
use lib.ListN.{length, take, drop, get_or, length-append, length-take, take-append-drop, get_or-append}
use lib.Seq.{take_at, take-append-add, take-append-le, length-take-le}
use lib.Dec.{eqb}
use borrow.Author.Tests.{eqb-true, eqb-false}
use Rattle.paper.specs.Words.{all_b}
use Rattle.paper.specs.declared.Reading.{Reading}
use Rattle.paper.specs.Reading.{further_all}
use Rattle.paper.specs.Ledger.{Ledger}
use Rattle.paper.specs.Watch.{Verdict, watched}
use Rattle.paper.specs.declared.Blamed.{Blamed}
use Rattle.paper.specs.Blame.{blamed}
use Rattle.paper.proofs.Bools.{split}
use Rattle.format.specs.Cut.{Parts, size_of, joined, is_whole, cut}
use Rattle.format.proofs.Cutting.{front_cut, parts_none}
use Rattle.watch.specs.declared.Book.{Book}
use Rattle.watch.specs.declared.exchanges.Paired.{Paired}
use Rattle.watch.specs.Parts.{part_at, blamed_at}
use Rattle.watch.proofs.Numbers.{one_broken}
use Rattle.watch.specs.Book.{book_in, HoldsBook}
use Rattle.watch.specs.Pairs.{tally_all, Watches, WatchesAll}
use Rattle.watch.proofs.Determined.{also, one_book}
use Rattle.watch.proofs.ExchangeLaws.{watched_even}
use Rattle.watch.proofs.Blocks.{watched_broken, watched_within}

pub length_none : {A : Type 0} (l : List A) → length l ≡ 0 → l ≡ []
length_none [] e = refl
length_none (x ∷ l) e = absurd (omega arith)

-- of two runs that begin equally long, as much as both have
both_front : {A B : Type 0} (xs qs : List A) (ys bs : List B) → length xs ≡ length ys → take (length (ys ++ bs)) (xs ++ qs) ≡ xs ++ take (length bs) qs
both_front xs qs ys bs e =
    let n : length (ys ++ bs) ≡ length xs + length bs = length-append ys bs ∙ ap (λ (m : ℕ). m + length bs) (sym e) in
    ap (λ (m : ℕ). take m (xs ++ qs)) n ∙ take-append-add xs qs (length bs)

-- where one of them has no more
none_left : {A : Type 0} (qs : List A) (n : ℕ) → min (length qs) n ≡ 0 → take n qs ≡ []
none_left qs n z = let k = length-take n qs in length_none (take n qs) (omega arith)

-- each record with its reply, as far as both go
abbrev pub as_far : Reading → Ledger → List (List ℕ) → List (List ℕ) → Verdict
as_far st L rs answers = watched st 0 L (take (length answers) rs) (take (length rs) answers)

module _ (st : Reading) (L : Ledger) (said answers : List (List ℕ)) (e : length said ≡ length answers) (qs bs : List (List ℕ)) where
  far_front : as_far st L (said ++ qs) (answers ++ bs) ≡ watched st 0 L (said ++ take (length bs) qs) (answers ++ take (length qs) bs)
  far_front = ap₂ (watched st 0 L) (both_front said qs answers bs e) (both_front answers bs said qs (sym e))

  -- what stands behind a broken part changes nothing
  pub far_broken : ((watched st 0 L said answers).part ≡ 0 → ⊥) → as_far st L (said ++ qs) (answers ++ bs) ≡ watched st 0 L said answers
  far_broken w = far_front ∙ watched_broken st 0 L said answers (take (length bs) qs) (take (length qs) bs) e w

  -- and where one of them has no more, these are all
  pub far_last : min (length qs) (length bs) ≡ 0 → as_far st L (said ++ qs) (answers ++ bs) ≡ watched st 0 L said answers
  far_last m =
      far_front
      ∙ ap₂ (λ (x y : List (List ℕ)). watched st 0 L (said ++ x) (answers ++ y)) (none_left qs (length bs) m) (none_left bs (length qs) (omega arith))
      ∙ ap₂ (watched st 0 L) (append-nil said) (append-nil answers)

-- ---- `hear_all`

no_more : (x y : List ℕ) → (eqb (size_of x) 0 || eqb (size_of y) 0) ≡ true → min (length (cut x)) (length (cut y)) ≡ 0
no_more x y h =
    split (eqb (size_of x) 0)
    (λ e. let k = ap (λ (p : Parts). length p.whole) (parts_none (length x) x (eqb-true (size_of x) 0 e)) in omega arith)
    (λ e. let k = ap (λ (p : Parts). length p.whole) (parts_none (length y) y (eqb-true (size_of y) 0 (rw e at h))) in omega arith)

cut_behind : (file : List ℕ) (n : ℕ) (said : List (List ℕ)) → all_b is_whole said ≡ true → take n file ≡ joined said → cut file ≡ said ++ cut (drop n file)
cut_behind file n said w e =
    ap cut (sym (take-append-drop n file) ∙ ap (λ (l : List ℕ). l ++ drop n file) e) ∙ ap (λ (p : Parts). p.whole) (front_cut said (drop n file) w)

-- the bytes taken are those of as many as were taken
taken_is : (n : ℕ) (file : List ℕ) (said : List (List ℕ)) → n ≤ length file → all_b is_whole said ≡ true → take n file ≡ joined said → n ≡ length (joined (take (length said) (cut file)))
taken_is n file said h w e =
    let s : take (length said) (cut file) ≡ said = ap (take (length said)) (cut_behind file n said w e) ∙ take_at said (cut (drop n file)) (length said) refl in
    sym (length-take-le n file h) ∙ ap length (e ∙ ap joined (sym s))

-- as many are taken as go into the book, and one more where it breaks a part
abbrev many : ℕ → ℕ → ℕ
many pairs part = pairs + cond (eqb part 0) 0 1

module _ {b : Book} {records replies : List ℕ} {p : Paired} (g : WatchesAll b records replies p) where
  abbrev heard : Watches b records replies p
  heard = g.watches

  abbrev found : Verdict
  found = as_far b.reading (book_in b) (cut records) (cut replies)

  -- THE EXCHANGES ARE THOSE OF THE BYTES, as far as both go
  pub heard_far : watched b.reading 0 (book_in b) heard.said heard.answers ≡ found
  heard_far =
      let x = drop p.taken records in
      let y = drop p.answered replies in
      let c = ap₂ (as_far b.reading (book_in b)) (cut_behind records p.taken heard.said heard.whole_said heard.cut_said) (cut_behind replies p.answered heard.answers heard.whole_answers heard.cut_answers) in
      split (eqb (part_at p.broken) 0)
      (λ e. sym (c ∙ far_last b.reading (book_in b) heard.said heard.answers heard.even (cut x) (cut y) (no_more x y (g.rest (eqb-true (part_at p.broken) 0 e)))))
      (λ e. sym (c ∙ far_broken b.reading (book_in b) heard.said heard.answers heard.even (cut x) (cut y) (λ z. eqb-false (part_at p.broken) 0 e (heard.part ∙ z))))

  -- where some go into the book, it is in normal form
  heard_normal : 0 < p.pairs → HoldsBook p.book (further_all b.reading (take p.pairs (cut replies))) found.ledger (tally_all b.reading b.tally (take p.pairs (cut replies)))
  heard_normal h =
      let k = watched_within b.reading 0 (book_in b) heard.said heard.answers in
      let y = cut (drop p.answered replies) in
      let q = sym (take-append-le p.pairs heard.answers y (omega (arith, heard.pairs))) ∙ ap (take p.pairs) (sym (cut_behind replies p.answered heard.answers heard.whole_answers heard.cut_answers)) in
      also (ap (further_all b.reading) q) (ap (λ (w : Verdict). w.ledger) heard_far) (ap (tally_all b.reading b.tally) q) (heard.normal h)

  heard_many : length heard.said ≡ many p.pairs (part_at p.broken)
  heard_many =
      split (eqb (part_at p.broken) 0)
      (λ e.
      let k = watched_even b.reading 0 (book_in b) heard.said heard.answers (sym heard.part ∙ eqb-true (part_at p.broken) 0 e) in
      rw e (omega (arith, k.0, k.1, heard.pairs)))
      (λ e. rw e (heard.last (eqb-false (part_at p.broken) 0 e)))

  heard_taken : p.taken ≡ length (joined (take (many p.pairs (part_at p.broken)) (cut records)))
  heard_taken = taken_is p.taken records heard.said g.taken heard.whole_said heard.cut_said ∙ ap (λ (n : ℕ). length (joined (take n (cut records)))) heard_many

  heard_answered : p.answered ≡ length (joined (take (many p.pairs (part_at p.broken)) (cut replies)))
  heard_answered =
      taken_is p.answered replies heard.answers g.answered heard.whole_answers heard.cut_answers ∙ ap (λ (n : ℕ). length (joined (take n (cut replies)))) (sym heard.even ∙ heard_many)

  -- what is named is told from the book and the exchange behind those that go into it
  heard_blamed : (part_at p.broken ≡ 0 → ⊥) → blamed_at p.broken ≡ blamed p.book.reading (book_in p.book) (get_or (cut records) p.pairs []) (get_or (cut replies) p.pairs [])
  heard_blamed w =
      let n = heard.last w in
      let x = cut (drop p.taken records) in
      let y = cut (drop p.answered replies) in
      let r =
      sym (get_or-append heard.said x [] p.pairs (omega arith))
      ∙ ap (λ (l : List (List ℕ)). get_or l p.pairs []) (sym (cut_behind records p.taken heard.said heard.whole_said heard.cut_said)) in
      let a =
      sym (get_or-append heard.answers y [] p.pairs (omega (arith, heard.even)))
      ∙ ap (λ (l : List (List ℕ)). get_or l p.pairs []) (sym (cut_behind replies p.answered heard.answers heard.whole_answers heard.cut_answers)) in
      heard.blamed w ∙ ap₂ (blamed p.book.reading (book_in p.book)) r a

-- ANY TWO RESULTS THAT THE CONTRACT PERMITS ARE EQUAL
pub one_hearing : {b : Book} {records replies : List ℕ} {p q : Paired} → WatchesAll b records replies p → WatchesAll b records replies q → p ≡ q
one_hearing {b} {records} {replies} {p} {q} g h =
    let v = heard_far g ∙ sym (heard_far h) in
    let n = g.watches.pairs ∙ ap (λ (w : Verdict). w.at) v ∙ sym h.watches.pairs in
    let e = g.watches.part ∙ ap (λ (w : Verdict). w.part) v ∙ sym h.watches.part in
    let l = ap₂ many n e in
    let t = heard_taken g ∙ ap (λ (m : ℕ). length (joined (take m (cut records)))) l ∙ sym (heard_taken h) in
    let a = heard_answered g ∙ ap (λ (m : ℕ). length (joined (take m (cut replies)))) l ∙ sym (heard_answered h) in
    let k : p.book ≡ q.book =
    split (eqb p.pairs 0)
    (λ y. let z = eqb-true p.pairs 0 y in g.watches.same z ∙ sym (h.watches.same (sym n ∙ z)))
    (λ y.
    let z = eqb-false p.pairs 0 y in
    one_book (subst (λ (m : ℕ). HoldsBook p.book (further_all b.reading (take m (cut replies))) (as_far b.reading (book_in b) (cut records) (cut replies)).ledger (tally_all b.reading b.tally (take m (cut replies)))) n (heard_normal g (omega arith))) (heard_normal h (omega arith))) in
    let f : Book → ℕ → Blamed = λ (c : Book) (m : ℕ). blamed c.reading (book_in c) (get_or (cut records) m []) (get_or (cut replies) m []) in
    let x : blamed_at p.broken ≡ blamed_at q.broken =
    split (eqb (part_at p.broken) 0)
    (λ y. let z = eqb-true (part_at p.broken) 0 y in g.watches.unblamed z ∙ sym (h.watches.unblamed (sym e ∙ z)))
    (λ y. let z = eqb-false (part_at p.broken) 0 y in heard_blamed g z ∙ ap₂ f k n ∙ sym (heard_blamed h (λ w. z (e ∙ w)))) in
    let o = one_broken p.broken q.broken e x in
    λ i. record { book = k i; taken = t i; answered = a i; pairs = n i; broken = o i }
