-- Block after block: what is heard of one block and then of the next is what `watched` finds in both, one behind the
-- other.
use Prim.Native.Nat.{ℕ, ◌+◌, ◌≤◌, ◌<◌}
use mathlib.Core.Path.{◌≡◌, refl, sym, ap, ap₂, subst, ◌∙◌}
use mathlib.Core.Bool.{true}
use mathlib.Core.List.{List, [], ◌∷◌, ◌++◌}
use native.Mathlib.Omega.{arith}
use lib.ListN.{length, take}
use lib.Dec.{eqb}
use borrow.Author.Tests.{eqb-true, eqb-false}
use Rattle.paper.specs.Words.{first}
use Rattle.paper.specs.declared.Reading.{Reading}
use Rattle.paper.specs.Reading.{further, further_all}
use Rattle.paper.specs.Replies.{Reply}
use Rattle.paper.specs.Ledger.{Ledger, tell, hear, read_reply}
use Rattle.paper.specs.Watch.{Verdict, reply_part, part_of, watched}
use Rattle.paper.proofs.Bools.{split}
use Rattle.watch.specs.declared.Tally.{Tally}
use Rattle.watch.specs.declared.Book.{Book}
use Rattle.watch.specs.declared.exchanges.Paired.{Paired}
use Rattle.watch.specs.Parts.{part_at}
use Rattle.watch.specs.Book.{Holds, book_in, HoldsBook}
use Rattle.watch.specs.Pairs.{tally_all, Watches}
use Rattle.watch.proofs.ExchangeLaws.{in_order, part_order, held_order, current_order, begun_order, is_ledger, same_book, watched_more}

same_order : (st : Reading) (L K : Ledger) → in_order L ≡ in_order K → (r a : List ℕ) → part_of st L r a ≡ part_of st K r a
unfolding part_of first
same_order st L K e r a =
    let d : reply_part L r (read_reply st a) ≡ reply_part K r (read_reply st a) =
    sym (part_order L r (read_reply st a)) ∙ ap (λ (M : Ledger). reply_part M r (read_reply st a)) e ∙ part_order K r (read_reply st a) in
    rw d

next_order : (L K : Ledger) → in_order L ≡ in_order K → (r : List ℕ) (x : Reply) → in_order (hear L r x) ≡ in_order (hear K r x)
next_order L K e r x =
    let p = sym (held_order L r x) ∙ ap (λ (M : Ledger). (tell M r x).held) e ∙ held_order K r x in
    let q = sym (current_order L r x) ∙ ap (λ (M : Ledger). (tell M r x).current) e ∙ current_order K r x in
    let s = sym (begun_order L r x) ∙ ap (λ (M : Ledger). (tell M r x).begun) e ∙ begun_order K r x in
    λ i. record { held = p i; current = q i; begun = s i; ok = true }

-- the number that the count starts from only moves the place, and nothing looks at `ok`
pub record Alike (n m : ℕ) (v w : Verdict) : Type 0 where
  pub part : v.part ≡ w.part
  pub at : v.at + m ≡ w.at + n
  pub ledger : in_order v.ledger ≡ in_order w.ledger

alike : (st : Reading) (n m : ℕ) (L K : Ledger) → in_order L ≡ in_order K → (rs answers : List (List ℕ)) → Alike n m (watched st n L rs answers) (watched st m K rs answers)
unfolding watched
alike st n m L K e [] [] = record { part = refl; at = omega arith; ledger = e }
alike st n m L K e (r ∷ rs) [] = record { part = refl; at = omega arith; ledger = e }
alike st n m L K e [] (a ∷ answers) = record { part = refl; at = omega arith; ledger = e }
alike st n m L K e (r ∷ rs) (a ∷ answers) =
    let d = same_order st L K e r a in
    split (eqb (part_of st K r a) 0)
    (λ t.
    let h = alike (further st a) (n + 1) (m + 1) (hear L r (read_reply st a)) (hear K r (read_reply st a)) (next_order L K e r (read_reply st a)) rs answers in
    let k : (watched (further st a) (n + 1) (hear L r (read_reply st a)) rs answers).at + m ≡ (watched (further st a) (m + 1) (hear K r (read_reply st a)) rs answers).at + n = omega (arith, h.at) in
    rw (d, t) (record { part = h.part; at = k; ledger = h.ledger }))
    (λ t. rw (d, t) (record { part = refl; at = omega arith; ledger = e }))

-- a book in normal form is also this ledger
same_normal : {k : Book} {st su : Reading} {t u : Tally} (L K : Ledger) → in_order L ≡ in_order K → t ≡ u → st ≡ su → HoldsBook k st L t → HoldsBook k su K u
same_normal {k} L K e f g h =
    record {
      held = subst (Holds k.held) (ap (λ (M : Ledger). M.held) e) h.held;
      few = h.few;
      current = h.current ∙ ap (λ (M : Ledger). M.current) e;
      begun = h.begun ∙ ap (λ (M : Ledger). M.begun) e;
      tally = h.tally ∙ f;
      reading = h.reading ∙ g;
    }

-- some exchanges that break nothing, the book after them, and what is heard from that book on
module _ {b : Book} {t : Tally} {records replies : List ℕ} {q : Paired} (st : Reading) (L : Ledger) (said answers : List (List ℕ)) (z : (watched st 0 L said answers).part ≡ 0)
    (l : HoldsBook b (further_all st answers) (watched st 0 L said answers).ledger t) (h : Watches b records replies q) where
  abbrev pub both_said : Verdict
  both_said = watched st 0 L (said ++ h.said) (answers ++ h.answers)

  joins : Alike 0 (watched st 0 L said answers).at (watched b.reading 0 (book_in b) h.said h.answers) both_said
  joins =
      let v = watched st 0 L said answers in
      rw (watched_more st 0 L said answers h.said h.answers z)
      (subst (λ (x : Reading). Alike 0 v.at (watched x 0 (book_in b) h.said h.answers) (watched (further_all st answers) v.at v.ledger h.said h.answers)) (sym l.reading)
      (alike (further_all st answers) 0 v.at (book_in b) v.ledger (same_book (is_ledger l)) h.said h.answers))

  pub next_block : part_at q.broken ≡ both_said.part
  next_block = h.part ∙ joins.part

  pub next_place : (watched st 0 L said answers).at + q.pairs ≡ both_said.at
  next_place = omega (arith, joins.at, h.pairs)

  -- no exchange went into the book
  none_more : q.pairs ≡ 0 → in_order (watched st 0 L said answers).ledger ≡ in_order both_said.ledger
  none_more n = sym (same_book (is_ledger l)) ∙ ap book_in (sym (h.same n)) ∙ same_book h.ledger ∙ joins.ledger

  pub next_book : HoldsBook q.book (further_all (further_all st answers) (take q.pairs h.answers)) both_said.ledger (tally_all (further_all st answers) t (take q.pairs h.answers))
  next_book =
      let u : tally_all b.reading b.tally (take q.pairs h.answers) ≡ tally_all (further_all st answers) t (take q.pairs h.answers) =
      ap₂ (λ (x : Reading) (y : Tally). tally_all x y (take q.pairs h.answers)) l.reading l.tally in
      let w = ap (λ (x : Reading). further_all x (take q.pairs h.answers)) l.reading in
      split (eqb q.pairs 0)
      (λ e.
      let n = eqb-true q.pairs 0 e in
      let s = h.same n in
      let v = same_normal (watched st 0 L said answers).ledger both_said.ledger (none_more n) (sym l.tally ∙ sym (ap (λ (x : Book). x.tally) s) ∙ h.tally ∙ u) (sym l.reading ∙ sym (ap (λ (x : Book). x.reading) s) ∙ h.reading ∙ w) l in
      subst (λ (x : Book). HoldsBook x (further_all (further_all st answers) (take q.pairs h.answers)) both_said.ledger (tally_all (further_all st answers) t (take q.pairs h.answers))) (sym s) v)
      (λ e. let n = eqb-false q.pairs 0 e in same_normal (watched b.reading 0 (book_in b) h.said h.answers).ledger both_said.ledger joins.ledger u w (h.normal (omega (arith, n))))

-- what stands behind an exchange that breaks a part changes nothing
pub watched_broken : (st : Reading) (n : ℕ) (L : Ledger) (rs answers qs bs : List (List ℕ)) → length rs ≡ length answers → ((watched st n L rs answers).part ≡ 0 → ⊥)
    → watched st n L (rs ++ qs) (answers ++ bs) ≡ watched st n L rs answers
unfolding watched
watched_broken st n L [] [] qs bs e w = absurd (w refl)
watched_broken st n L (r ∷ rs) [] qs bs e w = absurd (omega arith)
watched_broken st n L [] (a ∷ answers) qs bs e w = absurd (omega arith)
watched_broken st n L (r ∷ rs) (a ∷ answers) qs bs e w =
    split (eqb (part_of st L r a) 0)
    (λ t. rw t (watched_broken (further st a) (n + 1) (hear L r (read_reply st a)) rs answers qs bs (omega arith) (rw t at w)))
    (λ t. rw t)

-- the place is within the exchanges
pub watched_within : (st : Reading) (n : ℕ) (L : Ledger) (rs answers : List (List ℕ)) → (watched st n L rs answers).at ≤ n + length answers
unfolding watched
watched_within st n L [] [] = omega arith
watched_within st n L (r ∷ rs) [] = omega arith
watched_within st n L [] (a ∷ answers) = omega arith
watched_within st n L (r ∷ rs) (a ∷ answers) =
    split (eqb (part_of st L r a) 0)
    (λ t. let k = watched_within (further st a) (n + 1) (hear L r (read_reply st a)) rs answers in rw t (omega arith))
    (λ t. rw t (omega arith))

-- the place of an exchange that breaks a part is one of theirs
pub watched_inside : (st : Reading) (n : ℕ) (L : Ledger) (rs answers : List (List ℕ)) → length rs ≡ length answers → ((watched st n L rs answers).part ≡ 0 → ⊥)
    → (watched st n L rs answers).at < n + length answers
unfolding watched
watched_inside st n L [] [] e w = absurd (w refl)
watched_inside st n L (r ∷ rs) [] e w = absurd (omega arith)
watched_inside st n L [] (a ∷ answers) e w = absurd (omega arith)
watched_inside st n L (r ∷ rs) (a ∷ answers) e w =
    split (eqb (part_of st L r a) 0)
    (λ t.
    let h = watched_inside (further st a) (n + 1) (hear L r (read_reply st a)) rs answers (omega arith) (rw t at w) in
    rw t (omega arith))
    (λ t. rw t (omega arith))
