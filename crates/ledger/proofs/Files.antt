-- The theorem in the program's terms: where `judged` answers 0, the two files keep demand 3, whoever wrote them; and it
-- answers 0 on a session's own replies.
use Prim.Native.Nat.{ℕ, ◌+◌}
use mathlib.Core.Path.{◌≡◌, refl, sym, ap, ap₂, ◌∙◌}
use mathlib.Core.List.{List, [], ◌∷◌, append-nil}
use mathlib.Core.Bool.{Bool, true, not, ◌&&◌}
use native.Mathlib.Omega.{arith}
use lib.Dec.{ltb, leb, eqb}
use lib.ListN.{length}
use lib.Seq.{take_all}
use borrow.Author.Tests.{eqb-true, eqb-false, eq-eqb, le-ltb, ltb-false}
use Rattle.paper.specs.Words.{all_b, first}
use Rattle.paper.specs.Numbers.{u16}
use Rattle.paper.specs.declared.Reading.{Reading}
use Rattle.paper.specs.Reading.{opening, further}
use Rattle.paper.specs.State.{fresh}
use Rattle.paper.specs.Step.{replies}
use Rattle.paper.specs.WholeReply.{whole_reply, reply_kind, reply_end}
use Rattle.paper.specs.Ledger.{Ledger, blank, hear, read_reply}
use Rattle.paper.specs.Statement.{Bytes, Kept}
use Rattle.paper.specs.Watch.{part_of, watched, pairs}
use Rattle.paper.proofs.Bools.{split, both, left, right}
use Rattle.paper.proofs.Ways.{first_none, yes_of}
use Rattle.paper.proofs.Between.{in_order_kept}
use Rattle.paper.proofs.Again.{pairs_again}
use Rattle.paper.proofs.Watching.{watched_sound}
use Rattle.paper.proofs.Unbroken.{watched_session}
use Rattle.paper.proofs.LedgerTold.{sound_fresh}
use Rattle.format.specs.Cut.{Parts, joined, is_whole, cut, rest_of}
use Rattle.format.proofs.Cutting.{one_cut, is_cut, all_parts, all_joined}
use Rattle.watch.proofs.Far.{length_none}
use Rattle.watch.proofs.ExchangeLaws.{watched_even}
use Rattle.ledger.specs.Verdict.{exchanged, last_part, judged_of, judged}

-- as many records as replies: as far as both go is all of them
all_exchanged : (rs answers : List (List ℕ)) → length rs ≡ length answers → exchanged rs answers ≡ watched opening 0 blank rs answers
all_exchanged rs answers e = ap₂ (watched opening 0 blank) (take_all (length answers) rs (omega arith)) (take_all (length rs) answers (omega arith))

last_none : (n m rest : ℕ) → last_part n m rest ≡ 0 → (n ≡ m) × (rest ≡ 0)
last_none n m rest z =
    let t = first_none (ltb n m) 18 _ (λ e. omega arith) z in
    let u = first_none (ltb 0 rest) 1 _ (λ e. omega arith) t.1 in
    let v = first_none (ltb m n) 17 _ (λ e. omega arith) u.1 in
    let a = ltb-false n m t.0 in
    let b = ltb-false 0 rest u.0 in
    let c = ltb-false m n v.0 in
    (omega arith, omega arith)

-- what the answer 0 says of whole records, whole replies and the bytes behind these
record Even (rs answers : List (List ℕ)) (rest : ℕ) : Type 0 where
  none : (watched opening 0 blank rs answers).part ≡ 0
  even : length rs ≡ length answers
  done : rest ≡ 0

even_of : (rs answers : List (List ℕ)) (left rest : ℕ) → (judged_of rs answers left rest).part ≡ 0 → Even rs answers rest
unfolding judged_of
even_of rs answers left rest z =
    split (eqb (exchanged rs answers).part 0)
    (λ e.
    let k = last_none (length rs) (length answers) rest (rw e at z) in
    record { none = sym (ap (λ v. v.part) (all_exchanged rs answers k.0)) ∙ eqb-true (exchanged rs answers).part 0 e; even = k.0; done = k.1 })
    (λ e. absurd (eqb-false (exchanged rs answers).part 0 e (rw e at z)))

-- IF THE ANSWER IS 0: each whole record has its reply, no byte of the replies is left over, and they keep demand 3
pub record KeptFiles (records replies : List ℕ) : Type 0 where
  pub kept : Kept (pairs opening (cut records) (cut replies))
  pub even : length (cut records) ≡ length (cut replies)
  pub done : rest_of replies ≡ []

pub kept_files : (records replies : List ℕ) → (judged records replies).part ≡ 0 → KeptFiles records replies
kept_files records replies z =
    let k = even_of (cut records) (cut replies) (length (rest_of records)) (length (rest_of replies)) z in
    record {
      kept = in_order_kept (pairs opening (cut records) (cut replies)) (pairs_again opening (cut records) (cut replies)) (watched_sound opening 0 blank (cut records) (cut replies) refl k.none).ok;
      even = k.even;
      done = length_none (rest_of replies) k.done;
    }

-- ---- a session's own replies

whole_head : (st : Reading) (a : List ℕ) → whole_reply st a ≡ true → is_whole a ≡ true
unfolding whole_reply
whole_head st a w =
    let k = reply_kind a && eqb (length a) (reply_end st a) in
    left (eqb (length a) (4 + u16 a 0)) k (right (leb 6 (length a)) (eqb (length a) (4 + u16 a 0) && k) w)

-- replies that break nothing are whole
whole_replies : (st : Reading) (n : ℕ) (L : Ledger) (rs answers : List (List ℕ)) → (watched st n L rs answers).part ≡ 0 → all_b is_whole answers ≡ true
unfolding watched all_b part_of
whole_replies st n L [] [] z = refl
whole_replies st n L (r ∷ rs) [] z = absurd (omega arith)
whole_replies st n L [] (a ∷ answers) z = absurd (omega arith)
whole_replies st n L (r ∷ rs) (a ∷ answers) z =
    split (eqb (part_of st L r a) 0)
    (λ e.
    both (whole_head st a (yes_of (whole_reply st a) (first_none (not (whole_reply st a)) 1 _ (λ q. omega arith) (eqb-true (part_of st L r a) 0 e)).0))
    (whole_replies (further st a) (n + 1) (hear L r (read_reply st a)) rs answers (rw e at z)))
    (λ e. absurd (eqb-false (part_of st L r a) 0 e (rw e at z)))

-- records and whole replies that break nothing, the replies one after the other in a file
unbroken_file : (records : List ℕ) (answers : List (List ℕ)) → (watched opening 0 blank (cut records) answers).part ≡ 0 → (judged records (joined answers)).part ≡ 0
unfolding judged_of first
unbroken_file records answers z =
    let e = (watched_even opening 0 blank (cut records) answers z).0 in
    let w = whole_replies opening 0 blank (cut records) answers z in
    let p : judged records (joined answers) ≡ judged_of (cut records) answers (length (rest_of records)) 0 =
    ap (λ (q : Parts). judged_of (cut records) q.whole (length (rest_of records)) (length q.rest)) (one_cut answers [] (append-nil (joined answers)) w refl) in
    let v : (exchanged (cut records) answers).part ≡ 0 = ap (λ v. v.part) (all_exchanged (cut records) answers e) ∙ z in
    ap (λ x. x.part) p ∙ rw (eq-eqb _ 0 v, le-ltb (length (cut records)) (length answers) (omega arith), le-ltb (length answers) (length (cut records)) (omega arith))

-- the bytes of a file are the bytes of what is cut from it
cut_bytes : (records : List ℕ) → all_b (λ (b : ℕ). ltb b 256) records ≡ true → Bytes (cut records)
cut_bytes records b =
    let k = is_cut records in
    let f : ℕ → Bool = λ (x : ℕ). ltb x 256 in
    all_joined f (cut records) (all_parts f (joined (cut records)) (rest_of records) (ap (all_b f) k.joins ∙ b)).0

-- ON THE REPLIES OF A SESSION TO ANY FILE OF RECORDS THE ANSWER IS 0. `replay_replies` (crates/replay) says that these
-- are the replies of `replay`
pub session_files : (records : List ℕ) → all_b (λ (b : ℕ). ltb b 256) records ≡ true → (judged records (joined (replies fresh (cut records)))).part ≡ 0
session_files records b = unbroken_file records (replies fresh (cut records)) (watched_session opening 0 fresh (cut records) sound_fresh (omega arith) (cut_bytes records b))
