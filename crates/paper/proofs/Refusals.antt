-- What a refusal writes and leaves, what an accepted reply's head says, and that a reply's bytes say what was decided.
use Prim.Native.Nat.{ℕ, ◌+◌, ◌≤◌, ◌<◌}
use mathlib.Core.Path.{◌≡◌, refl}
use mathlib.Core.List.{List, [], ◌∷◌, ◌++◌}
use mathlib.Core.Bool.{true, cond}
use native.Mathlib.Omega.{arith}
use lib.Dec.{eqb, ltb}
use lib.ListN.{length}
use borrow.Author.Tests.{ne_eqb, le-ltb}
use Rattle.paper.specs.Numbers.{u16, bytes16, reply_limit, serial_nos}
use Rattle.paper.specs.Kinds.{begin_kind, lists_kind, reply_to, malformed_reply}
use Rattle.paper.specs.Words.{all_b}
use Rattle.paper.specs.Records.{kind_of, well_formed}
use Rattle.paper.specs.declared.Reading.{Reading}
use Rattle.paper.specs.Reading.{opening, further_all}
use Rattle.paper.specs.State.{Session, fresh}
use Rattle.paper.specs.Replies.{Reply, framed, words, tail_bytes, begun_bytes, bytes_of}
use Rattle.paper.specs.Step.{Decided, Result, discard_of, by_kind, decide_of, step_of, session_after, replies}
use Rattle.paper.specs.WholeReply.{whole_reply}
use Rattle.paper.specs.Ledger.{read_reply}
use Rattle.paper.specs.Statement.{Bytes}
use Rattle.paper.proofs.Bools.{by_case}
use Rattle.paper.proofs.ReadBack.{read_back}
use Rattle.paper.proofs.WholeBack.{whole_back}
use Rattle.paper.proofs.Unbroken.{knows}
use Rattle.paper.proofs.Sound.{Sound, good_step}
use Rattle.paper.proofs.LedgerTold.{sound_fresh, sound_after}
use Rattle.paper.proofs.Fits.{fit_decide}
use Rattle.paper.proofs.Normal.{bounded_after}
use Rattle.paper.proofs.Ways.{by_ways}
use Rattle.paper.proofs.Rooms.{large_room}

-- "its reply kind is 511" for number 13, else 256 + the record's kind
abbrev pub refusal_kind : ℕ → List ℕ → ℕ
refusal_kind n r = cond (eqb n 13) malformed_reply (reply_to (kind_of r))

-- of a number other than 0
pub record Refusal (s : Session) (r : List ℕ) (d : Decided) : Type 0 where
  pub leaves : (d.number ≡ 0 → ⊥) → d.next ≡ s
  pub six : (d.number ≡ 0 → ⊥) → bytes_of d.reply ≡ bytes16 2 ++ bytes16 (refusal_kind d.number r) ++ bytes16 d.number
  pub known : d.number < 14

refusal : (s : Session) (r : List ℕ) → Refusal s r (decide_of s r)
unfolding bytes_of
refusal s r =
    by_ways s r (Refusal s r)
    (record {
      malformed = record { leaves = λ _. refl; six = λ _. refl; known = omega arith };
      no = λ kind n k g b l h. record { leaves = λ _. refl; six = λ _. rw (ne_eqb n 13 (λ e. omega arith), k); known = omega arith };
      configure = λ k a b. record { leaves = λ h. absurd (h refl); six = λ h. absurd (h refl); known = omega arith };
      begin = λ k z. record { leaves = λ h. absurd (h refl); six = λ h. absurd (h refl); known = omega arith };
      lists = λ k c e z. record { leaves = λ h. refl; six = λ h. absurd (h refl); known = omega arith };
      finish = λ k c e z. record { leaves = λ h. absurd (h refl); six = λ h. absurd (h refl); known = omega arith };
      drain = λ k a. record { leaves = λ h. absurd (h refl); six = λ h. absurd (h refl); known = omega arith };
      discard = λ k. record { leaves = λ h. absurd (h refl); six = λ h. absurd (h refl); known = omega arith };
      end = λ k. record { leaves = λ h. absurd (h refl); six = λ h. absurd (h refl); known = omega arith };
      abandon = λ k c e. record { leaves = λ h. absurd (h refl); six = λ h. absurd (h refl); known = omega arith };
    })

-- "A refused record leaves the session as before", for every session value and every buffer
pub refused_leaves : (s : Session) (r : List ℕ) (room : ℕ) → ((step_of s r room).number ≡ 0 → ⊥) → (step_of s r room).next ≡ s
unfolding step_of
refused_leaves s r room h =
    by_case (λ (x : Result). (x.number ≡ 0 → ⊥) → x.next ≡ s) (ltb room reply_limit) _ _ (λ _ k. refl) (λ _ k. (refusal s r).leaves k) h

six_at : (s : Session) (r : List ℕ) → ((step_of s r reply_limit).number ≡ 0 → ⊥)
    → (step_of s r reply_limit).bytes ≡ bytes16 2 ++ bytes16 (refusal_kind (step_of s r reply_limit).number r) ++ bytes16 (step_of s r reply_limit).number
unfolding step_of
six_at s r h = (refusal s r).six h

-- "and writes six bytes" with the right number
pub refused_writes : (s : Session) (r : List ℕ) (room : ℕ) → 512 ≤ room → ((step_of s r room).number ≡ 0 → ⊥)
    → (step_of s r room).bytes ≡ bytes16 2 ++ bytes16 (refusal_kind (step_of s r room).number r) ++ bytes16 (step_of s r room).number
refused_writes s r room h = rw (large_room s r room (le-ltb room 512 h)) (six_at s r)

-- "The call answers the refusal number, 0 when accepted": 0 to 14
pub known_number : (s : Session) (r : List ℕ) (room : ℕ) → (step_of s r room).number < 15
unfolding step_of
known_number s r room = by_case (λ (x : Result). x.number < 15) (ltb room reply_limit) _ _ (λ _. omega arith) (λ _. omega (arith, (refusal s r).known))

-- no reply is longer than the least buffer, from any session of at most 16 stored pictures
pub reply_fits : (s : Session) (r : List ℕ) (room : ℕ) → length s.store ≤ 16 → length (step_of s r room).bytes ≤ 512
unfolding step_of
reply_fits s r room i = by_case (λ (x : Result). length x.bytes ≤ 512) (ltb room reply_limit) _ _ (λ _. omega arith) (λ _. (fit_decide s r i).bytes)

pub reply_fits_after : (rs : List (List ℕ)) (r : List ℕ) (room : ℕ) → length (step_of (session_after fresh rs) r room).bytes ≤ 512
reply_fits_after rs r room = let b = bounded_after rs in reply_fits (session_after fresh rs) r room (omega (arith, b.most, b.room))

-- the head of a reply says its length
framed_says : (kind n : ℕ) (rest : List ℕ) → length (framed kind n rest) ≤ 512 → u16 (framed kind n rest) 0 + 4 ≡ length (framed kind n rest)
framed_says kind n rest h = omega (arith, h)

says : (x : Reply) → length (bytes_of x) ≤ 512 → u16 (bytes_of x) 0 + 4 ≡ length (bytes_of x)
unfolding bytes_of
says (Reply.Refused kind n) h = framed_says kind n [] h
says (Reply.Done kind t) h = framed_says (reply_to kind) 0 (tail_bytes t) h
says (Reply.Started b t) h = framed_says (reply_to begin_kind) 0 (begun_bytes b ++ tail_bytes t) h
says (Reply.Listed l0 l1) h = framed_says (reply_to lists_kind) 0 (length l0 ∷ length l1 ∷ words (serial_nos (l0 ++ l1))) h

says_at : (s : Session) (r : List ℕ) → length s.store ≤ 16 → u16 (step_of s r reply_limit).bytes 0 + 4 ≡ length (step_of s r reply_limit).bytes
unfolding step_of
says_at s r i = says (decide_of s r).reply (fit_decide s r i).bytes

-- of every session from fresh, every record and every buffer that is large enough
pub head_says : (rs : List (List ℕ)) (r : List ℕ) (room : ℕ) → 512 ≤ room
    → u16 (step_of (session_after fresh rs) r room).bytes 0 + 4 ≡ length (step_of (session_after fresh rs) r room).bytes
head_says rs r room h =
    let s : Session = session_after fresh rs in
    let b = bounded_after rs in
    rw (large_room s r room (le-ltb room 512 h)) (says_at s r (omega (arith, b.most, b.room)))

-- the bytes of a session's reply are a whole reply
whole_at : (st : Reading) (s : Session) (r : List ℕ) → Sound s → length s.store ≤ 16 → all_b (λ (b : ℕ). ltb b 256) r ≡ true → whole_reply st (step_of s r reply_limit).bytes ≡ true
unfolding step_of
whole_at st s r i room b = whole_back st (decide_of s r).reply (good_step s r i b).fit (knows s r) (fit_decide s r room).bytes

pub whole_after : (rs : List (List ℕ)) (r : List ℕ) (room : ℕ) → Bytes rs → all_b (λ (b : ℕ). ltb b 256) r ≡ true → 512 ≤ room
    → whole_reply (further_all opening (replies fresh rs)) (step_of (session_after fresh rs) r room).bytes ≡ true
whole_after rs r room a b h =
    let s : Session = session_after fresh rs in
    let i = bounded_after rs in
    rw (large_room s r room (le-ltb room 512 h)) (whole_at _ s r (sound_after fresh rs sound_fresh a) (omega (arith, i.most, i.room)) b)

-- reading back a written reply gives what was decided
pub reads_back : (rs : List (List ℕ)) (r : List ℕ) → Bytes rs → all_b (λ (b : ℕ). ltb b 256) r ≡ true
    → read_reply (further_all opening (replies fresh rs)) (step_of (session_after fresh rs) r reply_limit).bytes ≡ (decide_of (session_after fresh rs) r).reply
unfolding step_of
reads_back rs r a b = read_back (further_all opening (replies fresh rs)) (decide_of (session_after fresh rs) r).reply (good_step (session_after fresh rs) r (sound_after fresh rs sound_fresh a) b).fit

-- a discard record is always accepted, from any session value
discard_at : (s : Session) → (step_of s (0 ∷ 0 ∷ 6 ∷ 0 ∷ []) reply_limit).number ≡ 0
unfolding step_of decide_of well_formed by_kind discard_of
discard_at s = refl

pub discard_accepted : (s : Session) (room : ℕ) → 512 ≤ room → (step_of s (0 ∷ 0 ∷ 6 ∷ 0 ∷ []) room).number ≡ 0
discard_accepted s room h = rw (large_room s (0 ∷ 0 ∷ 6 ∷ 0 ∷ []) room (le-ltb room 512 h)) (discard_at s)
