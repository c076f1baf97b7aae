-- Demand 3 of the program's own bytes: from memory that `fresh` made, whatever the reads of its turns brought, the
-- blocks that the turns made are the paper's replies to the whole records in it; as cut by their heads these exchanges
-- keep demand 3, POC is as document 02, Item 12 says, and a ledger over them finds nothing broken.
use Prim.Native.Nat.{ℕ, suc, ◌+◌}
use mathlib.Core.Path.{◌≡◌, refl, sym, ap, ap₂, subst, ◌∙◌}
use mathlib.Core.List.{List, [], ◌∷◌, ◌++◌, map, append-nil}
use mathlib.Core.Bool.{Bool, true}
use native.Mathlib.Omega.{arith}
use lib.Dec.{ltb}
use lib.ListN.{length}
use borrow.Author.Tests.{eq-eqb}
use Rattle.paper.specs.Words.{all_b}
use Rattle.paper.specs.Records.{length_of}
use Rattle.paper.specs.State.{fresh}
use Rattle.paper.specs.State as P
use Rattle.paper.specs.Step.{Call, step_of, replies, session_after, after_calls, answered_of}
use Rattle.paper.specs.declared.Reading.{Reading}
use Rattle.paper.specs.Reading.{opening, further}
use Rattle.paper.specs.Ledger.{Exchange, blank, told}
use Rattle.paper.specs.Statement.{Bytes, Kept, Statement, exchanges, ledger_of}
use Rattle.paper.specs.OneLine.{Item12}
use Rattle.paper.specs.Watch.{watched, pairs}
use Rattle.paper.proofs.Bools.{both}
use Rattle.paper.proofs.Rooms.{any_room}
use Rattle.paper.proofs.Refusals.{head_says}
use Rattle.paper.proofs.Demand.{demand}
use Rattle.paper.proofs.OneLine.{item_12}
use Rattle.paper.proofs.Unbroken.{watched_fresh}
use Rattle.format.specs.Cut.{Parts, size_of, joined, is_whole, cut, rest_of}
use Rattle.format.proofs.Cutting.{parts_none, front_cut, one_cut, all_parts, all_joined}
use Rattle.filter.specs.Machine.{outs, state_after}
use Rattle.filter.specs.Turns.{Stand, waiting, Serves}
use Rattle.filter.proofs.Answering.{after_append}
use Rattle.replay.specs.Machine.{sessions}
use Rattle.replay.specs.Kept.{KeptRun}

-- ---- a session's replies

-- those of the machine, and the session that it leaves
outs_are : (s : P.Session) (rs : List (List ℕ)) → outs sessions s rs ≡ replies s rs
unfolding outs replies
outs_are s [] = refl
outs_are s (r ∷ rs) = ap (λ (l : List (List ℕ)). (step_of s r 512).bytes ∷ l) (outs_are (step_of s r 512).next rs)

after_is : (s : P.Session) (rs : List (List ℕ)) → state_after sessions s rs ≡ session_after s rs
unfolding state_after session_after
after_is s [] = refl
after_is s (r ∷ rs) = after_is (step_of s r 512).next rs

later_after : (s : P.Session) (rs qs : List (List ℕ)) → session_after s (rs ++ qs) ≡ session_after (session_after s rs) qs
later_after s rs qs = sym (after_is s (rs ++ qs)) ∙ after_append sessions s rs qs ∙ ap (λ (v : P.Session). state_after sessions v qs) (after_is s rs) ∙ after_is (session_after s rs) qs

-- as many as records
as_many : (s : P.Session) (rs : List (List ℕ)) → length rs ≡ length (replies s rs)
unfolding replies
as_many s [] = refl
as_many s (r ∷ rs) = ap suc (as_many (step_of s r 512).next rs)

-- each is whole: its head says its length
replies_whole : (rs qs : List (List ℕ)) → all_b is_whole (replies (session_after fresh rs) qs) ≡ true
unfolding replies all_b session_after
replies_whole rs [] = refl
replies_whole rs (q ∷ qs) =
    let v = session_after fresh rs in
    let a = (step_of v q 512).bytes in
    let h = head_says rs q 512 (omega arith) in
    both (eq-eqb (length a) (4 + length_of a) (omega (arith, h))) (subst (λ (s : P.Session). all_b is_whole (replies s qs) ≡ true) (later_after fresh rs (q ∷ [])) (replies_whole (rs ++ (q ∷ [])) qs))

-- with its records, and whatever records come behind these, they are the session's exchanges
pairs_front : (st : Reading) (s : P.Session) (rs more : List (List ℕ)) → pairs st (rs ++ more) (replies s rs) ≡ exchanges st s rs
unfolding pairs replies exchanges
pairs_front st s [] [] = refl
pairs_front st s [] (q ∷ qs) = refl
pairs_front st s (r ∷ rs) more = ap (λ (xs : List Exchange). record { said = r; answered = (step_of s r 512).bytes; reading = st } ∷ xs) (pairs_front (further st (step_of s r 512).bytes) (step_of s r 512).next rs more)

-- calls with room enough, all of them answered
abbrev roomy : List (List ℕ) → List Call
roomy rs = map (λ (r : List ℕ). record { said = r; room = 512 }) rs

all_answered : (rs : List (List ℕ)) → answered_of (roomy rs) ≡ rs
unfolding answered_of
all_answered [] = refl
all_answered (r ∷ rs) = ap (λ (l : List (List ℕ)). r ∷ l) (all_answered rs)

stated : (rs : List (List ℕ)) → Bytes rs → Statement (roomy rs) rs
stated rs b = let e = all_answered rs in subst (Statement (roomy rs)) e (demand (roomy rs) (subst Bytes (sym e) b))

-- ---- the program: where its run stands after any of its turns

module _ (s : Stand P.Session) (t : Serves sessions fresh s) where
  abbrev R : List ℕ
  R = t.R

  abbrev W : List ℕ
  W = t.W

  abbrev rs : List (List ℕ)
  rs = t.said

  replied : W ≡ joined (replies fresh rs)
  replied = t.replied ∙ ap joined (outs_are fresh rs)

  cut_records : cut R ≡ rs ++ cut (waiting s)
  cut_records = ap cut t.kept ∙ ap (λ (p : Parts). p.whole) (front_cut rs (waiting s) t.whole)

  all_taken : size_of (waiting s) ≡ 0 → cut R ≡ rs
  all_taken n = cut_records ∙ ap (λ (p : Parts). rs ++ p.whole) (parts_none (length (waiting s)) (waiting s) n) ∙ append-nil rs

  parts_made : ◌≡◌ {A = Parts} (record { whole = cut W; rest = rest_of W }) (record { whole = replies fresh rs; rest = [] })
  unfolding session_after
  parts_made = one_cut (replies fresh rs) [] (append-nil (joined (replies fresh rs)) ∙ sym replied) (replies_whole [] rs) refl

  cut_made : cut W ≡ replies fresh rs
  cut_made = ap (λ (p : Parts). p.whole) parts_made

  heard : pairs opening (cut R) (cut W) ≡ exchanges opening fresh rs
  heard = ap₂ (pairs opening) cut_records cut_made ∙ pairs_front opening fresh rs (cut (waiting s))

  -- WHERE NO WHOLE RECORD WAITS, WHAT WAS MADE IS THE PAPER'S REPLIES TO THE WHOLE RECORDS THAT WERE READ
  pub replay_replies : size_of (waiting s) ≡ 0 → W ≡ joined (replies fresh (cut R))
  replay_replies n = replied ∙ ap (λ (l : List (List ℕ)). joined (replies fresh l)) (sym (all_taken n))

  reached : after_calls fresh (roomy rs) ≡ s.state
  reached = any_room fresh (roomy rs) ∙ ap (session_after fresh) (all_answered rs) ∙ sym (t.state ∙ after_is fresh rs)

  -- DOCUMENT 02, ITEM 12, OF WHAT WAS READ AND WHAT WAS MADE, both cut by their heads
  pub replay_one_line : Item12 (pairs opening (cut R) (cut W)) s.state
  replay_one_line =
      subst (λ (xs : List Exchange). Item12 xs s.state) (ap (exchanges opening fresh) (all_answered rs) ∙ sym heard)
      (subst (Item12 (exchanges opening fresh (answered_of (roomy rs)))) reached (item_12 (roomy rs)))

  -- what is read are bytes: `brought_bytes` of filter has it of the lent buffers
  module _ (bytes : all_b (λ (b : ℕ). ltb b 256) R ≡ true) where
    records_bytes : Bytes rs
    records_bytes = let f : ℕ → Bool = λ (x : ℕ). ltb x 256 in all_joined f rs (all_parts f (joined rs) (waiting s) (ap (all_b f) (sym t.kept) ∙ bytes)).0

    -- DEMAND 3 OF WHAT WAS READ AND WHAT WAS MADE
    pub replay_kept : KeptRun R W s
    replay_kept =
        let d = stated rs records_bytes in
        record {
          kept = subst Kept (sym heard) d.kept;
          true_to = ap (told blank) heard ∙ d.true_to ∙ ap ledger_of reached;
          done = ap (λ (p : Parts). p.rest) parts_made;
          even = λ n. ap length (all_taken n) ∙ as_many fresh rs ∙ ap length (sym cut_made);
        }

    -- and a ledger over them finds nothing broken
    pub replay_unbroken : size_of (waiting s) ≡ 0 → (watched opening 1 blank (cut R) (cut W)).part ≡ 0
    replay_unbroken n = ap₂ (λ (x y : List (List ℕ)). (watched opening 1 blank x y).part) (all_taken n) cut_made ∙ watched_fresh rs records_bytes
