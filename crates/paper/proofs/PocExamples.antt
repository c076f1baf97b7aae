-- Item 12 says something: a recording and its POCs by the rule, worked out by hand, and short exchanges, each under the
-- sentence that it breaks.
use Prim.Native.Nat.{ℕ}
use mathlib.Core.Path.{◌≡◌, refl, ap}
use mathlib.Core.List.{List, [], ◌∷◌, ◌++◌}
use mathlib.Core.Bool.{Bool, true, false, not, ◌&&◌, ◌||◌}
use native.Mathlib.Omega.{arith}
use lib.IntN.{ℤ, pos, negsuc, ◌*ℤ◌}
use borrow.Author.Tests.{eqb-false}
use Rattle.paper.specs.Words.{any_b}
use Rattle.paper.specs.Numbers.{bit, bytes16, bytes32, signed32}
use Rattle.paper.specs.Kinds.{configure_kind, begin_kind, reply_to}
use Rattle.paper.specs.Reading.{opening}
use Rattle.paper.specs.State.{Session}
use Rattle.paper.specs.Replies.{framed}
use Rattle.paper.specs.Ledger.{Exchange}
use Rattle.paper.specs.Poc.{eq_z}
use Rattle.paper.specs.Nearest.{Multiple}
use Rattle.paper.specs.OneLine.{accepts, poc_in, Notes, empty, modulus_in, previous_after, noted, notes, LastConfigure, Finished, LastFinished, Since, InWords, Covered, OneLine, poc_after, Computed, MsbMultiple, Item12}
use Rattle.paper.proofs.Bools.{not_both}
use Rattle.paper.proofs.Broken.{call, ◌and◌}
use Rattle.paper.proofs.InWords.{or_none, none_parts}
use Rattle.paper.proofs.Covered.{no_cons}
use Rattle.paper.proofs.Every.{All, all_more}
use Rattle.paper.proofs.Whole.{up_mul, dn_mul, up_pos, dn_pos, of_eq}

-- Records and replies in bytes. Every tail is left out: nobody who tells POC reads it.
abbrev configuring : ℕ → Exchange
configuring k = record { said = 6 ∷ 0 ∷ 1 ∷ 0 ∷ k ∷ 4 ∷ 4 ∷ 0 ∷ 0 ∷ 0 ∷ []; answered = framed (reply_to configure_kind) 0 []; reading = opening }

abbrev refused_five : Exchange
refused_five = record { said = (configuring 5).said; answered = framed (reply_to configure_kind) 9 []; reading = opening }

-- a begin of this NAL type and lsb, and the reply: its number, POC and flags
abbrev answering : ℕ → ℕ → ℕ → ℤ → ℕ → Exchange
answering number nal lsb poc flags =
    record {
      said = 12 ∷ 0 ∷ 2 ∷ 0 ∷ nal ∷ 0 ∷ 1 ∷ bytes16 lsb ++ (7 ∷ 0 ∷ 0 ∷ 0 ∷ 0 ∷ 0 ∷ 0 ∷ []);
      answered = framed (reply_to begin_kind) number (signed32 poc ++ (flags ∷ []));
      reading = opening;
    }

-- flags 7: NoRaslOutputFlag, output flag, valid for prevTid0Pic; 6: without the first; 2: only the output flag
abbrev idr : Exchange
idr = answering 0 19 0 (pos 0) 7

abbrev valid : ℕ → ℤ → Exchange
valid lsb poc = answering 0 1 lsb poc 6

abbrev other : ℕ → ℤ → Exchange
other lsb poc = answering 0 0 lsb poc 2

abbrev finish : Exchange
finish = call 4 []

abbrev drain : Exchange
drain = call 5 []

abbrev discard : Exchange
discard = call 6 []

abbrev end : Exchange
end = call 7 []

abbrev abandon : Exchange
abandon = call 8 []

-- the POC in the reply to each accepted begin of some exchanges is what the rule gives
abbrev by_rule : Notes → List Exchange → Bool
by_rule n [] = true
by_rule n (x ∷ xs) = (not (accepts begin_kind x) || eq_z (poc_in x) (poc_after (modulus_in n) n.previous x)) && by_rule (noted n x) xs

-- M = 16: after 0, lsb 9 is −7, as 9 lies 9 above; after −7, lsb 1 is 1, 8 above, and −15 lies 8 below: the tie goes up.
-- A picture that is not valid, one that is abandoned and one that is discarded leave 1 the previous; drain finishes one.
-- After a configure to M = 32 there is none before 13; after 13, lsb 29 is 29, 16 above. An IDR, and a CRA after end of
-- sequence, start over; a CRA without NoRaslOutputFlag goes on.
abbrev sample : List Exchange
sample =
    configuring 4 ∷ idr ∷ finish ∷ valid 9 (negsuc 6) ∷ finish ∷ valid 1 (pos 1) ∷ finish ∷ other 12 (negsuc 3) ∷ finish
    ∷ valid 9 (pos 9) ∷ abandon ∷ valid 9 (pos 9) ∷ discard ∷ answering 5 1 16 (pos 0) 0 ∷ valid 2 (pos 2) ∷ drain ∷ valid 15 (negsuc 0)
    ∷ finish ∷ configuring 5 ∷ valid 13 (pos 13) ∷ finish ∷ valid 29 (pos 29) ∷ finish ∷ idr ∷ finish ∷ end ∷ answering 0 21 20 (pos 20) 7
    ∷ finish ∷ answering 0 21 3 (pos 35) 6 ∷ []

pub sample_told : by_rule empty sample ≡ true
unfolding bit bytes32 previous_after noted poc_after
sample_told = refl

-- what each sentence says of some exchanges
pub data Sentence : Type 0 where
  in_words : Sentence
  one_line : Sentence
  computed : Sentence
  multiple : Sentence
  covered : Sentence

abbrev pub says : Sentence → List Exchange → Type 0
says in_words xs = InWords xs
says one_line xs = OneLine xs
says computed xs = Computed xs
says multiple xs = MsbMultiple xs
says covered xs = Covered xs

pub record Break : Type 0 where
  pub sentence : Sentence
  pub exchanges : List Exchange

infix 70 ◌is-broken-by◌
abbrev ◌is-broken-by◌ : Sentence → List Exchange → Break
s is-broken-by xs = record { sentence = s; exchanges = xs }

-- after a finished picture of POC 0
abbrev after0 : List Exchange → List Exchange
after0 xs = configuring 4 ∷ idr ∷ finish ∷ xs

abbrev pub broken : List Break
broken =
    -- a tie goes down: −8, where 8 is as near
    in_words is-broken-by after0 (valid 8 (negsuc 7) ∷ [])
    ∷ one_line is-broken-by after0 (valid 8 (negsuc 7) ∷ [])
    -- the lsb alone: 9, where −7 is nearer
    ∷ one_line is-broken-by after0 (valid 9 (pos 9) ∷ [])
    -- another remainder
    ∷ one_line is-broken-by after0 (valid 5 (pos 4) ∷ [])
    -- from a picture that was begun and not finished, one that was abandoned, one that was discarded, one that is not
    -- valid: after 7 it would be 9
    ∷ one_line is-broken-by after0 (valid 7 (pos 7) ∷ valid 9 (pos 9) ∷ [])
    ∷ one_line is-broken-by after0 (valid 7 (pos 7) ∷ abandon ∷ valid 9 (pos 9) ∷ [])
    ∷ one_line is-broken-by after0 (valid 7 (pos 7) ∷ discard ∷ valid 9 (pos 9) ∷ [])
    ∷ one_line is-broken-by after0 (other 7 (pos 7) ∷ finish ∷ valid 9 (pos 9) ∷ [])
    -- past a picture that a drain finished: after 7 it is 9
    ∷ one_line is-broken-by after0 (valid 7 (pos 7) ∷ drain ∷ valid 9 (negsuc 6) ∷ [])
    -- with the M of a configure that was refused: 9, where M is still 16 and −7 is nearer
    ∷ one_line is-broken-by after0 (refused_five ∷ valid 9 (pos 9) ∷ [])
    -- past a configure, and past an IRAP with NoRaslOutputFlag
    ∷ in_words is-broken-by after0 (configuring 4 ∷ valid 9 (negsuc 6) ∷ [])
    ∷ computed is-broken-by after0 (configuring 4 ∷ valid 9 (negsuc 6) ∷ [])
    ∷ in_words is-broken-by after0 (answering 0 16 9 (negsuc 6) 7 ∷ [])
    ∷ computed is-broken-by after0 (answering 0 16 9 (negsuc 6) 7 ∷ [])
    -- a picture of lsb 0 and POC 5
    ∷ multiple is-broken-by (configuring 4 ∷ answering 0 19 0 (pos 5) 7 ∷ finish ∷ [])
    -- a begin that is accepted with no configure before it, or only a refused one
    ∷ covered is-broken-by (idr ∷ [])
    ∷ covered is-broken-by (refused_five ∷ idr ∷ [])
    ∷ []

-- a negative number is not 9, and 5 is no multiple of 16
below_nine : (n : ℕ) → negsuc n ≡ pos 9 → ⊥
below_nine n e = not_both (eq_z (negsuc n) (pos 9)) (ap (λ (z : ℤ). eq_z z (pos 9)) e) refl

no_multiple : Multiple 16 (pos 5) → ⊥
no_multiple m = omega (arith, of_eq (pos 5) (m.times *ℤ pos 16) m.is, up_mul m.times 16, dn_mul m.times 16, up_pos 5, dn_pos 5)

-- nothing is finished in no exchanges; the IDR is in the first two behind a configure
none_in : (z : Exchange) (more : List Exchange) → Finished [] z more → ⊥
none_in z more f = no_cons f.before _ z f.parts

idr_finished : LastFinished (idr ∷ finish ∷ []) idr
unfolding bit bytes32 any_b
idr_finished = record { behind = []; finished = record { before = []; during = []; end = finish; parts = refl; begins = refl; valid = refl; still = refl; finished = refl }; last = none_in }

behind_configure : (bs : List Exchange) (c : Exchange) (ls : List Exchange) → accepts configure_kind c ≡ true → any_b (accepts configure_kind) ls ≡ false → LastConfigure (bs ++ (c ∷ ls)) c ls
behind_configure bs c ls a l = record { before = bs; parts = refl; accepted = a; last = l }

no_configure : (bs : List Exchange) → any_b (accepts configure_kind) bs ≡ false → Since bs → ⊥
unfolding any_b
no_configure bs e s =
    let l = s.configured in
    let t = none_parts (accepts configure_kind) l.before (s.configure ∷ s.since) (rw l.parts at e) in
    not_both (accepts configure_kind s.configure) l.accepted (or_none (accepts configure_kind s.configure) _ t.1).0

-- NO SENTENCE HOLDS OF THE EXCHANGES UNDER IT
pub all_broken : All (λ (k : Break). says k.sentence k.exchanges → ⊥) broken
unfolding any_b bit bytes32 previous_after noted notes poc_after
all_broken =
    (λ k. ((k (after0 []) [] (idr ∷ finish ∷ []) (valid 8 (negsuc 7)) (configuring 4) refl refl (behind_configure [] (configuring 4) (idr ∷ finish ∷ []) refl refl)).near idr refl idr_finished).is.above.lt)
    and (λ k. (k (after0 []) [] (valid 8 (negsuc 7)) idr refl refl refl refl).is.above.lt)
    and (λ k. (k (after0 []) [] (valid 9 (pos 9)) idr refl refl refl refl).is.most.le)
    and (λ k. eqb-false 4 5 refl (k (after0 []) [] (valid 5 (pos 4)) idr refl refl refl refl).is.rem)
    and (λ k. (k (after0 (valid 7 (pos 7) ∷ [])) [] (valid 9 (pos 9)) idr refl refl refl refl).is.most.le)
    and (λ k. (k (after0 (valid 7 (pos 7) ∷ abandon ∷ [])) [] (valid 9 (pos 9)) idr refl refl refl refl).is.most.le)
    and (λ k. (k (after0 (valid 7 (pos 7) ∷ discard ∷ [])) [] (valid 9 (pos 9)) idr refl refl refl refl).is.most.le)
    and (λ k. (k (after0 (other 7 (pos 7) ∷ finish ∷ [])) [] (valid 9 (pos 9)) idr refl refl refl refl).is.most.le)
    and (λ k. (k (after0 (valid 7 (pos 7) ∷ drain ∷ [])) [] (valid 9 (negsuc 6)) (valid 7 (pos 7)) refl refl refl refl).is.above.lt)
    and (λ k. (k (after0 (refused_five ∷ [])) [] (valid 9 (pos 9)) idr refl refl refl refl).is.most.le)
    and (λ k. below_nine 6 ((k (after0 (configuring 4 ∷ [])) [] [] (valid 9 (negsuc 6)) (configuring 4) refl refl (behind_configure (after0 []) (configuring 4) [] refl refl)).first (λ y b f. none_in y b f)))
    and (λ k. below_nine 6 (k (after0 (configuring 4 ∷ [])) [] (valid 9 (negsuc 6)) refl refl))
    and (λ k. below_nine 6 ((k (after0 []) [] (idr ∷ finish ∷ []) (answering 0 16 9 (negsuc 6) 7) (configuring 4) refl refl (behind_configure [] (configuring 4) (idr ∷ finish ∷ []) refl refl)).over refl))
    and (λ k. below_nine 6 (k (after0 []) [] (answering 0 16 9 (negsuc 6) 7) refl refl))
    and (λ k. no_multiple (k (configuring 4 ∷ answering 0 19 0 (pos 5) 7 ∷ finish ∷ []) [] (answering 0 19 0 (pos 5) 7) refl refl))
    and (λ k. no_configure [] refl (k [] [] idr refl refl))
    and (λ k. no_configure (refused_five ∷ []) refl (k (refused_five ∷ []) [] idr refl refl))
    and tt

-- NONE OF THEM IS AS ITEM 12 SAYS, whatever the session
pub none_so : All (λ (k : Break). (s : Session) → Item12 k.exchanges s → ⊥) broken
none_so = all_more (λ (k : Break). says k.sentence k.exchanges → ⊥) (λ (k : Break). (s : Session) → Item12 k.exchanges s → ⊥) (λ k h s x. h (item_says k.sentence k.exchanges s x)) broken all_broken
  where
    item_says : (w : Sentence) (xs : List Exchange) (s : Session) → Item12 xs s → says w xs
    item_says in_words xs s k = k.in_words
    item_says one_line xs s k = k.one_line
    item_says computed xs s k = k.computed
    item_says multiple xs s k = k.multiple
    item_says covered xs s k = k.covered
