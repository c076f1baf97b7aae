-- Handing out told by serial, proved: where no two pictures have one serial, the first that waits with its POC is the
-- one of its serial. What is left has serials that were there, so again no two have one.
use Prim.Native.Nat.{ℕ, zero, suc}
use mathlib.Core.Path.{◌≡◌, refl, ap, ◌∙◌}
use mathlib.Core.List.{List, [], ◌∷◌}
use mathlib.Core.Bool.{Bool, true, false, cond, not, ◌||◌}
use lib.IntN.{pos}
use lib.ListN.{length}
use Rattle.paper.specs.declared.Picture.{Picture}
use Rattle.paper.specs.declared.Mark.TheVariants.{ShortTerm}
use Rattle.paper.specs.declared.Limits.{Limits}
use Rattle.paper.specs.Words.{keep, all_b, drop_first}
use Rattle.paper.specs.Numbers.{a_serial, a_surface}
use Rattle.paper.specs.State.{is_marked, fresh}
use Rattle.paper.specs.Output.{Moved, still, and_then, joined, turns, lowest, is_it, hand_found, hand_out, cleared, emptied, removed, in_use, due, hand_while, before_decoding}
use Rattle.paper.specs.Step.{session_after}
use Rattle.paper.specs.Statement.{Bytes}
use Rattle.paper.specs.BySerial.{other, apart, done, taken_by_serial, hand_by_serial, while_by_serial, emptied_by_serial, before_by_serial, BySerial}
use Rattle.paper.proofs.Bools.{both, left, right, split}
use Rattle.paper.proofs.Every.{all_true, all_of}
use Rattle.paper.proofs.Apart.{Distinct, OtherSerial, Serials, serials, pairs_keep, pairs_map}
use Rattle.paper.proofs.Firsts.{lowest_first}
use Rattle.paper.proofs.Moves.{drop_others, change_done}
use Rattle.paper.proofs.Sound.{Sound, store_distinct, marked_distinct, raised_distinct}
use Rattle.paper.proofs.LedgerTold.{sound_after, sound_fresh}
use Rattle.std.proofs.Common.{Option, None, Some}

-- the test, and what it tells of each two
of_apart : (ps : List Picture) → apart ps ≡ true → Serials ps
unfolding apart
of_apart [] e = tt
of_apart (p ∷ ps) e = (all_of (other p) ps (left (all_b (other p) ps) _ e), of_apart ps (right (all_b (other p) ps) _ e))

is_apart : (ps : List Picture) → Serials ps → apart ps ≡ true
unfolding apart
is_apart [] d = refl
is_apart (p ∷ ps) d = both (all_true (other p) ps d.0) (is_apart ps d.1)

distinct_apart : (ps : List Picture) → Distinct ps → apart ps ≡ true
distinct_apart ps d = is_apart ps (serials ps d)

-- both ways do the same, and no two that are left have one serial
record Agree (m n : Moved) : Type 0 where
  same : m ≡ n
  apart : Serials m.pics

agree_then : (m n : Moved) (f g : List Picture → Moved) → Agree m n → (Serials m.pics → Agree (f m.pics) (g m.pics)) → Agree (and_then m f) (and_then n g)
agree_then m n f g a b =
    record {
      same = ap (λ (x : Moved). record { pics = x.pics; tail = joined m.tail x.tail }) (b a.apart).same ∙ ap (λ (x : Moved). and_then x g) a.same;
      apart = (b a.apart).apart;
    }

agree_hand : (always : Bool) (ps : List Picture) → Serials ps → Agree (hand_out always ps) (hand_by_serial always ps)
unfolding hand_out hand_by_serial
agree_hand always ps d = go (lowest None ps) refl
  where
    go : (x : Option Picture) → lowest None ps ≡ x → Agree (hand_found always ps x) (taken_by_serial always ps x)
    go None e = record { same = refl; apart = d }
    go (Some p) e =
        let f = lowest_first ps p e in
        split (always || not (is_marked p.mark))
        (λ u. rw (u, drop_others (is_it p) p ps d f) (record { same = refl; apart = pairs_keep OtherSerial (other p) ps d }))
        (λ u. rw (u, change_done (is_it p) p ps d f) (record { same = refl; apart = pairs_map OtherSerial (done p) (λ q r o. o) ps d }))

agree_turns : (n : ℕ) (f g : List Picture → Moved) → ((qs : List Picture) → Serials qs → Agree (f qs) (g qs)) → (ps : List Picture) → Serials ps → Agree (turns n f ps) (turns n g ps)
unfolding turns
agree_turns zero f g h ps d = record { same = refl; apart = d }
agree_turns (suc n) f g h ps d = agree_then (f ps) (g ps) (turns n f) (turns n g) (h ps d) (λ a. agree_turns n f g h (f ps).pics a)

agree_while : (f : List Picture → Bool) (ps : List Picture) → Serials ps → Agree (hand_while f ps) (while_by_serial f ps)
unfolding hand_while while_by_serial
agree_while f ps d =
    agree_turns (length ps) (λ (qs : List Picture). cond (f qs) (hand_out false qs) (still qs)) (λ (qs : List Picture). cond (f qs) (hand_by_serial false qs) (still qs))
    (λ qs a. split (f qs) (λ u. rw u (agree_hand false qs a)) (λ u. rw u (record { same = refl; apart = a }))) ps d

agree_cleared : (ps : List Picture) → Agree (cleared ps) (cleared ps)
unfolding cleared
agree_cleared ps = record { same = refl; apart = tt }

agree_emptied : (ps : List Picture) → Serials ps → Agree (emptied ps) (emptied_by_serial ps)
unfolding emptied emptied_by_serial
agree_emptied ps d =
    agree_then (turns (length ps) (hand_out true) ps) (turns (length ps) (hand_by_serial true) ps) cleared cleared
    (agree_turns (length ps) (hand_out true) (hand_by_serial true) (agree_hand true) ps d) (λ _. agree_cleared (turns (length ps) (hand_out true) ps).pics)

agree_removed : (ps : List Picture) → Serials ps → Agree (removed ps) (removed ps)
unfolding removed
agree_removed ps d = record { same = refl; apart = pairs_keep OtherSerial in_use ps d }

agree_before : (starts no_prior_pics : Bool) (l : Limits) (ps : List Picture) → Serials ps → Agree (before_decoding starts no_prior_pics l ps) (before_by_serial starts no_prior_pics l ps)
unfolding before_decoding before_by_serial
agree_before true true l ps d = agree_cleared ps
agree_before true false l ps d = agree_emptied ps d
agree_before false no_prior_pics l ps d =
    agree_then (removed ps) (removed ps) (hand_while (due true l)) (while_by_serial (due true l)) (agree_removed ps d) (agree_while (due true l) (removed ps).pics)

sound_now : (rs : List (List ℕ)) → Bytes rs → Sound (session_after fresh rs)
sound_now rs b = sound_after fresh rs sound_fresh b

pub by_serial : BySerial
by_serial =
    record {
      hand = λ always ps a. (agree_hand always ps (of_apart ps a)).same;
      while = λ f ps a. (agree_while f ps (of_apart ps a)).same;
      empty = λ ps a. (agree_emptied ps (of_apart ps a)).same;
      before = λ starts no_prior_pics l ps a. (agree_before starts no_prior_pics l ps (of_apart ps a)).same;
      left = λ f ps a. is_apart (hand_while f ps).pics (agree_while f ps (of_apart ps a)).apart;
      reached = λ rs b. distinct_apart _ (store_distinct (session_after fresh rs) (sound_now rs b));
      begun = λ rs b f. distinct_apart _ (marked_distinct (session_after fresh rs) (sound_now rs b) f);
      finished = λ rs b c e. distinct_apart _ (raised_distinct (session_after fresh rs) (sound_now rs b) c e);
    }

-- Without that it is not so: two that wait and have one serial. By itself one leaves, by serial both do.
twin : ℕ → Picture
twin n = record { serial = a_serial 7; surface = a_surface n; poc = pos n; mark = ShortTerm; waiting = true; count = 0 }

not_apart : apart (twin 0 ∷ twin 1 ∷ []) ≡ false
unfolding apart all_b twin
not_apart = refl

one_leaves : (hand_out true (twin 0 ∷ twin 1 ∷ [])).pics ≡ twin 1 ∷ []
unfolding hand_out lowest drop_first twin
one_leaves = refl

both_leave : (hand_by_serial true (twin 0 ∷ twin 1 ∷ [])).pics ≡ []
unfolding hand_by_serial lowest keep twin
both_leave = refl
