-- What holds of every stored picture, and does not ask whether it waits, lasts.
use Prim.Native.Nat.{ℕ, zero, suc}
use mathlib.Core.Path.{◌≡◌, refl}
use mathlib.Core.List.{List, ◌++◌, map}
use mathlib.Core.Bool.{Bool, true, false, cond, not, ◌||◌}
use lib.ListN.{length}
use Rattle.paper.specs.declared.Serial.{Serial}
use Rattle.paper.specs.declared.Limits.{Limits}
use Rattle.paper.specs.declared.Mark.{Mark}
use Rattle.paper.specs.declared.Picture.{Picture}
use Rattle.paper.specs.Words.{keep}
use Rattle.paper.specs.Records.{Fields}
use Rattle.paper.specs.State.{Session, is_marked, modulus}
use Rattle.paper.specs.Sets.{Wishes, used_by, unused_by, is_in, marked, in_order, mark_all, mark_only, long_set, long_marked, sets_of, marks_of, unmarked_if}
use Rattle.paper.specs.Output.{Moved, still, turns, lowest, is_it, leave, stay, quieted, hand_found, hand_out, cleared, emptied, in_use, removed, hand_while, due, before_decoding}
use Rattle.paper.specs.Begin.{wishes, starts_over, marked_store}
use Rattle.paper.proofs.Bools.{by_case}
use Rattle.paper.proofs.Every.{All, all_keep}
use Rattle.paper.proofs.Firsts.{all_drop, all_change}
use Rattle.std.proofs.Common.{Option, None, Some}

module _ (P : Picture → Type 0) (last : (p : Picture) → P p → P (quieted p)) where
  all_hand : (always : Bool) (ps : List Picture) → All P ps → All P (hand_out always ps).pics
  unfolding hand_out
  all_hand always ps a = go (lowest None ps)
    where
      go : (x : Option Picture) → All P (hand_found always ps x).pics
      go None = a
      go (Some p) =
          by_case (λ (m : Moved). All P m.pics) (always || not (is_marked p.mark)) (leave ps p) (stay ps p)
          (λ _. all_drop P (is_it p) ps a) (λ _. all_change P (is_it p) quieted last ps a)

  all_turns : (f : List Picture → Moved) → ((qs : List Picture) → All P qs → All P (f qs).pics) → (n : ℕ) (ps : List Picture) → All P ps → All P (turns n f ps).pics
  unfolding turns
  all_turns f h zero ps a = a
  all_turns f h (suc n) ps a = all_turns f h n (f ps).pics (h ps a)

  pub all_while : (g : List Picture → Bool) (ps : List Picture) → All P ps → All P (hand_while g ps).pics
  unfolding hand_while
  all_while g ps a =
      all_turns (λ (qs : List Picture). cond (g qs) (hand_out false qs) (still qs))
      (λ qs b. by_case (λ (m : Moved). All P m.pics) (g qs) _ _ (λ _. all_hand false qs b) (λ _. b)) (length ps) ps a

  pub all_removed : (ps : List Picture) → All P ps → All P (removed ps).pics
  unfolding removed
  all_removed ps a = all_keep P in_use ps a

  pub all_before : (starts no_prior_pics : Bool) (l : Limits) (ps : List Picture) → All P ps → All P (before_decoding starts no_prior_pics l ps).pics
  unfolding before_decoding emptied cleared
  all_before starts no_prior_pics l ps a =
      by_case (λ (m : Moved). All P m.pics) starts _ _
      (λ _. by_case (λ (m : Moved). All P m.pics) no_prior_pics _ _ (λ _. tt) (λ _. tt))
      (λ _. all_while (due true l) (removed ps).pics (all_removed ps a))

-- marking changes marks
module _ (Q : List Picture → Type 0) (step : (g : Picture → Picture) (ps : List Picture) → ((p : Picture) → (m : Mark) × (g p ≡ marked m p)) → Q ps → Q (map g ps)) where
  pub by_marks : (b : Bool) (M : ℕ) (ps : List Picture) (w : Wishes) → Q ps → Q (marks_of M (unmarked_if b ps) w)
  unfolding marks_of mark_all mark_only
  by_marks b M ps w q =
      step (λ (p : Picture). cond (is_in p.serial members) p (marked Mark.Unmarked p)) (long_marked M qs w)
      (λ p. by_case (λ (x : Picture). (m : Mark) × (x ≡ marked m p)) (is_in p.serial members) p (marked Mark.Unmarked p) (λ _. (p.mark, refl)) (λ _. (Mark.Unmarked, refl)))
      (step (λ (p : Picture). cond (is_in p.serial long) (marked Mark.LongTerm p) p) qs
      (λ p. by_case (λ (x : Picture). (m : Mark) × (x ≡ marked m p)) (is_in p.serial long) (marked Mark.LongTerm p) p (λ _. (Mark.LongTerm, refl)) (λ _. (p.mark, refl)))
      (by_case Q b (map (marked Mark.Unmarked) ps) ps (λ _. step (marked Mark.Unmarked) ps (λ p. (Mark.Unmarked, refl)) q) (λ _. q)))
    where
      qs : List Picture
      qs = unmarked_if b ps

      members : List Serial
      members = in_order (sets_of M qs w)

      long : List Serial
      long = long_set M qs (keep used_by w.lt) ++ long_set M qs (keep unused_by w.lt)

  -- in a session
  pub by_begin : (s : Session) (f : Fields) → Q s.store → Q (marked_store s f)
  unfolding marked_store
  by_begin s f q = by_marks (starts_over s f) (modulus s.limits) s.store (wishes s f) q
