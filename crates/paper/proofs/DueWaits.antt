-- Item 9: where one is due without the buffering test one waits, because what that test counts and what it finds late
-- are pictures that wait. Assumes nothing.
use Prim.Native.Nat.{ℕ, zero, suc, zero-le}
use mathlib.Core.Path.{◌≡◌, refl, sym, ap, ◌∙◌}
use mathlib.Core.List.{List, [], ◌∷◌}
use mathlib.Core.Bool.{Bool, true, false, cond, not, ◌&&◌, ◌||◌}
use native.Mathlib.Omega.{arith}
use lib.Dec.{eqb, ltb, leb}
use lib.ListN.{length}
use borrow.Author.Tests.{le-ltb}
use Rattle.paper.specs.declared.Picture.{Picture}
use Rattle.paper.specs.declared.Limits.{Limits}
use Rattle.paper.specs.declared.Current.{Current}
use Rattle.paper.specs.Words.{keep, any_b}
use Rattle.paper.specs.State.{Session}
use Rattle.paper.specs.Output.{Moved, still, and_then, turns, lowest, hand_found, hand_out, emptied, due_late, due_full, hand_while}
use Rattle.paper.specs.Calls.{finished, drained, drained_now}
use Rattle.paper.specs.DueWaits.{one_waits, due_over, hand_the, as_found, turn_due, hand_due, with_stored, Item9}
use Rattle.paper.proofs.Bools.{left, or_right, split, not_both, any_mono}
use Rattle.paper.proofs.Quiet.{waitings, lowest_none}
use Rattle.std.proofs.Common.{Option, None, Some}

-- ---- due means that one waits

none_waits : (ps : List Picture) → one_waits ps ≡ false → length (waitings ps) ≡ 0
unfolding one_waits waitings keep any_b
none_waits [] e = refl
none_waits (p ∷ ps) e = split p.waiting (λ w. not_both true refl (rw w at e)) (λ w. rw w (none_waits ps (rw w at e)))

pub some_wait : (ps : List Picture) → length (waitings ps) ≡ 0 → one_waits ps ≡ false
unfolding one_waits waitings keep any_b
some_wait [] z = refl
some_wait (p ∷ ps) z =
    split p.waiting
    (λ w. absurd (let n : suc (length (keep (λ (q : Picture). q.waiting) ps)) ≡ 0 = rw w at z in omega arith))
    (λ w. rw w (some_wait ps (rw w at z)))

module _ (most : ℕ) (tested : Bool) (late : Picture → Bool) (ps : List Picture) where
  not_over : one_waits ps ≡ false → due_over most tested late ps ≡ false
  unfolding one_waits waitings
  not_over w =
      let z : length (keep (λ (p : Picture). p.waiting) ps) ≡ 0 = none_waits ps w in
      let n : ltb most (length (keep (λ (p : Picture). p.waiting) ps)) ≡ false = rw z (le-ltb most 0 zero-le) in
      let y : any_b (λ (p : Picture). p.waiting && late p) ps ≡ false =
      split (any_b (λ (p : Picture). p.waiting && late p) ps)
      (λ h. not_both (any_b (λ (p : Picture). p.waiting) ps) (any_mono (λ (p : Picture). p.waiting && late p) (λ (p : Picture). p.waiting) (λ p q. left p.waiting (late p) q) ps h) w)
      (λ h. h) in
      rw (n, y) (mathlib.Core.Bool.and-false tested)

  over : due_over most tested late ps ≡ true → one_waits ps ≡ true
  over e = split (one_waits ps) (λ w. w) (λ w. not_both (due_over most tested late ps) e (not_over w))

module _ (l : Limits) (ps : List Picture) where
  pub due_waits : due_late l ps ≡ true → one_waits ps ≡ true
  unfolding due_late
  due_waits e = over l.reorder (not (eqb l.latency 0)) (λ (p : Picture). leb l.latency p.count) ps e

  -- and where none waits, none is due
  pub none_due : length (waitings ps) ≡ 0 → due_late l ps ≡ false
  none_due z = split (due_late l ps) (λ e. not_both (one_waits ps) (due_waits e) (some_wait ps z)) (λ e. e)

  found : due_late l ps ≡ true → lowest None ps ≡ Some (as_found (lowest None ps))
  found e = go (lowest None ps) refl
    where
      go : (x : Option Picture) → lowest None ps ≡ x → x ≡ Some (as_found x)
      go None h = not_both (one_waits ps) (due_waits e) (some_wait ps (lowest_none None ps h).1)
      go (Some p) h = refl

-- ---- and handing out while due is what it was

hands_found : (ps : List Picture) (x : Option Picture) → x ≡ Some (as_found x) → hand_the false ps (as_found x) ≡ hand_found false ps x
hands_found ps None e = absurd (let z : ◌≡◌ {A = ℕ} 0 1 = cc in omega arith)
hands_found ps (Some p) e = refl

pub turn_same : (l : Limits) (ps : List Picture) → turn_due l ps ≡ cond (due_late l ps) (hand_out false ps) (still ps)
unfolding hand_out
turn_same l ps = split (due_late l ps) (λ e. rw e (hands_found ps (lowest None ps) (found l ps e))) (λ e. rw e)

turns_same : (f g : List Picture → Moved) → ((qs : List Picture) → f qs ≡ g qs) → (n : ℕ) (ps : List Picture) → turns n f ps ≡ turns n g ps
unfolding turns
turns_same f g h zero ps = refl
turns_same f g h (suc n) ps = rw (h ps) (ap (λ (m : Moved). record { pics = m.pics; tail = (and_then (g ps) (λ _. m)).tail }) (turns_same f g h n (g ps).pics))

pub as_it_was : (l : Limits) (ps : List Picture) → hand_due l ps ≡ hand_while (due_late l) ps
unfolding hand_due hand_while
as_it_was l ps = turns_same (turn_due l) (λ (qs : List Picture). cond (due_late l qs) (hand_out false qs) (still qs)) (turn_same l) (length ps) ps

both_asked : (l : Limits) (qs : List Picture) → due_late l qs ≡ (due_late l qs && one_waits qs)
both_asked l qs = split (due_late l qs) (λ e. rw (e, due_waits l qs e)) (λ e. rw e)

same : (l : Limits) (ps : List Picture) → hand_due l ps ≡ hand_while (λ (qs : List Picture). due_late l qs && one_waits qs) ps
unfolding hand_due hand_while
same l ps =
    turns_same (turn_due l) (λ (qs : List Picture). cond (due_late l qs && one_waits qs) (hand_out false qs) (still qs))
    (λ qs. turn_same l qs ∙ ap (λ (b : Bool). cond b (hand_out false qs) (still qs)) (both_asked l qs)) (length ps) ps

-- a finish's turns
finish : (s : Session) (c : Current) → finished s.limits s.store c ≡ turns (length (with_stored s c)) (turn_due s.limits) (with_stored s c)
unfolding finished hand_due
finish s c = sym (as_it_was s.limits (with_stored s c))

drain : (s : Session) (c : Current) → s.current ≡ Some c → drained_now s ≡ and_then (finished s.limits s.store c) emptied
unfolding drained
drain s c e = rw e

before : (l : Limits) (ps : List Picture) → leb l.buffering (length ps) ≡ true → due_full l ps ≡ true
unfolding due_full
before l ps e = or_right (due_late l ps) _ e

pub item_9 : Item9
item_9 =
    record {
      waits = due_waits;
      over = over;
      found = found;
      reached = λ rs c e n d. due_waits _ _ d;
      finish = finish;
      drain = drain;
      same = same;
      as_it_was = as_it_was;
      before = before;
    }
