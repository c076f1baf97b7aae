-- Handing out throws nothing away, and emptying leaves nothing to throw away.
use Prim.Native.Nat.{ℕ, zero, suc, ◌≤◌, zero-le}
use mathlib.Core.Path.{◌≡◌, refl, sym, ap, ◌∙◌}
use mathlib.Core.List.{List, [], ◌∷◌, map}
use mathlib.Core.Bool.{Bool, true, false, cond, not, ◌&&◌, ◌||◌}
use native.Mathlib.Omega.{arith}
use lib.ListN.{length}
use Rattle.paper.specs.declared.Picture.{Picture}
use Rattle.paper.specs.Words.{keep}
use Rattle.paper.specs.State.{is_marked}
use Rattle.paper.specs.Output.{Moved, still, turns, below, lowest, leave, stay, quieted, is_it, hand_found, hand_out, cleared, emptied, hand_while}
use Rattle.paper.proofs.Bools.{split, by_case}
use Rattle.paper.proofs.Firsts.{First, waits_first, drop_keep, change_keep, lowest_first}
use Rattle.std.proofs.Common.{Option, None, Some}

-- nothing is thrown away by a turn
hand_throws : (always : Bool) (ps : List Picture) → (hand_out always ps).tail.thrown ≡ []
unfolding hand_out
hand_throws always ps = go (lowest None ps)
  where
    go : (x : Option Picture) → (hand_found always ps x).tail.thrown ≡ []
    go None = refl
    go (Some p) = by_case (λ (m : Moved). m.tail.thrown ≡ []) (always || not (is_marked p.mark)) _ _ (λ _. refl) (λ _. refl)

turns_throw : (f : List Picture → Moved) → ((qs : List Picture) → (f qs).tail.thrown ≡ []) → (n : ℕ) (ps : List Picture) → (turns n f ps).tail.thrown ≡ []
unfolding turns
turns_throw f h zero ps = refl
turns_throw f h (suc n) ps = rw (h ps) (turns_throw f h n (f ps).pics)

pub while_throws : (g : List Picture → Bool) (ps : List Picture) → (hand_while g ps).tail.thrown ≡ []
unfolding hand_while
while_throws g ps =
    turns_throw (λ (qs : List Picture). cond (g qs) (hand_out false qs) (still qs))
    (λ qs. by_case (λ (m : Moved). m.tail.thrown ≡ []) (g qs) _ _ (λ _. hand_throws false qs) (λ _. refl)) (length ps) ps

unfoldable pub waitings : List Picture → List Picture
waitings ps = keep (λ (p : Picture). p.waiting) ps

-- where nothing is found, nothing waits
pub lowest_none : (b : Option Picture) (ps : List Picture) → lowest b ps ≡ None → (b ≡ None) × (length (waitings ps) ≡ 0)
unfolding lowest waitings keep
lowest_none b [] e = (e, refl)
lowest_none b (q ∷ ps) e =
    let k = lowest_none (cond (q.waiting && below q b) (Some q) b) ps e in
    split (q.waiting && below q b)
    (λ t. absurd (never q (rw t at k.0)))
    (λ t.
    let n : b ≡ None = rw t at k.0 in
    (n, rw (not_there q (rw n at t)) k.1))
  where
    never : (q : Picture) → Some q ≡ None → ⊥
    never q e = let z : ◌≡◌ {A = ℕ} 0 1 = cc in omega arith

    not_there : (q : Picture) → (q.waiting && true) ≡ false → q.waiting ≡ false
    not_there q e = sym (mathlib.Core.Bool.and-true q.waiting) ∙ e

-- of some that leave, those that wait wait no more
pub fewer : (f : Picture → Bool) (ps : List Picture) → length (waitings (keep f ps)) ≤ length (waitings ps)
unfolding waitings keep
fewer f [] = zero-le
fewer f (p ∷ ps) =
    split (f p)
    (λ e. rw e (split p.waiting (λ w. rw w (omega (arith, fewer f ps))) (λ w. rw w (fewer f ps))))
    (λ e. rw e (split p.waiting (λ w. rw w (omega (arith, fewer f ps))) (λ w. rw w (fewer f ps))))

-- a turn that hands one out leaves one fewer that wait
pub one_fewer : (b : Bool) (p : Picture) (ps : List Picture) → First (is_it p) p ps → suc (length (waitings (cond b (leave ps p) (stay ps p)).pics)) ≡ length (waitings ps)
unfolding waitings
one_fewer true p ps f = drop_keep (λ (q : Picture). q.waiting) (is_it p) p (waits_first p ps f) ps f
one_fewer false p ps f = change_keep (λ (q : Picture). q.waiting) (is_it p) p (waits_first p ps f) quieted refl ps f

pub hand_fewer : (always : Bool) (ps : List Picture) (n : ℕ) → length (waitings ps) ≤ suc n → length (waitings (hand_out always ps).pics) ≤ n
unfolding hand_out
hand_fewer always ps n h = go (lowest None ps) refl
  where
    go : (x : Option Picture) → lowest None ps ≡ x → length (waitings (hand_found always ps x).pics) ≤ n
    go None e = omega (arith, (lowest_none None ps e).1)
    go (Some p) e = omega (arith, one_fewer (always || not (is_marked p.mark)) p ps (lowest_first ps p e))

all_out : (n : ℕ) (ps : List Picture) → length (waitings ps) ≤ n → length (waitings (turns n (hand_out true) ps).pics) ≡ 0
unfolding turns
all_out zero ps h = omega arith
all_out (suc n) ps h = all_out n (hand_out true ps).pics (hand_fewer true ps n h)

pub few_wait : (ps : List Picture) → length (waitings ps) ≤ length ps
unfolding waitings keep
few_wait [] = zero-le
few_wait (p ∷ ps) = split p.waiting (λ w. rw w (omega (arith, few_wait ps))) (λ w. rw w (omega (arith, few_wait ps)))

empty_of : {A : Type 0} (xs : List A) → length xs ≡ 0 → xs ≡ []
empty_of [] e = refl
empty_of (x ∷ xs) e = absurd (omega arith)

pub emptied_throws : (ps : List Picture) → (emptied ps).tail.thrown ≡ []
unfolding emptied cleared waitings
emptied_throws ps =
    rw (turns_throw (hand_out true) (hand_throws true) (length ps) ps)
    (ap (λ (l : List Picture). map (λ (p : Picture). p.serial) l) (empty_of (waitings (turns (length ps) (hand_out true) ps).pics) (all_out (length ps) ps (few_wait ps))))

pub emptied_leaves : (ps : List Picture) → (emptied ps).pics ≡ []
unfolding emptied cleared
emptied_leaves ps = refl
