-- Between records nothing is due by reorder or latency: a finish hands out until that holds, and nothing else makes one
-- wait.
use Prim.Native.Nat.{ℕ, zero, suc, ◌≤◌, zero-le}
use mathlib.Core.Path.{◌≡◌, refl, sym, ap, ◌∙◌, subst}
use mathlib.Core.Logic.{◌⊎◌, inl, inr, ⊎_elim}
use mathlib.Core.List.{List, [], ◌∷◌, ◌++◌, map}
use mathlib.Core.Bool.{Bool, true, false, cond, not, ◌&&◌, ◌||◌}
use native.Mathlib.Omega.{arith}
use lib.Dec.{eqb, ltb, leb}
use lib.ListN.{length, length-map}
use borrow.Author.Tests.{ltb-false, le-ltb}
use Rattle.paper.specs.declared.Mark.{Mark}
use Rattle.paper.specs.declared.Picture.{Picture}
use Rattle.paper.specs.declared.Limits.{Limits}
use Rattle.paper.specs.declared.Current.{Current}
use Rattle.paper.specs.Words.{keep, any_b, drop_first, change_first}
use Rattle.paper.specs.Records.{Fields, limits_of, fields_of}
use Rattle.paper.specs.State.{Session, fresh, is_marked, on_now}
use Rattle.paper.specs.Sets.{marked}
use Rattle.paper.specs.Output.{Moved, still, turns, lowest, is_it, leave, stay, quieted, hand_found, hand_out, cleared, emptied, in_use, removed, hand_while, due_late, due_full, due, before_decoding}
use Rattle.paper.specs.Begin.{marked_store, starts_over, no_prior_pics, room_made}
use Rattle.paper.specs.Calls.{raised, stored, finished, drained, drained_now, discarded, configured_session}
use Rattle.paper.specs.Step.{Decided, decide_of, step_of, session_after}
use Rattle.paper.proofs.Bools as B
use Rattle.paper.proofs.Bools.{split, not_both, neither, and_sub, by_case}
use Rattle.paper.proofs.Firsts.{any_drop, any_change, lowest_first}
use Rattle.paper.proofs.Quiet.{waitings, fewer, one_fewer, hand_fewer, few_wait, emptied_leaves}
use Rattle.paper.proofs.Lasts.{by_begin}
use Rattle.paper.proofs.Ways.{by_ways}
use Rattle.std.proofs.Common.{Option, None, Some}

unfoldable pub late : Limits → Picture → Bool
late l p = p.waiting && leb l.latency p.count

-- not due: few wait, and none is late where latency counts
pub record Calm (l : Limits) (ps : List Picture) : Type 0 where
  pub few : length (waitings ps) ≤ l.reorder
  pub none : (not (eqb l.latency 0) && any_b (late l) ps) ≡ false

pub calm_due : (l : Limits) (ps : List Picture) → Calm l ps → due_late l ps ≡ false
unfolding due_late waitings late
calm_due l ps c = rw (le-ltb l.reorder (length (keep (λ (p : Picture). p.waiting) ps)) c.few, c.none)

due_calm : (l : Limits) (ps : List Picture) → due_late l ps ≡ false → Calm l ps
unfolding due_late waitings late
due_calm l ps e =
    let o = neither (ltb l.reorder (length (keep (λ (p : Picture). p.waiting) ps))) _ e in
    record { few = ltb-false l.reorder (length (keep (λ (p : Picture). p.waiting) ps)) o.0; none = o.1 }

calm_keep : (l : Limits) (f : Picture → Bool) (ps : List Picture) → Calm l ps → Calm l (keep f ps)
calm_keep l f ps c =
    record {
      few = omega (arith, fewer f ps, c.few);
      none = and_sub (not (eqb l.latency 0)) (any_b (late l) ps) (any_b (late l) (keep f ps)) (λ h. B.any_keep (late l) f ps h) c.none;
    }

-- one that no longer waits is not late
calm_change : (l : Limits) (t : Picture → Bool) (ps : List Picture) → length (waitings (change_first t quieted ps)) ≤ length (waitings ps) → Calm l ps → Calm l (change_first t quieted ps)
unfolding late
calm_change l t ps h c =
    record {
      few = omega (arith, h, c.few);
      none = and_sub (not (eqb l.latency 0)) (any_b (late l) ps) (any_b (late l) (change_first t quieted ps)) (λ k. any_change (late l) t quieted (λ p e. not_both false e refl) ps k) c.none;
    }

calm_drop : (l : Limits) (t : Picture → Bool) (ps : List Picture) → length (waitings (drop_first t ps)) ≤ length (waitings ps) → Calm l ps → Calm l (drop_first t ps)
calm_drop l t ps h c =
    record {
      few = omega (arith, h, c.few);
      none = and_sub (not (eqb l.latency 0)) (any_b (late l) ps) (any_b (late l) (drop_first t ps)) (λ k. any_drop (late l) t ps k) c.none;
    }

calm_hand : (l : Limits) (always : Bool) (ps : List Picture) → Calm l ps → Calm l (hand_out always ps).pics
unfolding hand_out
calm_hand l always ps c = go (lowest None ps) refl
  where
    go : (x : Option Picture) → lowest None ps ≡ x → Calm l (hand_found always ps x).pics
    go None e = c
    go (Some p) e =
        let f = lowest_first ps p e in
        by_case (λ (m : Moved). Calm l m.pics) (always || not (is_marked p.mark)) (leave ps p) (stay ps p)
        (λ _. calm_drop l (is_it p) ps (omega (arith, one_fewer true p ps f)) c)
        (λ _. calm_change l (is_it p) ps (omega (arith, one_fewer false p ps f)) c)

calm_turns : (l : Limits) (f : List Picture → Moved) → ((qs : List Picture) → Calm l qs → Calm l (f qs).pics) → (n : ℕ) (ps : List Picture) → Calm l ps → Calm l (turns n f ps).pics
unfolding turns
calm_turns l f h zero ps c = c
calm_turns l f h (suc n) ps c = calm_turns l f h n (f ps).pics (h ps c)

calm_none : (l : Limits) → Calm l []
unfolding waitings keep any_b
calm_none l = record { few = zero-le; none = mathlib.Core.Bool.and-false (not (eqb l.latency 0)) }

-- one turn of "hand out while due"
abbrev pub turn_of : (List Picture → Bool) → List Picture → Moved
turn_of g qs = cond (g qs) (hand_out false qs) (still qs)

no_late : (l : Limits) (ps : List Picture) → length (waitings ps) ≡ 0 → any_b (late l) ps ≡ true → false ≡ true
unfolding waitings keep any_b late
no_late l [] z h = h
no_late l (p ∷ ps) z h =
    split p.waiting
    (λ w. absurd (let z1 : suc (length (keep (λ (q : Picture). q.waiting) ps)) ≡ 0 = rw w at z in omega arith))
    (λ w. no_late l ps (rw w at z) (rw w at h))

none_due : (l : Limits) (ps : List Picture) → length (waitings ps) ≡ 0 → due_late l ps ≡ false
none_due l ps z = calm_due l ps (record { few = omega arith; none = and_sub (not (eqb l.latency 0)) false (any_b (late l) ps) (λ h. no_late l ps z h) (mathlib.Core.Bool.and-false (not (eqb l.latency 0))) })

-- "hand out while one is due and one waits" ends with nothing due or nothing waiting, whatever "due" is
waits_none : (g : List Picture → Bool) (n : ℕ) (ps : List Picture) → g ps ≡ false → g (turns n (turn_of g) ps).pics ≡ false
unfolding turns
waits_none g zero ps e = e
waits_none g (suc n) ps e = rw e (waits_none g n ps e)

ends_after : (g : List Picture → Bool) (n : ℕ) (ps : List Picture) → length (waitings ps) ≤ n → (g (turns n (turn_of g) ps).pics ≡ false) ⊎ (length (waitings (turns n (turn_of g) ps).pics) ≡ 0)
unfolding turns
ends_after g zero ps h = inr (omega arith)
ends_after g (suc n) ps h = split (g ps) (λ e. rw e (ends_after g n (hand_out false ps).pics (hand_fewer false ps n h))) (λ e. rw e (inl (waits_none g n ps e)))

pub while_ends : (g : List Picture → Bool) (ps : List Picture) → (g (hand_while g ps).pics ≡ false) ⊎ (length (waitings (hand_while g ps).pics) ≡ 0)
unfolding hand_while
while_ends g ps = ends_after g (length ps) ps (few_wait ps)

pub while_calm : (l : Limits) (ps : List Picture) → Calm l (hand_while (due_late l) ps).pics
while_calm l ps = due_calm l (hand_while (due_late l) ps).pics (⊎_elim (λ e. e) (λ z. none_due l (hand_while (due_late l) ps).pics z) (while_ends (due_late l) ps))

calm_turn : (l : Limits) (g : List Picture → Bool) (qs : List Picture) → Calm l qs → Calm l (turn_of g qs).pics
calm_turn l g qs k = by_case (λ (m : Moved). Calm l m.pics) (g qs) _ _ (λ _. calm_hand l false qs k) (λ _. k)

calm_while : (l : Limits) (g : List Picture → Bool) (ps : List Picture) → Calm l ps → Calm l (hand_while g ps).pics
unfolding hand_while
calm_while l g ps c = calm_turns l (turn_of g) (calm_turn l g) (length ps) ps c

calm_empty : (l : Limits) (ps : List Picture) → ps ≡ [] → Calm l ps
calm_empty l ps e = subst (Calm l) (sym e) (calm_none l)

waiting_map : (g : Picture → Picture) (ps : List Picture) → ((p : Picture) → (g p).waiting ≡ p.waiting) → waitings (map g ps) ≡ map g (waitings ps)
unfolding waitings
waiting_map g ps h = B.keep_map (λ (p : Picture). p.waiting) g (λ (p : Picture). p.waiting) h ps

marked_late : (l : Limits) (p : Picture) (m : Mark) → late l (marked m p) ≡ true → late l p ≡ true
unfolding late
marked_late l p m e = e

-- marking leaves it
calm_mark : (l : Limits) (g : Picture → Picture) (ps : List Picture) → ((p : Picture) → (m : Mark) × (g p ≡ marked m p)) → Calm l ps → Calm l (map g ps)
calm_mark l g ps h c =
    record {
      few = few_marked ps c.few;
      none = and_sub (not (eqb l.latency 0)) (any_b (late l) ps) (any_b (late l) (map g ps))
          (λ k. B.any_mono (λ (p : Picture). late l (g p)) (late l) (λ p q. late_marked p q) ps (sym (B.any_map (late l) g ps) ∙ k)) c.none;
    }
  where
    same_number : (ps : List Picture) → length (waitings (map g ps)) ≡ length (waitings ps)
    same_number ps = ap (λ (qs : List Picture). length qs) (waiting_map g ps (λ p. ap (λ (x : Picture). x.waiting) (h p).1)) ∙ length-map (waitings ps) g

    few_marked : (ps : List Picture) → length (waitings ps) ≤ l.reorder → length (waitings (map g ps)) ≤ l.reorder
    few_marked ps k = omega (arith, same_number ps)

    late_marked : (p : Picture) → late l (g p) ≡ true → late l p ≡ true
    late_marked p q = marked_late l p (h p).0 (ap (late l) (sym (h p).1) ∙ q)

-- what a record leaves
abbrev pub Quiet : Session → Type 0
Quiet s = Calm s.limits s.store

calm_marked : (s : Session) (f : Fields) → Quiet s → Calm s.limits (marked_store s f)
calm_marked s f c = by_begin (Calm s.limits) (λ g ps h q. calm_mark s.limits g ps h q) s f c

calm_room : (s : Session) (f : Fields) → Quiet s → Calm s.limits (room_made s f).pics
unfolding room_made before_decoding emptied cleared removed
calm_room s f c =
    by_case (λ (m : Moved). Calm s.limits m.pics) (starts_over s f && not s.ended) _ _
    (λ _. by_case (λ (m : Moved). Calm s.limits m.pics) (no_prior_pics s f) _ _ (λ _. calm_none s.limits) (λ _. calm_none s.limits))
    (λ _. calm_while s.limits (due true s.limits) (keep in_use (marked_store s f)) (calm_keep s.limits in_use (marked_store s f) (calm_marked s f c)))

record Calms (d : Decided) : Type 0 where
  calm : Quiet d.next

module _ (s : Session) (r : List ℕ) (c : Quiet s) where
  drained_calm : (l : Limits) → Calm l (drained_now s).pics
  unfolding drained
  drained_calm l = calm_empty l _ (emptied_leaves (on_now s.current (still s.store) (finished s.limits s.store)).pics)

  finished_calm : (k : Current) → Calm s.limits (finished s.limits s.store k).pics
  unfolding finished
  finished_calm k = while_calm s.limits (map raised s.store ++ (stored k ∷ []))

  pub calm_step : Quiet (decide_of s r).next
  unfolding discarded
  calm_step =
      (by_ways s r Calms
      (record {
        malformed = record { calm = c };
        no = λ kind n k g b l h. record { calm = c };
        configure = λ k a b. record { calm = drained_calm (configured_session s (limits_of r)).limits };
        begin = λ k z. record { calm = calm_room s (fields_of r) c };
        lists = λ k x e z. record { calm = c };
        finish = λ k x e z. record { calm = finished_calm x };
        drain = λ k a. record { calm = drained_calm s.limits };
        discard = λ k. record { calm = calm_none s.limits };
        end = λ k. record { calm = c };
        abandon = λ k x e. record { calm = c };
      })).calm

-- Between the records of any session from fresh, waiting ≤ reorder, and no waiting picture's count has reached the
-- latency
always_calm : (s : Session) (rs : List (List ℕ)) → Quiet s → Quiet (session_after s rs)
unfolding session_after step_of
always_calm s [] c = c
always_calm s (r ∷ rs) c = always_calm (decide_of s r).next rs (calm_step s r c)

pub calm_between : (rs : List (List ℕ)) → Quiet (session_after fresh rs)
calm_between rs = always_calm fresh rs (calm_none fresh.limits)

-- where a store is calm, due means full
calm_full : (l : Limits) (ps : List Picture) → Calm l ps → due true l ps ≡ leb l.buffering (length ps)
unfolding due_full
calm_full l ps c = rw (calm_due l ps c)

-- what step 5 of a begin leaves after the removal and n turns of "hand out while one is due and one waits"
abbrev pub after_turns : Session → Fields → ℕ → List Picture
after_turns s f n = (turns n (turn_of (due true s.limits)) (removed (marked_store s f)).pics).pics

-- In a begin of any session from fresh only the buffering test is ever true: at each turn, due means stored ≥ buffering
pub due_is_full : (rs : List (List ℕ)) (f : Fields) (n : ℕ) → let s = session_after fresh rs in due true s.limits (after_turns s f n) ≡ leb s.limits.buffering (length (after_turns s f n))
unfolding removed
due_is_full rs f n =
    let s : Session = session_after fresh rs in
    let l = s.limits in
    calm_full l (after_turns s f n) (calm_turns l (turn_of (due true l)) (calm_turn l (due true l)) n (removed (marked_store s f)).pics (calm_keep l in_use (marked_store s f) (calm_marked s f (calm_between rs))))

-- and so many turns are step 5, unless it clears or empties
pub turns_of_begin : (s : Session) (f : Fields) → (starts_over s f && not s.ended) ≡ false → (room_made s f).pics ≡ after_turns s f (length (removed (marked_store s f)).pics)
unfolding room_made before_decoding hand_while
turns_of_begin s f e = rw e refl
