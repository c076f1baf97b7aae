-- What the store does is what its tail tells.
use Rattle.paper.specs.declared.Surface.{Surface}
use Rattle.paper.specs.declared.Picture.{Picture}
use Rattle.paper.specs.Words.{keep, all_b, any_b, drop_first, change_first}
use Rattle.paper.specs.State.{is_marked}
use Rattle.paper.specs.Output.{Tail, joined, Moved, still, and_then, turns, lowest, is_it, shown, quieted, leave, stay, hand_found, hand_out, cleared, emptied, in_use, removed, hand_while}
use Rattle.paper.specs.declared.Line.{Line}
use Rattle.paper.specs.Ledger.{Hand, Throw, Free, waits_as, waits, lies, quiet_at, may, off, free, upon, may_all, upon_all, events}
use Rattle.paper.specs.Statement.{line}
use Rattle.paper.specs.BySerial.{other, done}
use Prim.Native.Nat.{ℕ, zero, suc}
use mathlib.Core.Path.{◌≡◌, refl, sym, ap, ◌∙◌, subst}
use mathlib.Core.Logic.{inl, inr, ⊎_elim}
use mathlib.Core.List.{List, [], ◌∷◌, map, map-id, map-map}
use mathlib.Core.Bool.{Bool, true, false, cond, not, ◌&&◌, ◌||◌}
use lib.Dec.{eqb}
use lib.ListN.{length}
use borrow.Author.Tests.{eq-eqb}
use Rattle.paper.proofs.Whole.{eq_z_refl}
use Rattle.paper.proofs.Bools as B
use Rattle.paper.proofs.Bools.{both, left, right, split, not_both, or_right, by_case}
use Rattle.paper.proofs.Events.{Runs, runs_append, runs_join}
use Rattle.paper.proofs.Every.{All, Mem, all_at, all_keep, all_map, all_more, all_true, any_mem, keep_all, keep_by, map_by}
use Rattle.paper.proofs.Apart.{Other, Distinct, OtherSerial, Serials, Told, told_apart, pairs_keep, distinct_map, serials, serial_flip, flip}
use Rattle.paper.proofs.Firsts.{First, first_mem, waits_first, lowest_first}
use Rattle.std.proofs.Common.{Option, None, Some}

pub record Tells (ps : List Picture) (m : Moved) : Type 0 where
  pub runs : Runs (events m.tail) (map line ps) (map line m.pics)
  pub distinct : Distinct m.pics

pub tells_still : (ps : List Picture) → Distinct ps → Tells ps (still ps)
unfolding may_all upon_all
tells_still ps d = record { runs = record { allowed = refl; leads = refl }; distinct = d }

pub tells_then : (ps : List Picture) (m : Moved) (f : List Picture → Moved) → Tells ps m → (Distinct m.pics → Tells m.pics (f m.pics)) → Tells ps (and_then m f)
tells_then ps m f a b =
    record { runs = runs_join m.tail (f m.pics).tail a.runs (b a.distinct).runs; distinct = (b a.distinct).distinct }

pub same_eqb : (n : ℕ) → eqb n n ≡ true
same_eqb n = eq-eqb n n refl

q_off : (w b c : Bool) → b ≡ true → (not (w && not b) || c) ≡ true
q_off true b c e = rw e
q_off false b c e = refl

w_and : (w b : Bool) → b ≡ false → (w && not b) ≡ w
w_and true b e = rw e
w_and false b e = refl

wanting : Line → Bool → Line
wanting e w = record { serial = e.serial; surface = e.surface; poc = e.poc; wants = w }

pub wanting_is : (e : Line) {w : Bool} → w ≡ e.wants → record { serial = e.serial; surface = e.surface; poc = e.poc; wants = w } ≡ e
unfolding wanting
wanting_is e p = ap (wanting e) p

line_off : (n : ℕ) (q : Picture) → eqb n q.serial.0 ≡ false → off n (line q) ≡ line q
unfolding wanting
line_off n q e = ap (wanting (line q)) (w_and q.waiting (eqb n q.serial.0) e)

line_quiet : (n : ℕ) (q : Picture) → q.waiting ≡ false → off n (line q) ≡ line q
unfolding wanting
line_quiet n q e = ap (wanting (line q)) (rw e)

-- the store without the picture p
abbrev pub others : Picture → List Picture → List Picture
others p ps = keep (other p) ps

-- thrown away if it waits, and released
abbrev pub one : Picture → Tail
one p = record { handed = []; thrown = cond p.waiting (p.serial ∷ []) []; released = p.surface ∷ [] }

-- One picture p of the store, which is off, leaves
module _ (p : Picture) (ps : List Picture) (d : Distinct ps) (i : Mem p ps) where
  abbrev pub offs : List Line
  offs = map (off p.serial.0) (map line ps)

  quiet_there : (q : Picture) → Told p q → quiet_at p.surface.0 (off p.serial.0 (line q)) ≡ true
  quiet_there q (inl e) = q_off q.waiting (eqb p.serial.0 q.serial.0) _ (rw e (same_eqb p.serial.0))
  quiet_there q (inr o) = or_right (not (q.waiting && not (eqb p.serial.0 q.serial.0))) _ (rw o.surface)

  drops : (q : Picture) → Told p q
      → (not (lies p.surface.0 (off p.serial.0 (line q))) ≡ not (eqb p.serial.0 q.serial.0))
      × (not (eqb p.serial.0 q.serial.0) ≡ true → off p.serial.0 (line q) ≡ line q)
  drops q (inl e) = (rw (e, same_eqb p.surface.0, same_eqb p.serial.0), λ h. not_both (not (eqb p.serial.0 q.serial.0)) h (rw (e, same_eqb p.serial.0)))
  drops q (inr o) = (rw (o.surface, o.serial), λ h. line_off p.serial.0 q o.serial)

  frees : Runs (Free p.surface ∷ []) offs (map line (others p ps))
  unfolding may_all upon_all may upon free
  frees =
      record {
        allowed =
            both
            (both (B.any_map (lies p.surface.0) (off p.serial.0) (map line ps) ∙ B.any_map (lies p.surface.0) line ps ∙ any_mem (λ (q : Picture). lies p.surface.0 (line q)) p ps i (same_eqb p.surface.0))
            (B.all_map (quiet_at p.surface.0) (off p.serial.0) (map line ps) ∙ B.all_map (λ (e : Line). quiet_at p.surface.0 (off p.serial.0 e)) line ps
            ∙ all_true (λ (q : Picture). quiet_at p.surface.0 (off p.serial.0 (line q))) ps (all_more (Told p) _ quiet_there ps (told_apart p ps d i))))
            refl;
        leads =
            ap (λ (H : List Line). keep (λ (e : Line). not (lies p.surface.0 e)) H) (map-map (off p.serial.0) line ps)
            ∙ keep_by (λ (e : Line). not (lies p.surface.0 e)) (λ (q : Picture). off p.serial.0 (line q)) (λ (q : Picture). not (eqb p.serial.0 q.serial.0)) line ps
            (all_more (Told p) _ drops ps (told_apart p ps d i));
      }

  -- a picture that waits is handed out, or thrown away
  hands : p.waiting ≡ true → Runs (Hand (shown p) ∷ []) (map line ps) offs
  unfolding may_all upon_all may upon
  hands w =
      record {
        allowed = both (B.any_map (waits_as (shown p)) line ps ∙ any_mem (λ (q : Picture). waits_as (shown p) (line q)) p ps i (both w (both (same_eqb p.serial.0) (both (same_eqb p.surface.0) (eq_z_refl p.poc))))) refl;
        leads = refl;
      }

  throws : p.waiting ≡ true → Runs (Throw p.serial ∷ []) (map line ps) offs
  unfolding may_all upon_all may upon
  throws w =
      record {
        allowed = both (B.any_map (waits p.serial.0) line ps ∙ any_mem (λ (q : Picture). waits p.serial.0 (line q)) p ps i (both w (same_eqb p.serial.0))) refl;
        leads = refl;
      }

  -- one that does not wait is off
  is_off : p.waiting ≡ false → map line ps ≡ offs
  is_off w =
      sym
      (map-map (off p.serial.0) line ps
      ∙ map_by (λ (q : Picture). off p.serial.0 (line q)) line ps
      (all_more (Told p) _ (λ q t. ⊎_elim {C = off p.serial.0 (line q) ≡ line q} (λ e. line_quiet p.serial.0 q (rw e w)) (λ o. line_off p.serial.0 q o.serial) t) ps (told_apart p ps d i)))

  pub drop_one : Runs (events (one p)) (map line ps) (map line (others p ps))
  drop_one = split p.waiting (λ w. rw w (runs_append (throws w) frees)) (λ w. rw (w, is_off w) frees)

-- all others are the rest
pub rest_is : (p : Picture) (ps : List Picture) → All (OtherSerial p) ps → others p (p ∷ ps) ≡ ps
unfolding keep
rest_is p ps a = rw (same_eqb p.serial.0) (keep_all (other p) ps a)

-- a picture of another serial stays as it is
done_other : (p q : Picture) → OtherSerial p q → done p q ≡ q
done_other p q o = ap it (rw (o, mathlib.Core.Bool.and-true q.waiting))
  where
    it : Bool → Picture
    it w = record { serial = q.serial; surface = q.surface; poc = q.poc; mark = q.mark; waiting = w; count = q.count }

-- where pictures are told apart by serial, the first of which t holds is the one of its serial
module _ (t : Picture → Bool) (p : Picture) where
  elsewhere : (q : Picture) (ps : List Picture) → All (OtherSerial q) ps → First t p ps → OtherSerial p q
  elsewhere q ps a f = serial_flip q p (all_at (OtherSerial q) p ps a (first_mem t p ps f))

  pub drop_others : (ps : List Picture) → Serials ps → First t p ps → drop_first t ps ≡ others p ps
  unfolding drop_first keep
  drop_others [] d f = absurd f
  drop_others (q ∷ ps) d (inl f) = rw f.0 (sym (rw (← f.1) (rest_is p ps (rw f.1 d.0))))
  drop_others (q ∷ ps) d (inr f) = rw (f.0, elsewhere q ps d.0 f.1) (ap (λ (l : List Picture). q ∷ l) (drop_others ps d.1 f.1))

  pub change_done : (ps : List Picture) → Serials ps → First t p ps → change_first t quieted ps ≡ map (done p) ps
  unfolding change_first
  change_done [] d f = absurd f
  change_done (q ∷ ps) d (inl f) =
      rw (f.0, ← f.1, same_eqb p.serial.0, mathlib.Core.Bool.and-false p.waiting)
      (ap (λ (l : List Picture). quieted p ∷ l) (sym (map_by (done p) (λ (x : Picture). x) ps (all_more (OtherSerial p) _ (λ x o. done_other p x o) ps (rw f.1 d.0)) ∙ map-id ps)))
  change_done (q ∷ ps) d (inr f) =
      rw (f.0, done_other p q (elsewhere q ps d.0 f.1)) (ap (λ (l : List Picture). q ∷ l) (change_done ps d.1 f.1))

module _ (p : Picture) (ps : List Picture) (d : Distinct ps) (f : First (is_it p) p ps) where
  found_in : Mem p ps
  found_in = first_mem (is_it p) p ps f

  tells_leave : Tells ps (leave ps p)
  tells_leave =
      rw (drop_others (is_it p) p ps (serials ps d) f)
      (record {
        runs = runs_append (hands p ps d found_in (waits_first p ps f)) (frees p ps d found_in);
        distinct = pairs_keep Other (other p) ps d;
      })

  tells_stay : Tells ps (stay ps p)
  tells_stay =
      rw (change_done (is_it p) p ps (serials ps d) f)
      (record {
        runs = rw (map-map line (done p) ps, ← map-map (off p.serial.0) line ps) (hands p ps d found_in (waits_first p ps f));
        distinct = distinct_map (done p) (λ q. record { serial = refl; surface = refl }) ps d;
      })

pub tells_hand : (always : Bool) (ps : List Picture) → Distinct ps → Tells ps (hand_out always ps)
unfolding hand_out
tells_hand always ps d = go (lowest None ps) refl
  where
    go : (x : Option Picture) → lowest None ps ≡ x → Tells ps (hand_found always ps x)
    go None e = tells_still ps d
    go (Some p) e =
        let f = lowest_first ps p e in
        by_case (Tells ps) (always || not (is_marked p.mark)) (leave ps p) (stay ps p) (λ _. tells_leave p ps d f) (λ _. tells_stay p ps d f)

pub tells_turns : (n : ℕ) (f : List Picture → Moved) → ((qs : List Picture) → Distinct qs → Tells qs (f qs)) → (ps : List Picture) → Distinct ps → Tells ps (turns n f ps)
unfolding turns
tells_turns zero f h ps d = tells_still ps d
tells_turns (suc n) f h ps d = tells_then ps (f ps) (turns n f) (h ps d) (λ d'. tells_turns n f h (f ps).pics d')

pub tells_while : (g : List Picture → Bool) (ps : List Picture) → Distinct ps → Tells ps (hand_while g ps)
unfolding hand_while
tells_while g ps d =
    tells_turns (length ps) (λ (qs : List Picture). cond (g qs) (hand_out false qs) (still qs))
    (λ qs e. by_case (Tells qs) (g qs) _ _ (λ _. tells_hand false qs e) (λ _. tells_still qs e)) ps d

-- the first of the store leaves, and the rest is left
pub drop_first_lem : (p : Picture) (ps : List Picture) → Distinct (p ∷ ps) → Runs (events (one p)) (map line (p ∷ ps)) (map line ps)
drop_first_lem p ps d = rw (rest_is p ps (serials (p ∷ ps) d).0) at (drop_one p (p ∷ ps) d (inl refl))

cleared_more : (p : Picture) (ps : List Picture) → (cleared (p ∷ ps)).tail ≡ joined (one p) (cleared ps).tail
unfolding cleared keep
cleared_more p ps = split p.waiting (λ w. rw w) (λ w. rw w)

clears_none : Runs (events (cleared []).tail) [] []
unfolding cleared keep may_all upon_all
clears_none = record { allowed = refl; leads = refl }

pub clears : (ps : List Picture) → Distinct ps → Runs (events (cleared ps).tail) (map line ps) []
clears [] d = clears_none
clears (p ∷ ps) d =
    subst (λ (t : Tail). Runs (events t) (map line (p ∷ ps)) []) (sym (cleared_more p ps))
    (runs_join (one p) (cleared ps).tail (drop_first_lem p ps d) (clears ps d.1))

pub tells_cleared : (ps : List Picture) → Distinct ps → Tells ps (cleared ps)
unfolding cleared
tells_cleared ps d = record { runs = clears ps d; distinct = tt }

pub tells_emptied : (ps : List Picture) → Distinct ps → Tells ps (emptied ps)
unfolding emptied
tells_emptied ps d =
    tells_then ps (turns (length ps) (hand_out true) ps) cleared (tells_turns (length ps) (hand_out true) (tells_hand true) ps d)
    (tells_cleared (turns (length ps) (hand_out true) ps).pics)

-- a line that no release names stays
free_cons : (e : Line) (x : ℕ) (H : List Line) → lies x e ≡ false → free x (e ∷ H) ≡ e ∷ free x H
unfolding free keep
free_cons e x H o = rw o

may_cons : (e : Line) (x : Surface) (H : List Line) → lies x.0 e ≡ false → may (Free x) H ≡ true → may (Free x) (e ∷ H) ≡ true
unfolding may any_b all_b
may_cons e x H o m =
    both (or_right (lies x.0 e) _ (left (any_b (lies x.0) H) _ m))
    (both (or_right (not e.wants) _ (rw o)) (right (any_b (lies x.0) H) _ m))

framed : (e : Line) (xs : List Surface) (H K : List Line) → All (λ (x : Surface). lies x.0 e ≡ false) xs → Runs (map Free xs) H K → Runs (map Free xs) (e ∷ H) (e ∷ K)
unfolding may_all upon_all upon
framed e [] H K a r = record { allowed = refl; leads = ap (λ (L : List Line). e ∷ L) r.leads }
framed e (x ∷ xs) H K a r =
    let k : Runs (map Free xs) (e ∷ free x.0 H) (e ∷ K) = framed e xs (free x.0 H) K a.1 (record { allowed = right (may (Free x) H) _ r.allowed; leads = r.leads }) in
    record {
      allowed = both (may_cons e x H a.0 (left (may (Free x) H) _ r.allowed)) (ap (λ (L : List Line). may_all (map Free xs) L) (free_cons e x.0 H a.0) ∙ k.allowed);
      leads = ap (λ (L : List Line). upon_all (map Free xs) L) (free_cons e x.0 H a.0) ∙ k.leads;
    }

-- those that leave, and those that stay, of one picture more
removed_keeps : (p : Picture) (ps : List Picture) → in_use p ≡ true → removed (p ∷ ps) ≡ record { pics = p ∷ (removed ps).pics; tail = (removed ps).tail }
unfolding removed keep
removed_keeps p ps u = rw u

removed_drops : (p : Picture) (ps : List Picture) → in_use p ≡ false → p.waiting ≡ false → removed (p ∷ ps) ≡ record { pics = (removed ps).pics; tail = joined (one p) (removed ps).tail }
unfolding removed keep
removed_drops p ps u w = rw (u, w)

idle : (a b : Bool) → (a || b) ≡ false → a ≡ false
idle true b e = e
idle false b e = refl

pub releases : (ps : List Picture) → List Surface
releases ps = map (λ (p : Picture). p.surface) (keep (λ (p : Picture). not (in_use p)) ps)

away : (p : Picture) (ps : List Picture) → All (Other p) ps → All (λ (x : Surface). lies x.0 (line p) ≡ false) (releases ps)
unfolding releases
away p ps a =
    all_map (Other p) (λ (x : Surface). lies x.0 (line p) ≡ false) (λ (q : Picture). q.surface) (λ q o. flip p.surface.0 q.surface.0 o.surface)
    (keep (λ (q : Picture). not (in_use q)) ps) (all_keep (Other p) (λ (q : Picture). not (in_use q)) ps a)

none_removed : Runs (events (removed []).tail) [] (map line (removed []).pics)
unfolding removed keep may_all upon_all
none_removed = record { allowed = refl; leads = refl }

release_events : (ps : List Picture) → events (removed ps).tail ≡ map Free (releases ps)
unfolding removed releases
release_events ps = refl

pub frees_removed : (ps : List Picture) → Distinct ps → Runs (events (removed ps).tail) (map line ps) (map line (removed ps).pics)
frees_removed [] d = none_removed
frees_removed (p ∷ ps) d =
    split (in_use p)
    (λ u.
    subst (λ (m : Moved). Runs (events m.tail) (map line (p ∷ ps)) (map line m.pics)) (sym (removed_keeps p ps u))
    (rw (release_events ps) (framed (line p) (releases ps) (map line ps) (map line (removed ps).pics) (away p ps d.0) (rw (release_events ps) at (frees_removed ps d.1)))))
    (λ u.
    subst (λ (m : Moved). Runs (events m.tail) (map line (p ∷ ps)) (map line m.pics)) (sym (removed_drops p ps u (idle p.waiting _ u)))
    (runs_join (one p) (removed ps).tail (drop_first_lem p ps d) (frees_removed ps d.1)))

left_over : (ps : List Picture) → Distinct ps → Distinct (removed ps).pics
unfolding removed
left_over ps d = pairs_keep Other in_use ps d

pub tells_removed : (ps : List Picture) → Distinct ps → Tells ps (removed ps)
tells_removed ps d = record { runs = frees_removed ps d; distinct = left_over ps d }
