-- The sets of a begun picture name missing entries and pictures that are still stored after step 5.
use Prim.Native.Nat.{ℕ, zero, suc}
use mathlib.Core.Path.{◌≡◌, refl, sym, ap, subst, ◌∙◌}
use mathlib.Core.Logic.{◌⊎◌, inl, inr, ⊎_elim}
use mathlib.Core.List.{List, [], ◌∷◌, ◌++◌, map}
use mathlib.Core.Bool.{Bool, true, false, cond, not, ◌&&◌, ◌||◌}
use lib.Dec.{eqb}
use lib.ListN.{length}
use borrow.Author.Tests.{eqb-true, eq-eqb}
use Rattle.paper.specs.declared.Serial.{Serial}
use Rattle.paper.specs.declared.Wish.{Wish}
use Rattle.paper.specs.declared.Mark.{Mark}
use Rattle.paper.specs.declared.Picture.{Picture}
use Rattle.paper.specs.Words.{keep, any_b}
use Rattle.paper.specs.Numbers.{missing, a_serial, same_serial}
use Rattle.paper.specs.Records.{Fields}
use Rattle.paper.specs.State.{Session, is_marked, is_short_term, modulus}
use Rattle.paper.specs.Sets.{Wishes, used_by, unused_by, is_in, marked, marks_of, first_of, long_match, short_match, mark_all, mark_only, in_order, long_set, short_set, long_marked, sets_of}
use Rattle.paper.specs.Output.{Moved, still, turns, lowest, is_it, leave, stay, quieted, hand_found, hand_out, in_use, removed, hand_while, due, before_decoding}
use Rattle.paper.specs.Begin.{wishes, sets, unmarked_store, marked_store, starts_over, room_made}
use Rattle.paper.specs.declared.Line.{Line}
use Rattle.paper.specs.Ledger.{names}
use Rattle.paper.specs.Statement.{line}
use Rattle.paper.proofs.Bools as B
use Rattle.paper.proofs.Bools.{both, left, right, split, not_both, or_left, or_right, by_case}
use Rattle.paper.proofs.Every.{All, all_append, all_both, all_more, all_true, any_kept, every}
use Rattle.paper.proofs.Apart.{Distinct, Told, told_apart, serials}
use Rattle.paper.proofs.Firsts.{first_mem, any_same, lowest_first}
use Rattle.paper.proofs.Moves.{Tells, drop_others, same_eqb, tells_hand, tells_still, tells_removed}
use Rattle.std.proofs.Common.{Option, None, Some}

-- a stored picture of serial n that has a mark
abbrev pub marks : Serial → Picture → Bool
marks n p = same_serial n p.serial && is_marked p.mark

abbrev pub Keeps : List Picture → List Picture → Type 0
Keeps ps qs = (n : Serial) → any_b (marks n) ps ≡ true → any_b (marks n) qs ≡ true

keeps_removed : (ps : List Picture) → Keeps ps (removed ps).pics
unfolding removed
keeps_removed ps n e =
    any_kept (marks n) in_use ps (every _ (λ p h. or_right p.waiting _ (right (same_serial n p.serial) _ h)) ps) e

keeps_hand : (ps : List Picture) → Distinct ps → Keeps ps (hand_out false ps).pics
unfolding hand_out
keeps_hand ps d n h = go (lowest None ps) refl
  where
    go : (x : Option Picture) → lowest None ps ≡ x → any_b (marks n) (hand_found false ps x).pics ≡ true
    go None e = h
    go (Some p) e =
        let f = lowest_first ps p e in
        by_case (λ (x : Moved). any_b (marks n) x.pics ≡ true) (not (is_marked p.mark)) (leave ps p) (stay ps p)
        (λ u. rw (drop_others (is_it p) p ps (serials ps d) f) (any_kept (marks n) (λ (q : Picture). not (eqb p.serial.0 q.serial.0)) ps (all_more (Told p) _ (λ q t k. stays p q u t k) ps (told_apart p ps d (first_mem (is_it p) p ps f))) h))
        (λ _. any_same (marks n) (is_it p) quieted (λ q. refl) ps ∙ h)
      where
        stays : (p q : Picture) → not (is_marked p.mark) ≡ true → Told p q → marks n q ≡ true → not (eqb p.serial.0 q.serial.0) ≡ true
        stays p q u (inl e) k = not_both (not (is_marked p.mark)) u (rw (rw e at (right (same_serial n q.serial) _ k)))
        stays p q u (inr o) k = rw o.serial

keeps_turns : (n : ℕ) (f : List Picture → Moved) → ((qs : List Picture) → Distinct qs → Tells qs (f qs)) → ((qs : List Picture) → Distinct qs → Keeps qs (f qs).pics)
    → (ps : List Picture) → Distinct ps → Keeps ps (turns n f ps).pics
unfolding turns
keeps_turns zero f t h ps d m e = e
keeps_turns (suc n) f t h ps d m e = keeps_turns n f t h (f ps).pics (t ps d).distinct m (h ps d m e)

keeps_while : (g : List Picture → Bool) (ps : List Picture) → Distinct ps → Keeps ps (hand_while g ps).pics
unfolding hand_while
keeps_while g ps d =
    keeps_turns (length ps) (λ (qs : List Picture). cond (g qs) (hand_out false qs) (still qs))
    (λ qs e. by_case (Tells qs) (g qs) _ _ (λ _. tells_hand false qs e) (λ _. tells_still qs e))
    (λ qs e. by_case (λ (m : Moved). Keeps qs m.pics) (g qs) _ _ (λ _. keeps_hand qs e) (λ _ n h. h)) ps d

-- Step 4
found : (t : Picture → Bool) (ps : List Picture) → (first_of t ps ≡ missing) ⊎ (any_b (λ (p : Picture). same_serial (first_of t ps) p.serial && t p) ps ≡ true)
unfolding first_of any_b
found t [] = inl refl
found t (p ∷ ps) =
    split (t p)
    (λ e. inr (rw (e, same_eqb p.serial.0)))
    (λ e.
    let P : Serial → Type 0 = λ (n : Serial). (n ≡ missing) ⊎ (any_b (λ (q : Picture). same_serial n q.serial && t q) (p ∷ ps) ≡ true) in
    let same : first_of t (p ∷ ps) ≡ first_of t ps = rw e in
    subst P (sym same)
    (⊎_elim {C = P (first_of t ps)} inl (λ h. inr (or_right (same_serial (first_of t ps) p.serial && t p) _ h)) (found t ps)))

not_found : (t : Picture → Bool) (ps : List Picture) → All (λ (p : Picture). t p ≡ false) ps → first_of t ps ≡ missing
unfolding first_of
not_found t [] a = refl
not_found t (p ∷ ps) a = rw a.0 (not_found t ps a.1)

-- missing, or a marked picture of these
abbrev Member : List Picture → Serial → Type 0
Member ps n = (n ≡ missing) ⊎ (any_b (marks n) ps ≡ true)

short_members : (ps : List Picture) (vs : List Wish) → All (Member ps) (short_set ps vs)
unfolding short_set
short_members ps [] = tt
short_members ps (v ∷ vs) = (
  ⊎_elim {C = Member ps (first_of (short_match v) ps)} inl
      (λ h. inr (B.any_mono (λ (p : Picture). same_serial (first_of (short_match v) ps) p.serial && short_match v p) (marks (first_of (short_match v) ps))
      (λ p k. both (left (same_serial (first_of (short_match v) ps) p.serial) _ k) (short_marked p.mark (left (is_short_term p.mark) _ (right (same_serial (first_of (short_match v) ps) p.serial) _ k)))) ps h))
      (found (short_match v) ps),
  short_members ps vs,
)
  where
    short_marked : (m : Mark) → is_short_term m ≡ true → is_marked m ≡ true
    short_marked Mark.Unmarked e = e
    short_marked Mark.ShortTerm e = refl
    short_marked Mark.LongTerm e = refl

long_members : (M : ℕ) (ps : List Picture) (ns : List Serial) (ws : List Wish) → All (Member (mark_all Mark.LongTerm ns ps)) (long_set M ps ws)
unfolding long_set mark_all
long_members M ps ns [] = tt
long_members M ps ns (w ∷ ws) = (
  ⊎_elim {C = Member (mark_all Mark.LongTerm ns ps) (first_of (long_match M w) ps)} inl
      (λ h. inr (B.any_map (marks (first_of (long_match M w) ps)) (λ (p : Picture). cond (is_in p.serial ns) (marked Mark.LongTerm p) p) ps
      ∙ B.any_mono (λ (p : Picture). same_serial (first_of (long_match M w) ps) p.serial && long_match M w p) _
      (λ p k.
      by_case (λ (q : Picture). marks (first_of (long_match M w) ps) q ≡ true) (is_in p.serial ns) (marked Mark.LongTerm p) p
      (λ _. both (left (same_serial (first_of (long_match M w) ps) p.serial) _ k) refl)
      (λ _. both (left (same_serial (first_of (long_match M w) ps) p.serial) _ k) (left (is_marked p.mark) _ (right (same_serial (first_of (long_match M w) ps) p.serial) _ k)))) ps h))
      (found (long_match M w) ps),
  long_members M ps ns ws,
)

all_elem : (ns : List Serial) → All (λ (n : Serial). is_in n ns ≡ true) ns
unfolding any_b
all_elem [] = tt
all_elem (m ∷ ns) = (or_left (same_serial m m) _ (same_eqb m.0), all_more (λ (n : Serial). is_in n ns ≡ true) _ (λ n h. or_right (same_serial n m) _ h) ns (all_elem ns))

-- members keep their marks
only_members : (ns : List Serial) (ps : List Picture) → All (Member ps) ns → All (Member (mark_only ns ps)) ns
unfolding mark_only
only_members ns ps a =
    all_both (Member ps) (λ (n : Serial). is_in n ns ≡ true) (Member (mark_only ns ps))
    (λ n m e.
    ⊎_elim {C = Member (mark_only ns ps) n} inl
    (λ h. inr (B.any_map (marks n) (λ (p : Picture). cond (is_in p.serial ns) p (marked Mark.Unmarked p)) ps
    ∙ B.any_mono (marks n) _ (λ p k.
    let q : n.0 ≡ p.serial.0 = eqb-true n.0 p.serial.0 (left (same_serial n p.serial) _ k) in
    let t : is_in p.serial ns ≡ true = ap (λ (x : ℕ). is_in (a_serial x) ns) (sym q) ∙ e in
    rw t k) ps h)) m)
    ns a (all_elem ns)

module _ (M : ℕ) (ps : List Picture) (w : Wishes) where
  abbrev ms : List Picture
  ms = long_marked M ps w

  -- what holds of the five sets holds of their members in order
  five : (P : Serial → Type 0) → All P (short_set ms (keep used_by w.neg)) → All P (short_set ms (keep used_by w.pos)) → All P (short_set ms (keep unused_by w.neg ++ keep unused_by w.pos)) → All P (long_set M ps (keep used_by w.lt)) → All P (long_set M ps (keep unused_by w.lt))
      → All P (in_order (sets_of M ps w))
  unfolding sets_of
  five P a b c d e =
      let b1 = short_set ms (keep used_by w.neg) in
      let b2 = short_set ms (keep used_by w.pos) in
      let b3 = short_set ms (keep unused_by w.neg ++ keep unused_by w.pos) in
      let b4 = long_set M ps (keep used_by w.lt) in
      let b5 = long_set M ps (keep unused_by w.lt) in
      all_append P (b1 ++ b2 ++ b3 ++ b4) b5 (all_append P (b1 ++ b2 ++ b3) b4 (all_append P (b1 ++ b2) b3 (all_append P b1 b2 a b) c) d) e

  set_members : All (Member ms) (in_order (sets_of M ps w))
  set_members =
      let long = long_set M ps (keep used_by w.lt) ++ long_set M ps (keep unused_by w.lt) in
      five (Member ms) (short_members ms (keep used_by w.neg)) (short_members ms (keep used_by w.pos)) (short_members ms (keep unused_by w.neg ++ keep unused_by w.pos)) (long_members M ps long (keep used_by w.lt)) (long_members M ps long (keep unused_by w.lt))

-- where nothing is marked, everything is missing
abbrev Missing : Serial → Type 0
Missing n = n ≡ missing

no_short : (ps : List Picture) → All (λ (p : Picture). is_short_term p.mark ≡ false) ps → (vs : List Wish) → All Missing (short_set ps vs)
unfolding short_set
no_short ps a [] = tt
no_short ps a (v ∷ vs) = (not_found (short_match v) ps (all_more _ _ (λ p h. rw h) ps a), no_short ps a vs)

no_long : (M : ℕ) (ps : List Picture) → All (λ (p : Picture). is_marked p.mark ≡ false) ps → (ws : List Wish) → All Missing (long_set M ps ws)
unfolding long_set
no_long M ps a [] = tt
no_long M ps a (w ∷ ws) = (not_found (long_match M w) ps (all_more _ _ (λ p h. rw h) ps a), no_long M ps a ws)

none_marked : (ps : List Picture) → All (λ (p : Picture). is_marked p.mark ≡ false) (map (marked Mark.Unmarked) ps)
none_marked [] = tt
none_marked (p ∷ ps) = (refl, none_marked ps)

none_short : (ns : List Serial) (ps : List Picture) → All (λ (p : Picture). is_short_term p.mark ≡ false) (mark_all Mark.LongTerm ns (map (marked Mark.Unmarked) ps))
unfolding mark_all
none_short ns [] = tt
none_short ns (p ∷ ps) =
    (by_case (λ (q : Picture). is_short_term q.mark ≡ false) (is_in p.serial ns) (marked Mark.LongTerm (marked Mark.Unmarked p)) (marked Mark.Unmarked p) (λ _. refl) (λ _. refl), none_short ns ps)

all_missing : (M : ℕ) (ps : List Picture) (w : Wishes) → All Missing (in_order (sets_of M (map (marked Mark.Unmarked) ps) w))
all_missing M ps w =
    let qs = map (marked Mark.Unmarked) ps in
    let a = none_short (long_set M qs (keep used_by w.lt) ++ long_set M qs (keep unused_by w.lt)) ps in
    let b = none_marked ps in
    five M qs w Missing (no_short (long_marked M qs w) a (keep used_by w.neg)) (no_short (long_marked M qs w) a (keep used_by w.pos)) (no_short (long_marked M qs w) a (keep unused_by w.neg ++ keep unused_by w.pos)) (no_long M qs b (keep used_by w.lt)) (no_long M qs b (keep unused_by w.lt))

names_missing : (ns : List Serial) (H : List Line) → All Missing ns → names ns H ≡ true
unfolding names
names_missing ns H a = all_true _ ns (all_more Missing _ (λ n e. or_left (same_serial n missing) _ (eq-eqb n.0 4294967295 (ap (λ (x : Serial). x.0) e))) ns a)

names_members : (ns : List Serial) (ps : List Picture) → All (Member ps) ns → names ns (map line ps) ≡ true
unfolding names
names_members ns ps a =
    all_true _ ns
    (all_more (Member ps) _
    (λ n m.
    ⊎_elim {C = (same_serial n missing || any_b (λ (e : Line). eqb n.0 e.serial.0) (map line ps)) ≡ true} (λ e. or_left (same_serial n missing) _ (eq-eqb n.0 4294967295 (ap (λ (x : Serial). x.0) e)))
    (λ h. or_right (same_serial n missing) _ (B.any_map (λ (e : Line). eqb n.0 e.serial.0) line ps ∙ B.any_mono (marks n) _ (λ p k. left (same_serial n p.serial) _ k) ps h)) m)
    ns a)

-- After step 5 the sets name missing entries and stored pictures
module _ (s : Session) (f : Fields) (d : Distinct (marked_store s f)) where
  store_members : All (Member (marked_store s f)) (in_order (sets s f))
  unfolding marked_store marks_of
  store_members =
      only_members (in_order (sets s f)) (long_marked (modulus s.limits) (unmarked_store s f) (wishes s f))
      (set_members (modulus s.limits) (unmarked_store s f) (wishes s f))

  gone : starts_over s f ≡ true → All Missing (in_order (sets s f))
  gone e = rw e (all_missing (modulus s.limits) s.store (wishes s f))

  pub begin_names : names (in_order (sets s f)) (map line (room_made s f).pics) ≡ true
  unfolding room_made before_decoding
  begin_names =
      by_case (λ (m : Moved). names (in_order (sets s f)) (map line m.pics) ≡ true) (starts_over s f && not s.ended) _ _
      (λ e. names_missing (in_order (sets s f)) _ (gone (left (starts_over s f) _ e)))
      (λ _.
      names_members (in_order (sets s f)) _
      (all_more (Member (marked_store s f)) _
      (λ n m.
      ⊎_elim {C = Member (hand_while (due true s.limits) (removed (marked_store s f)).pics).pics n} inl
      (λ h. inr (keeps_while (due true s.limits) (removed (marked_store s f)).pics (tells_removed (marked_store s f) d).distinct n (keeps_removed (marked_store s f) n h))) m)
      (in_order (sets s f)) store_members))
