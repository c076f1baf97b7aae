-- What a reply in order does to the surfaces, counted: on each surface there lie as many lines as before, those begun
-- more and those released less; and of those that wanted to be shown there, one less for each handing out. It is so as
-- a handing out names a line that wants to be shown, by its surface, and turns it off.
use Prim.Native.Nat.{ℕ, ◌+◌, ◌≤◌}
use mathlib.Core.Path.{◌≡◌, refl, sym, ap, ◌∙◌, subst}
use mathlib.Core.List.{List, [], ◌∷◌, ◌++◌, map, append-nil}
use mathlib.Core.Bool.{Bool, true, false, cond, not, ◌&&◌}
use native.Mathlib.Omega.{arith}
use lib.Dec.{ltb, eqb}
use borrow.Author.Tests.{ltb-false, lt-ltb, eq-eqb, eqb-true}
use Rattle.paper.specs.declared.Shown.{Shown}
use Rattle.paper.specs.declared.Line.{Line}
use Rattle.paper.specs.Words.{keep, all_b, any_b}
use Rattle.paper.specs.Numbers.{u32, surface_nos}
use Rattle.paper.specs.Kinds.{end_kind, abandon_kind, surface_place}
use Rattle.paper.specs.Output.{Tail}
use Rattle.paper.specs.Replies.{Begun, Reply}
use Rattle.paper.specs.Ledger.{Ledger, Event, Hand, Throw, Free, lines_of, waits_as, lies, off, free, may, upon, may_all, upon_all, events, none, line_of, landed, abandoned, unchanged, tell}
use Rattle.paper.specs.Accounts.{count, surfaces, begun_in, tail_in}
use Rattle.paper.proofs.Bools.{both, left, right, split, not_both, by_case}
use Rattle.paper.proofs.Flow.{Sep, hit, tail_surfaces, surfaces_append, sep_first, sep_last}
use Rattle.paper.proofs.Tidy.{is_none}
use Rattle.pool.specs.Calls.{shown_on}
use Rattle.pool.specs.Statement.{lies_on}

-- how many lines lie on a surface
abbrev pub lying : ℕ → List Line → ℕ
lying i H = count i (surfaces H)

-- and how many of them want to be shown
unfoldable pub wanted : ℕ → List Line → ℕ
wanted i [] = 0
wanted i (e ∷ H) = cond (e.wants && lies i e) 1 0 + wanted i H

-- ---- counting

one_most : (w l : Bool) → cond (w && l) 1 0 ≤ cond l 1 0
one_most true l = omega arith
one_most false true = omega arith
one_most false false = omega arith

pub wanted_lies : (i : ℕ) (H : List Line) → wanted i H ≤ lying i H
unfolding wanted count
wanted_lies i [] = omega arith
wanted_lies i (e ∷ H) = omega (arith, wanted_lies i H, one_most e.wants (lies i e))

wanted_append : (i : ℕ) (H K : List Line) → wanted i (H ++ K) ≡ wanted i H + wanted i K
unfolding wanted
wanted_append i [] K = omega arith
wanted_append i (e ∷ H) K = omega (arith, wanted_append i H K)

pub lies_lying : (i : ℕ) (H : List Line) → lies_on i H ≡ ltb 0 (lying i H)
unfolding count any_b
lies_lying i [] = refl
lies_lying i (e ∷ H) =
    split (lies i e)
    (λ p. rw p (sym (lt-ltb 0 (1 + lying i H) (omega arith))))
    (λ p. let z : lying i H ≡ 0 + lying i H = omega arith in rw p (lies_lying i H ∙ ap (ltb 0) z))

-- where none lies from n on, every line lies below n
pub lying_below : (n : ℕ) (H : List Line) → ((i : ℕ) → n ≤ i → lying i H ≡ 0) → all_b (λ (e : Line). ltb e.surface.0 n) H ≡ true
unfolding count all_b
lying_below n [] z = refl
lying_below n (e ∷ H) z =
    let y = e.surface.0 in
    let k : hit y y ≡ 1 = rw (eq-eqb y y refl) in
    both (split (ltb y n) (λ p. p) (λ p. absurd (omega (arith, k, z y (ltb-false y n p))))) (lying_below n H (λ i h. omega (arith, z i h)))

-- ---- one event

off_less : (w b l : Bool) → cond ((w && b) && l) 1 0 ≤ cond (w && l) 1 0
off_less true true l = omega arith
off_less true false l = omega arith
off_less false b l = omega arith

offs_less : (i n : ℕ) (H : List Line) → wanted i (map (off n) H) ≤ wanted i H
unfolding wanted
offs_less i n [] = omega arith
offs_less i n (e ∷ H) = omega (arith, offs_less i n H, off_less e.wants (not (eqb n e.serial.0)) (lies i e))

free_less : (i x : ℕ) (H : List Line) → wanted i (free x H) ≤ wanted i H
unfolding wanted free keep
free_less i x [] = omega arith
free_less i x (e ∷ H) =
    let k = free_less i x H in
    split (lies x e) (λ p. rw p (omega (arith, k))) (λ p. rw p (omega (arith, k)))

turned : (w b l : Bool) → b ≡ true → ◌≡◌ {A = ℕ} (cond ((w && not b) && l) 1 0) 0
turned true b l e = rw e
turned false b l e = refl

hand_less : (i : ℕ) (x : Shown) (H : List Line) → any_b (waits_as x) H ≡ true → wanted i (map (off x.serial.0) H) + hit i x.surface.0 ≤ wanted i H
unfolding wanted any_b
hand_less i x [] m = not_both false m refl
hand_less i x (e ∷ H) m =
    split (waits_as x e)
    (λ p.
    let w : e.wants ≡ true = left e.wants _ p in
    let q = right e.wants _ p in
    let n : eqb x.serial.0 e.serial.0 ≡ true = left (eqb x.serial.0 e.serial.0) _ q in
    let y : x.surface.0 ≡ e.surface.0 = eqb-true x.surface.0 e.surface.0 (left (eqb x.surface.0 e.surface.0) _ (right (eqb x.serial.0 e.serial.0) _ q)) in
    let a : ◌≡◌ {A = ℕ} (cond ((e.wants && not (eqb x.serial.0 e.serial.0)) && lies i e) 1 0) 0 = turned e.wants (eqb x.serial.0 e.serial.0) (lies i e) n in
    let b : cond (e.wants && lies i e) 1 0 ≡ hit i x.surface.0 = rw (w, y) in
    omega (arith, a, b, offs_less i x.serial.0 H))
    (λ p. omega (arith, hand_less i x H (rw p at m), off_less e.wants (not (eqb x.serial.0 e.serial.0)) (lies i e)))

upon_less : (i : ℕ) (x : Event) (H : List Line) → wanted i (upon x H) ≤ wanted i H
unfolding upon
upon_less i (Hand x) H = offs_less i x.serial.0 H
upon_less i (Throw n) H = offs_less i n.0 H
upon_less i (Free x) H = free_less i x.0 H

-- ---- a tail

no_more : (i : ℕ) (es : List Event) (H : List Line) → wanted i (upon_all es H) ≤ wanted i H
unfolding upon_all
no_more i [] H = omega arith
no_more i (e ∷ es) H = omega (arith, no_more i es (upon e H), upon_less i e H)

hands_less : (i : ℕ) (hs : List Shown) (es : List Event) (H : List Line) → may_all (map Hand hs ++ es) H ≡ true → wanted i (upon_all (map Hand hs ++ es) H) + count i (surface_nos (shown_on hs)) ≤ wanted i H
unfolding may_all upon_all may upon count
hands_less i [] es H m = omega (arith, no_more i es H)
hands_less i (x ∷ hs) es H m =
    let a = hand_less i x H (left (any_b (waits_as x) H) _ m) in
    let b = hands_less i hs es (map (off x.serial.0) H) (right (any_b (waits_as x) H) _ m) in
    omega (arith, a, b)

record Moves (t : Tail) (H K : List Line) : Type 0 where
  lies : (i : ℕ) → lying i H ≡ lying i K + count i (surface_nos t.released)
  wants : (i : ℕ) → wanted i K + count i (surface_nos (shown_on t.handed)) ≤ wanted i H

moves : (t : Tail) (H : List Line) → Sep H → may_all (events t) H ≡ true → Moves t H (upon_all (events t) H)
moves t H d m =
    record {
      lies = λ i. tail_surfaces t i H d m;
      wants = λ i. hands_less i t.handed (map Throw t.thrown ++ map Free t.released) H m;
    }

-- ---- a reply

pub record Shifts (L : Ledger) (r : List ℕ) (a : Reply) : Type 0 where
  pub lies : (i : ℕ) → lying i (lines_of L) + lying i (begun_in r a) ≡ lying i (lines_of (tell L r a)) + count i (surface_nos (tail_in a).released)
  pub begun : (i : ℕ) → lying i (begun_in r a) ≤ lying i (lines_of (tell L r a))
  pub wants : (i : ℕ) → wanted i (lines_of (tell L r a)) + count i (surface_nos (shown_on (tail_in a).handed)) ≤ wanted i (lines_of L) + wanted i (begun_in r a)

no_events : (es : List Event) (H : List Line) → es ≡ [] → (may_all es H ≡ true) × (upon_all es H ≡ H)
unfolding may_all upon_all
no_events es H e = (ap (λ (x : List Event). may_all x H) e, ap (λ (x : List Event). upon_all x H) e)

moves_done : (L : Ledger) (r : List ℕ) (kind : ℕ) (t : Tail) → Sep (lines_of L) → (tell L r (Reply.Done kind t)).ok ≡ true → Moves t (lines_of L) (lines_of (tell L r (Reply.Done kind t)))
unfolding tell
moves_done L r kind t d o =
    by_case (λ (M : Ledger). M.ok ≡ true → Moves t (lines_of L) (lines_of M)) (eqb kind end_kind) (unchanged L t) _
    (λ _ k.
    let z = no_events (events t) (lines_of L) (is_none (events t) (right L.ok _ k)) in
    subst (Moves t (lines_of L)) z.1 (moves t (lines_of L) d z.0))
    (λ _.
    by_case (λ (M : Ledger). M.ok ≡ true → Moves t (lines_of L) (lines_of M)) (eqb kind abandon_kind) (abandoned L t) (landed kind L t)
    (λ _ k. gone (left (may_all (events t) L.current) _ (right (not (none L.current)) _ (right L.ok _ k))) (is_none _ (right (may_all (events t) L.current) _ (right (not (none L.current)) _ (right L.ok _ k)))))
    (λ _ k. subst (Moves t (lines_of L)) (sym (append-nil (upon_all (events t) (lines_of L)))) (moves t (lines_of L) d (left (may_all (events t) (lines_of L)) _ (right L.ok _ k)))))
    o
  where
    gone : may_all (events t) L.current ≡ true → upon_all (events t) L.current ≡ [] → Moves t (lines_of L) (L.held ++ [])
    gone m z =
        let k : Moves t L.current [] = subst (Moves t L.current) z (moves t L.current (sep_last L.held L.current d) m) in
        record {
          lies = λ i. omega (arith, k.lies i, surfaces_append i L.held L.current, surfaces_append i L.held []);
          wants = λ i. omega (arith, k.wants i, wanted_append i L.held L.current, wanted_append i L.held []);
        }

-- before a begin in order no picture is current
moves_started : (L : Ledger) (r : List ℕ) (b : Begun) (t : Tail) → Sep (lines_of L) → (tell L r (Reply.Started b t)).ok ≡ true → Moves t (lines_of L) (upon_all (events t) L.held)
unfolding tell
moves_started L r b t d o =
    let o1 = right L.ok _ o in
    let e : L.current ≡ [] = is_none L.current (left (none L.current) _ o1) in
    let h : lines_of L ≡ L.held = ap (λ (H : List Line). L.held ++ H) e ∙ append-nil L.held in
    let o3 = right (eqb b.serial.0 L.begun) _ (right (none L.current) _ o1) in
    let m : may_all (events t) L.held ≡ true = left (may_all (events t) L.held) _ (right (not (any_b (lies (u32 r surface_place)) L.held)) _ o3) in
    subst (λ (H : List Line). Moves t H (upon_all (events t) L.held)) (sym h) (moves t L.held (sep_first L.held L.current d) m)

pub shifts : (L : Ledger) (r : List ℕ) (a : Reply) → Sep (lines_of L) → (tell L r a).ok ≡ true → Shifts L r a
unfolding tell begun_in tail_in count wanted
shifts L r (Reply.Refused kind n) d o = record { lies = λ i. refl; begun = λ i. omega arith; wants = λ i. omega arith }
shifts L r (Reply.Done kind t) d o =
    let m = moves_done L r kind t d o in
    record { lies = λ i. omega (arith, m.lies i); begun = λ i. omega arith; wants = λ i. omega (arith, m.wants i) }
shifts L r (Reply.Started b t) d o =
    let m = moves_started L r b t d o in
    let K = upon_all (events t) L.held in
    record {
      lies = λ i. omega (arith, m.lies i, surfaces_append i K (line_of r b ∷ []));
      begun = λ i. omega (arith, surfaces_append i K (line_of r b ∷ []));
      wants = λ i. omega (arith, m.wants i, wanted_append i K (line_of r b ∷ []));
    }
shifts L r (Reply.Listed l0 l1) d o = record { lies = λ i. refl; begun = λ i. omega arith; wants = λ i. omega arith }
