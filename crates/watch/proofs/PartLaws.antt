-- The part that events break: one event after the other.
use Prim.Native.Nat.{ℕ, suc, ◌+◌, ◌-◌, ◌≤◌, ◌<◌}
use mathlib.Core.Path.{◌≡◌, refl, sym, ◌∙◌}
use mathlib.Core.Bool.{Bool, true, false, not, ◌&&◌, ◌||◌}
use mathlib.Core.List.{List, [], ◌∷◌, ◌++◌}
use native.Mathlib.Omega.{arith}
use lib.ListN.{drop}
use lib.Dec.{eqb}
use borrow.Author.Tests.{ne_eqb, eqb-false}
use Rattle.derivation.proofs.Pad.{is_view}
use Rattle.paper.specs.Words.{first, any_b, all_b}
use Rattle.paper.specs.Ledger.{Event, Hand, Throw, Free, waits, waits_as, lies, quiet_at, upon, upon_all}
use Rattle.paper.specs.Watch.{event_part, tail_part}
use Rattle.paper.specs.declared.Blamed.{Blamed}
use Rattle.paper.specs.declared.Blamed.TheVariants.{Nothing}
use Rattle.paper.specs.Blame.{event_blame, tail_blame}
use Rattle.paper.specs.declared.Reading.{Reading}
use Rattle.paper.specs.declared.Serial.{Serial}
use Rattle.paper.specs.declared.Surface.{Surface}
use Rattle.paper.specs.declared.Shown.{Shown}
use Rattle.paper.specs.declared.Line.{Line}
use Rattle.paper.proofs.Bools.{split}
use Rattle.watch.specs.Book.{Holds, view}
use Rattle.watch.specs.Walks.{waits_at}
use Rattle.watch.specs.Events.{Tells, event_at, size_of, events_of}
use Rattle.watch.specs.declared.Lines.{Lines}
use Rattle.watch.specs.declared.events.Section.{Section}
use Rattle.std.specs.Prelude.{Result, Ok, Err}
use Rattle.watch.specs.declared.demand.Broken.{Broken}
use Rattle.watch.specs.Parts.{number_of}
use Rattle.watch.proofs.Numbers.{positive}
use Rattle.watch.proofs.Bytes.{events_more, events_none}

pub flip : (b : Bool) → not b ≡ true → b ≡ false
flip true h = sym h
flip false h = refl

pub flop : (b : Bool) → not b ≡ false → b ≡ true
flop true h = refl
flop false h = sym h

-- ---- one event

module _ (H : List Line) where
  module _ (x : Shown) where
    pub hand_6 : any_b (waits x.serial.0) H ≡ false → event_part (Hand x) H ≡ 6
    unfolding event_part first
    hand_6 e = rw e

    pub hand_7 : any_b (waits x.serial.0) H ≡ true → any_b (waits_as x) H ≡ false → event_part (Hand x) H ≡ 7
    unfolding event_part first
    hand_7 e f = rw (e, f)

    pub hand_0 : any_b (waits x.serial.0) H ≡ true → any_b (waits_as x) H ≡ true → event_part (Hand x) H ≡ 0
    unfolding event_part first
    hand_0 e f = rw (e, f)

  module _ (n : Serial) where
    pub throw_8 : any_b (waits n.0) H ≡ false → event_part (Throw n) H ≡ 8
    unfolding event_part first
    throw_8 e = rw e

    pub throw_0 : any_b (waits n.0) H ≡ true → event_part (Throw n) H ≡ 0
    unfolding event_part first
    throw_0 e = rw e

-- none waits on a surface where no line both waits and lies there
quiet_line : (a b : Bool) → (not a || not b) ≡ not (a && b)
quiet_line true b = refl
quiet_line false b = refl

quiet_join : (a b : Bool) → (not a && not b) ≡ not (a || b)
quiet_join true b = refl
quiet_join false b = refl

all_quiet : (x : Surface) (H : List Line) → all_b (quiet_at x.0) H ≡ not (any_b (waits_at x) H)
unfolding all_b any_b
all_quiet x [] = refl
all_quiet x (e ∷ H) = rw (quiet_line e.wants (lies x.0 e), all_quiet x H) (quiet_join (waits_at x e) (any_b (waits_at x) H))

module _ (H : List Line) (x : Surface) where
  pub free_10 : any_b (lies x.0) H ≡ false → event_part (Free x) H ≡ 10
  unfolding event_part first
  free_10 e = rw e

  pub free_11 : any_b (lies x.0) H ≡ true → any_b (waits_at x) H ≡ true → event_part (Free x) H ≡ 11
  unfolding event_part first
  free_11 e f = rw (e, all_quiet x H, f)

  pub free_0 : any_b (lies x.0) H ≡ true → any_b (waits_at x) H ≡ false → event_part (Free x) H ≡ 0
  unfolding event_part first
  free_0 e f = rw (e, all_quiet x H, f)

-- ---- events one after the other

tail_wrong : (e : Event) (es : List Event) (H : List Line) → (event_part e H ≡ 0 → ⊥) → tail_part (e ∷ es) H ≡ event_part e H
unfolding tail_part
tail_wrong e es H n = rw (ne_eqb (event_part e H) 0 n)

tail_right : (e : Event) (es : List Event) (H : List Line) → event_part e H ≡ 0 → tail_part (e ∷ es) H ≡ tail_part es (upon e H)
unfolding tail_part
tail_right e es H z = rw z

blame_wrong : (e : Event) (es : List Event) (H : List Line) → (event_part e H ≡ 0 → ⊥) → tail_blame (e ∷ es) H ≡ event_blame e H
unfolding tail_blame
blame_wrong e es H n = rw (ne_eqb (event_part e H) 0 n)

blame_right : (e : Event) (es : List Event) (H : List Line) → event_part e H ≡ 0 → tail_blame (e ∷ es) H ≡ tail_blame es (upon e H)
unfolding tail_blame
blame_right e es H z = rw z

upon_one : (e : Event) (es : List Event) (H : List Line) → upon_all (e ∷ es) H ≡ upon_all es (upon e H)
unfolding upon_all
upon_one e es H = refl

pub part_append : (es fs : List Event) (H : List Line) → tail_part es H ≡ 0 → tail_part (es ++ fs) H ≡ tail_part fs (upon_all es H)
unfolding tail_part upon_all
part_append [] fs H z = refl
part_append (e ∷ es) fs H z =
    split (eqb (event_part e H) 0)
    (λ t. let w : tail_part es (upon e H) ≡ 0 = rw t at z in rw t (part_append es fs (upon e H) w))
    (λ t. absurd (eqb-false (event_part e H) 0 t (rw t at z)))

pub part_first : (es fs : List Event) (H : List Line) → (tail_part es H ≡ 0 → ⊥) → tail_part (es ++ fs) H ≡ tail_part es H
unfolding tail_part
part_first [] fs H n = absurd (n refl)
part_first (e ∷ es) fs H n =
    split (eqb (event_part e H) 0)
    (λ t. rw t (part_first es fs (upon e H) (λ w. n (rw t w))))
    (λ t. rw t)

-- what is named is of the first part that is broken
blame_append : (es fs : List Event) (H : List Line) → tail_part es H ≡ 0 → tail_blame (es ++ fs) H ≡ tail_blame fs (upon_all es H)
unfolding tail_part tail_blame upon_all
blame_append [] fs H z = refl
blame_append (e ∷ es) fs H z =
    split (eqb (event_part e H) 0)
    (λ t. let w : tail_part es (upon e H) ≡ 0 = rw t at z in rw t (blame_append es fs (upon e H) w))
    (λ t. absurd (eqb-false (event_part e H) 0 t (rw t at z)))

blame_first : (es fs : List Event) (H : List Line) → (tail_part es H ≡ 0 → ⊥) → tail_blame (es ++ fs) H ≡ tail_blame es H
unfolding tail_part tail_blame
blame_first [] fs H n = absurd (n refl)
blame_first (e ∷ es) fs H n =
    split (eqb (event_part e H) 0)
    (λ t. rw t (blame_first es fs (upon e H) (λ w. n (rw t w))))
    (λ t. rw t)

upon_append : (es fs : List Event) (H : List Line) → upon_all (es ++ fs) H ≡ upon_all fs (upon_all es H)
unfolding upon_all
upon_append [] fs H = refl
upon_append (e ∷ es) fs H = upon_append es fs (upon e H)

-- ---- what is told of some events, and of more behind them

pub stops : {es : List Event} {H : List Line} {y : Broken} → number_of y.part ≡ tail_part es H → y.blamed ≡ tail_blame es H → Tells es H (Err y)
stops e b = record { part = e; lines = tt; blamed = b }

pub tells_first : {es : List Event} (fs : List Event) {H : List Line} {y : Broken} → Tells es H (Err y) → Tells (es ++ fs) H (Err y)
tells_first {es} fs {H} {y} h =
    let m : tail_part es H ≡ 0 → ⊥ = λ z. positive y.part (h.part ∙ z) in
    stops (h.part ∙ sym (part_first es fs H m)) (h.blamed ∙ sym (blame_first es fs H m))

pub tells_then : {es : List Event} (fs : List Event) {H : List Line} {l : Lines} {t : Result Lines Broken} → Tells es H (Ok l) → Tells fs (view l) t → Tells (es ++ fs) H t
tells_then {es} fs {H} h g =
    let w : tail_part es H ≡ 0 = sym h.part in
    let k = rw (is_view h.lines) at g in
    record {
      part = k.part ∙ sym (part_append es fs H w);
      lines = rw (upon_append es fs H) k.lines;
      blamed = rw (blame_append es fs H w) k.blamed;
    }

-- ---- a run of events in the bytes: from a place on, the part and the lines of all

module _ (st : Reading) (p : Section) (r : List ℕ) (k n i T : ℕ) (U : List Line) (B : Blamed) (l : Lines) where
  pub run_again : (e : Event) (step : ℕ) (m : Lines) → step ≡ size_of st p → e ≡ event_at st p r k → event_part e (view l) ≡ 0 → i < n → Holds m (upon e (view l))
      → tail_part (events_of st p (n - i) (drop k r)) (view l) ≡ T → upon_all (events_of st p (n - i) (drop k r)) (view l) ≡ U
      → tail_blame (events_of st p (n - i) (drop k r)) (view l) ≡ B
      → (tail_part (events_of st p (n - (i + 1)) (drop (k + step) r)) (view m) ≡ T) × (upon_all (events_of st p (n - (i + 1)) (drop (k + step) r)) (view m) ≡ U)
      × (tail_blame (events_of st p (n - (i + 1)) (drop (k + step) r)) (view m) ≡ B)
  run_again e step m s d z lt h t u b =
      let es = events_of st p (n - (i + 1)) (drop (k + size_of st p) r) in
      let w : n - i ≡ suc (n - (i + 1)) = omega arith in
      let q : events_of st p (n - i) (drop k r) ≡ e ∷ es = rw (w, d) (events_more st p (n - (i + 1)) k r) in
      let f : tail_part (e ∷ es) (view l) ≡ T = rw q at t in
      let g : upon_all (e ∷ es) (view l) ≡ U = rw q at u in
      let y : tail_blame (e ∷ es) (view l) ≡ B = rw q at b in
      rw (s, is_view h) (sym (tail_right e es (view l) z) ∙ f, sym (upon_one e es (view l)) ∙ g, sym (blame_right e es (view l) z) ∙ y)

  pub run_stops : (e : Event) → e ≡ event_at st p r k → (event_part e (view l) ≡ 0 → ⊥) → i < n
      → tail_part (events_of st p (n - i) (drop k r)) (view l) ≡ T → tail_blame (events_of st p (n - i) (drop k r)) (view l) ≡ B
      → (event_part e (view l) ≡ T) × (event_blame e (view l) ≡ B)
  run_stops e d z lt t b =
      let es = events_of st p (n - (i + 1)) (drop (k + size_of st p) r) in
      let w : n - i ≡ suc (n - (i + 1)) = omega arith in
      let q : events_of st p (n - i) (drop k r) ≡ e ∷ es = rw (w, d) (events_more st p (n - (i + 1)) k r) in
      let f : tail_part (e ∷ es) (view l) ≡ T = rw q at t in
      let g : tail_blame (e ∷ es) (view l) ≡ B = rw q at b in
      (sym (tail_wrong e es (view l) z) ∙ f, sym (blame_wrong e es (view l) z) ∙ g)

  pub run_ends : n ≤ i → tail_part (events_of st p (n - i) (drop k r)) (view l) ≡ T → upon_all (events_of st p (n - i) (drop k r)) (view l) ≡ U
      → tail_blame (events_of st p (n - i) (drop k r)) (view l) ≡ B → (◌≡◌ {A = ℕ} 0 T) × (view l ≡ U) × (Nothing ≡ B)
  unfolding tail_part upon_all tail_blame
  run_ends le t u b =
      let w : n - i ≡ 0 = omega arith in
      let q : events_of st p (n - i) (drop k r) ≡ [] = rw w (events_none st p (drop k r)) in
      (rw q at t, rw q at u, rw q at b)
