-- A turn keeps what waits: no pair waited, and a file is read on or the run ends; or the lines of some pairs were made
-- and their replies cut off.
use Prim.Native.Nat.{ℕ, ◌+◌, ◌-◌, ◌≤◌, ◌<◌}
use mathlib.Core.Path.{◌≡◌, refl, sym, ap, ap₂, subst, ◌∙◌}
use mathlib.Core.List.{List, [], ◌++◌}
use mathlib.Core.Bool.{Bool, true, false, cond, not, ◌&&◌}
use native.Mathlib.Omega.{arith}
use lib.Dec.{ltb, eqb}
use lib.ListN.{length, drop}
use lib.Seq.{length-take-le}
use borrow.Author.Tests.{eqb-true, eq-eqb}
use Rattle.paper.specs.Words.{flat}
use Rattle.paper.proofs.Bools.{both, left, right, not_both, or_right}
use Rattle.format.specs.Cut.{size_of}
use Rattle.format.proofs.Fitting.{within}
use Rattle.stream.specs.declared.files.Feed.{Feed}
use Rattle.stream.specs.Laid.{Puts}
use Rattle.stream.specs.Turns.{shifted}
use Rattle.stream.specs.Files.{brought, lessened, Onward, Unread}
use Rattle.stream.proofs.Keeping.{left_over, still_same}
use Rattle.stream.proofs.Laying.{put_none, none_put}
use Rattle.stream.proofs.Sides.{Side, side_fed, side_same, onward_less, unread_less, unread_same}
use Rattle.compare.specs.Lines.{replies_of, lines_from}
use Rattle.compare.specs.declared.Compared.{Compared}
use Rattle.compare.specs.declared.State.{State}
use Rattle.compare.specs.declared.Next.{Next}
use Rattle.compare.specs.declared.Next.TheVariants.{More, End, Spent}
use Rattle.compare.specs.Next.{is_more, is_unwritten, is_spent}
use Rattle.compare.specs.Pairs.{ready, some_left, goes, lines_text, Cuts, Paired}
use Rattle.compare.specs.Turns.{waiting, size_in, pair_waits, behind_read, state_of, Goes, Went, Turned}
use Rattle.compare.proofs.Lining.{not_nothing}

-- ---- what comes next

-- behind a read
pub more_read : (failed : Bool) → is_more (cond failed Next.Unread More) ≡ not failed
more_read true = refl
more_read false = refl

-- where no file is waited for
pub more_left : (left : Bool) → is_more (cond left Spent End) ≡ false
more_left true = refl
more_left false = refl

pub spent_left : (left : Bool) → is_spent (cond left Spent End) ≡ left
spent_left true = refl
spent_left false = refl

-- ---- a turn that compares nothing

-- a reply waits there, or the end does; or not
abbrev Ready : Feed → List ℕ → Bool → Type 0
Ready f l b = ready f.ended (size_in f l) ≡ b

-- where no byte was taken no pair waits, and no line was made
module _ {l : Compared} {output output' : List ℕ} (s : State) (first second : List ℕ)
    (g : Paired s.number (waiting s.first first) s.first.ended (waiting s.second second) s.second.ended output l output') where
  none_waits : (eqb l.first 0 && eqb l.second 0) ≡ true
      → (l.made + 49 ≤ length output' → goes l.number s.first.ended (drop l.first (waiting s.first first)) s.second.ended (drop l.second (waiting s.second second)) ≡ false)
      → 49 ≤ length output → (pair_waits s first second ≡ false) × (output' ≡ output)
  unfolding lines_from flat
  none_waits t all h =
      let a = eqb-true l.first 0 (left (eqb l.first 0) (eqb l.second 0) t) in
      let b = eqb-true l.second 0 (right (eqb l.first 0) (eqb l.second 0) t) in
      let k = g.some a b in
      let p = none_put g.lines (ap₂ (lines_text s.number) k.0 k.1) in
      let x = ap length k.0 in
      let y = ap length k.1 in
      let n : l.number ≡ s.number = g.number ∙ omega arith in
      let m = p.0 in
      let o = ap length p.1 in
      let w = waiting s.first first in
      let v = waiting s.second second in
      let at-start : ℕ → ℕ → ℕ → Bool = λ (i j k : ℕ). goes k s.first.ended (drop i w) s.second.ended (drop j v) in
      (sym (ap₂ (λ (i j : ℕ). at-start i j s.number) a b) ∙ sym (ap (at-start l.first l.second) n) ∙ all (omega arith), p.1)

  some_waits : (eqb l.first 0 && eqb l.second 0) ≡ false → l.first ≡ 0 → l.second ≡ 0 → ⊥
  some_waits t a b = not_both (eqb l.first 0 && eqb l.second 0) (both (eq-eqb l.first 0 a) (eq-eqb l.second 0 b)) t

record Still (s : State) (first second : List ℕ) (r : State) (first' second' : List ℕ) : Type 0 where
  first_on : Onward s.first r.first first'
  second_on : Onward s.second r.second second'
  kept_first : waiting s.first first ++ brought s.first r.first first' ≡ waiting r.first first'
  kept_second : waiting s.second second ++ brought s.second r.second second' ≡ waiting r.second second'
  ended_first : s.first.ended ≡ true → Unread s.first r.first first'
  ended_second : s.second.ended ≡ true → Unread s.second r.second second'
  made : r.made ≡ 0
  number : r.number ≡ s.number

module _ (s : State) (first second : List ℕ) (h : s.first.held ≤ length first) (k : s.second.held ≤ length second) where
  still : {f g : Feed} {first' second' : List ℕ} (next : Next) → Side s.first first f first' → Side s.second second g second' → (s.first.ended ≡ true → Unread s.first f first')
      → (s.second.ended ≡ true → Unread s.second g second') → Still s first second (state_of s f g next) first' second'
  still next a b c d =
      record {
        first_on = a.onward;
        second_on = b.onward;
        kept_first = a.waits (waiting s.first first) [] refl;
        kept_second = b.waits (waiting s.second second) [] refl;
        ended_first = c;
        ended_second = d;
        made = refl;
        number = refl;
      }

  -- a file that has ended is never waited for
  not_waited : {X : Type 0} (f : Feed) (l : List ℕ) → Ready f l false → f.ended ≡ true → X
  not_waited f l r e = not_both (ready f.ended (size_in f l)) (or_right (ltb 0 (size_in f l)) f.ended e) r

  module _ {r : State} {first' second' : List ℕ} where
    moved : (a b : Bool) → Ready s.first first a → Ready s.second second b → Goes a b s first second r first' second' → Still s first second r first' second'
    moved false b p q w =
        rw (w.1, w.2) (still (behind_read r.first) (side_fed h w.0) (side_same s.second second k) (not_waited s.first first p) (λ _. unread_same s.second second))
    moved true false p q w =
        rw (w.1, w.2) (still (behind_read r.second) (side_same s.first first h) (side_fed k w.0) (λ _. unread_same s.first first) (not_waited s.second second q))
    moved true true p q w =
        rw (w.0, w.1, w.2)
        (still (cond (some_left (size_in s.first first) (size_in s.second second)) Spent End) (side_same s.first first h) (side_same s.second second k) (λ _. unread_same s.first first)
        (λ _. unread_same s.second second))

    starves : {output output' : List ℕ} → pair_waits s first second ≡ false → output' ≡ output → Went s first second r first' second'
        → (size_of (waiting s.first first) ≡ 0 → s.first.held < length first) × (size_of (waiting s.second second) ≡ 0 → s.second.held < length second)
        → Turned s first second output r first' second' output'
    unfolding lines_from flat
    starves {output} {output'} p o w room =
        let t = moved (ready s.first.ended (size_in s.first first)) (ready s.second.ended (size_in s.second second)) refl refl w in
        record {
          firsts = [];
          seconds = [];
          first_on = t.first_on;
          second_on = t.second_on;
          cut_first = λ more c. ap (λ (l : List ℕ). replies_of (l ++ more)) t.kept_first;
          cut_second = λ more c. ap (λ (l : List ℕ). replies_of (l ++ more)) t.kept_second;
          lines = subst (λ (n : ℕ). Puts n [] output output') (sym t.made) (subst (λ (l : List ℕ). Puts 0 [] output l) (sym o) (put_none output));
          number = let n = t.number in omega arith;
          fewer_firsts = λ q. absurd (omega arith);
          fewer_seconds = λ q. absurd (omega arith);
          compares = λ q. not_both (pair_waits s first second) q p;
          reads = λ _. (refl, refl, w);
          waits = λ _. (t.kept_first, t.kept_second);
          ended_first = t.ended_first;
          ended_second = t.ended_second;
          room = room;
        }

-- ---- a turn that compares some

module _ {n : ℕ} {after : List ℕ} (f : Feed) (before : List ℕ) (h : f.held ≤ length before) (k : n ≤ length (waiting f before)) (e : after ≡ shifted before n f.held) where
  cut_behind : (rs : List (List ℕ)) → Cuts f.ended (waiting f before) rs (drop n (waiting f before)) → Cuts f.ended (waiting f before ++ brought f (lessened f n) after) rs (waiting (lessened f n) after)
  cut_behind rs c more q =
      ap (λ (l : List ℕ). replies_of (l ++ more)) (still_same {all = waiting f before} f.held (f.held - n) after (omega arith))
      ∙ c more q
      ∙ ap (λ (l : List ℕ). rs ++ replies_of (l ++ more)) (left_over f.held before h k e)

  none_held : n ≡ length (waiting f before) → f.held - n ≡ 0
  none_held q = let l = length-take-le f.held before h in omega arith

-- what the turn gives where it compared some
abbrev pub gone : State → Compared → Next → State
gone s l next = record { number = l.number; first = lessened s.first l.first; second = lessened s.second l.second; made = l.made; next = next }

-- ---- one turn

module _ {l : Compared} {output output' : List ℕ} (s : State) (first second : List ℕ) (p : (s.first.held ≤ length first) × (s.second.held ≤ length second))
    (q : 49 ≤ length output) (room : (size_of (waiting s.first first) ≡ 0 → s.first.held < length first) × (size_of (waiting s.second second) ≡ 0 → s.second.held < length second))
    (g : Paired s.number (waiting s.first first) s.first.ended (waiting s.second second) s.second.ended output l output') where
  -- A TURN THAT COMPARES NOTHING
  pub starved : {r : State} {first' second' : List ℕ} → (eqb l.first 0 && eqb l.second 0) ≡ true
      → (l.made + 49 ≤ length output' → goes l.number s.first.ended (drop l.first (waiting s.first first)) s.second.ended (drop l.second (waiting s.second second)) ≡ false)
      → Went s first second r first' second' → Turned s first second output r first' second' output'
  starved t all w = let n = none_waits s first second g t all q in starves s first second p.0 p.1 n.0 n.1 w room

  -- A TURN THAT COMPARES SOME
  pub lined : {first' second' : List ℕ} {next : Next} → is_more next ≡ not (is_unwritten next) → is_spent next ≡ false → (eqb l.first 0 && eqb l.second 0) ≡ false
      → (l.first ≤ length (waiting s.first first)) × (l.second ≤ length (waiting s.second second)) × (l.made ≤ length output') → first' ≡ shifted first l.first s.first.held
      → second' ≡ shifted second l.second s.second.held → Turned s first second output (gone s l next) first' second' output'
  lined {first' = first'} {second' = second'} m u t x a b =
      let some = some_waits s first second g t in
      record {
        firsts = g.firsts;
        seconds = g.seconds;
        first_on = onward_less s.first l.first first first' p.0 (within s.first.held first p.0 x.0) a;
        second_on = onward_less s.second l.second second second' p.1 (within s.second.held second p.1 x.1) b;
        cut_first = cut_behind s.first first p.0 x.0 a g.firsts g.cut_first;
        cut_second = cut_behind s.second second p.1 x.1 b g.seconds g.cut_second;
        lines = g.lines;
        number = g.number;
        fewer_firsts = λ k. let f = g.fewer_firsts k in (f.0, none_held s.first first p.0 x.0 a f.1);
        fewer_seconds = λ k. let f = g.fewer_seconds k in (f.0, none_held s.second second p.1 x.1 b f.1);
        compares =
            λ _. (
              g.any (not_nothing l.first l.second some),
              unread_less s.first l.first first',
              unread_less s.second l.second second',
              m,
              u,
            );
        reads = λ k. let z = g.none k in absurd (some z.0 z.1);
        waits = λ k. let z = g.none k in absurd (some z.0 z.1);
        ended_first = λ _. unread_less s.first l.first first';
        ended_second = λ _. unread_less s.second l.second second';
        room = room;
      }
