-- Turn after turn: all that was read so far is replies whose lines were handed over, and what waits; where the run ends
-- both files have ended and nothing waits.
use Prim.Native.Nat.{ℕ, ◌+◌, ◌<◌, max}
use mathlib.Core.Path.{◌≡◌, refl, sym, ap, ap₂, subst, ◌∙◌}
use mathlib.Core.List.{List, [], ◌++◌, append-nil, append_assoc}
use mathlib.Core.Bool.{Bool, true, false, not, ◌&&◌}
use native.Mathlib.Omega.{arith}
use lib.Dec.{ltb}
use lib.IntN.{ℤ}
use lib.ListN.{length, take, drop, length-append}
use lib.Seq.{length-take-le}
use borrow.Author.Tests.{not-true, ltb-true, ltb-false}
use Rattle.paper.specs.Words.{flat}
use Rattle.paper.proofs.Bools.{split, both, left, right, not_both, or_left, or_right}
use Rattle.stream.specs.declared.files.Feed.{Feed}
use Rattle.stream.specs.Turns.{Ran, through}
use Rattle.stream.specs.Files.{brought, Onward, Unread}
use Rattle.stream.proofs.Laying.{put_front}
use Rattle.stream.proofs.Running.{Reached, over_turns}
use Rattle.compare.specs.Lines.{replies_of, lines_from, compared_text}
use Rattle.compare.specs.declared.State.{State}
use Rattle.compare.specs.Pairs.{ready, some_left, lines_text, Cuts}
use Rattle.compare.specs.Turns.{more, unwritten, spent, waiting, at_end, size_in, pair_waits, Goes, Turned, Stand, first_in, second_in, written_in, Starts, Turning, Comparing, Compares}
use Rattle.compare.proofs.Turning.{more_read, more_left, spent_left}
use Rattle.compare.proofs.Pairing.{none_off, none_of, reply_none, from_none}

-- ---- one file in a turn

-- of nothing no reply is taken
none_cut : {e : Bool} (file rest : List ℕ) (rs : List (List ℕ)) → Cuts e file rs rest → file ≡ [] → rs ≡ []
none_cut file rest rs c z =
    let q : [] ≡ rs ++ replies_of (rest ++ []) = sym (ap (λ (l : List ℕ). replies_of (l ++ [])) z ∙ none_off) ∙ c [] (λ _. refl) in
    let l = ap length q in
    let m = length-append rs (replies_of (rest ++ [])) in
    none_of rs (omega arith)

-- the end of a file is not seen where it could not be read
end_seen : (f : Feed) → f.ended ≡ true → f.failed ≡ false → at_end f ≡ true
end_seen f e x = both e (ap not x)

-- a file in a turn: one whose end was seen is not read on; replies are taken of it, and it does not fail, or nothing is
-- taken, and all that waited and was read waits
record Turns (f : Feed) (before : List ℕ) (r : Feed) (after : List ℕ) (qs : List (List ℕ)) : Type 0 where
  on : Onward f r after
  ended : f.ended ≡ true → Unread f r after
  taken : (r.failed ≡ false → Cuts r.ended (waiting f before ++ brought f r after) qs (waiting r after)) × (r.failed ≡ true → (qs ≡ []) × (waiting f before ++ brought f r after ≡ waiting r after))

module _ {before after : List ℕ} {qs : List (List ℕ)} {f r : Feed} (t : Turns f before r after qs) where
  still_seen : at_end f ≡ true → (f.ended ≡ true) × (at_end r ≡ true)
  still_seen h =
      let e = left f.ended (not f.failed) h in
      let u = t.ended e in
      (e, ap₂ (λ (x y : Bool). x && not y) u.ended u.failed ∙ h)

  -- what was read so far is cut on
  cuts_more : (all : List ℕ) (rs : List (List ℕ)) → Cuts (at_end f) all rs (waiting f before) → Cuts (at_end r) (all ++ brought f r after) (rs ++ qs) (waiting r after)
  cuts_more all rs a more c =
      let x = brought f r after in
      let none : at_end f ≡ true → x ++ more ≡ [] = λ h. let k = still_seen h in ap₂ (λ (l m : List ℕ). l ++ m) (t.ended k.0).none (c k.1) in
      let on : replies_of ((waiting f before ++ x) ++ more) ≡ qs ++ replies_of (waiting r after ++ more) =
      split r.failed
      (λ y. let k = t.taken.1 y in ap (λ (l : List ℕ). replies_of (l ++ more)) k.1 ∙ ap (λ (l : List (List ℕ)). l ++ replies_of (waiting r after ++ more)) (sym k.0))
      (λ y. t.taken.0 y more (λ e. c (end_seen r e y))) in
      ap replies_of (append_assoc all x more)
      ∙ a (x ++ more) none
      ∙ ap (λ (l : List ℕ). rs ++ replies_of l) (sym (append_assoc (waiting f before) x more))
      ∙ ap (λ (l : List (List ℕ)). rs ++ l) on
      ∙ sym (append_assoc rs qs (replies_of (waiting r after ++ more)))

  module _ (h : at_end f ≡ true) (z : f.held ≡ 0) where
    -- a file of which nothing is left stays so, and gives no more
    stays_none : r.held ≡ 0
    stays_none =
        let q : take r.held after ≡ [] = subst (λ (n : ℕ). drop n (take r.held after) ≡ []) z (t.ended (still_seen h).0).none in
        let l = ap length q in
        let m = length-take-le r.held after t.on.within in
        omega arith

    none_taken : qs ≡ []
    none_taken =
        let k = still_seen h in
        let y : r.failed ≡ false = not-true r.failed (right r.ended (not r.failed) k.1) in
        let w : waiting f before ++ brought f r after ≡ [] = ap₂ (λ (l m : List ℕ). l ++ m) (ap (λ (n : ℕ). take n before) z) (t.ended k.0).none in
        none_cut (waiting f before ++ brought f r after) (waiting r after) qs (t.taken.0 y) w

  -- one that gave fewer replies than the other, n and then p where the other gave m and then q, has ended and nothing
  -- of it waits
  fewer_on : (n m p q : ℕ) → f.failed ≡ false → (n < m → (at_end f ≡ true) × (f.held ≡ 0)) → (p < q → (f.ended ≡ true) × (r.held ≡ 0)) → n + p < m + q → (at_end r ≡ true) × (r.held ≡ 0)
  fewer_on n m p q x so_far now h =
      split (ltb p q)
      (λ u. let k = now (ltb-true p q u) in ((still_seen (end_seen f k.0 x)).1, k.1))
      (λ u.
      let l = ltb-false p q u in
      let k = so_far (omega arith) in
      ((still_seen k.0).1, stays_none k.0 k.1))

-- a file in a turn before which no read had failed: it is not read on where a pair waits, and else nothing is taken
file_turns : {f r : Feed} {before after : List ℕ} {qs : List (List ℕ)} (pair : Bool) → f.failed ≡ false → Onward f r after → (f.ended ≡ true → Unread f r after)
    → Cuts r.ended (waiting f before ++ brought f r after) qs (waiting r after) → (pair ≡ true → Unread f r after)
    → (pair ≡ false → (qs ≡ []) × (waiting f before ++ brought f r after ≡ waiting r after)) → Turns f before r after qs
file_turns {r = r} pair x on ended cut none waits =
    record { on = on; ended = ended; taken = (λ _. cut, λ h. split pair (λ e. not_both r.failed h ((none e).failed ∙ x)) waits) }

-- ---- how many replies there are

-- so many so far and so many more: a file that is behind gives no more
summed : (x y p q : ℕ) → (x < y → p ≡ 0) → (y < x → q ≡ 0) → max x y + max p q ≡ max (x + p) (y + q)
summed x y p q f g =
    split (ltb x y)
    (λ u. let h = ltb-true x y u in let z = f h in omega arith)
    (λ u.
    let h = ltb-false x y u in
    split (ltb y x)
    (λ v. let k = ltb-true y x v in let z = g k in omega arith)
    (λ v. let k = ltb-false y x v in omega arith))

-- ---- one turn more

module _ {R A W : List ℕ} {b s : Stand} (g : Comparing b R A W) (t : Turned b.state b.first b.second b.output s.state s.first s.second s.output)
    (fx : b.state.first.failed ≡ false) (fy : b.state.second.failed ≡ false) where
  abbrev firsts : List (List ℕ)
  firsts = g.firsts ++ t.firsts

  abbrev seconds : List (List ℕ)
  seconds = g.seconds ++ t.seconds

  abbrev one : Turns b.state.first b.first s.state.first s.first t.firsts
  one = file_turns (pair_waits b.state b.first b.second) fx t.first_on t.ended_first t.cut_first (λ e. (t.compares e).1) (λ e. ((t.reads e).0, (t.waits e).0))

  abbrev two : Turns b.state.second b.second s.state.second s.second t.seconds
  two = file_turns (pair_waits b.state b.first b.second) fy t.second_on t.ended_second t.cut_second (λ e. (t.compares e).2) (λ e. ((t.reads e).1, (t.waits e).1))

  none_firsts : length g.firsts < length g.seconds → t.firsts ≡ []
  none_firsts h = let k = g.fewer_firsts h in none_taken one k.0 k.1

  none_seconds : length g.seconds < length g.firsts → t.seconds ≡ []
  none_seconds h = let k = g.fewer_seconds h in none_taken two k.0 k.1

  lines_on : W ++ written_in b s ≡ lines_text 0 firsts seconds
  lines_on =
      ap₂ (λ (x y : List ℕ). x ++ y) g.lines (put_front t.lines ∙ ap (λ (n : ℕ). lines_text n t.firsts t.seconds) g.number)
      ∙ sym (from_none g.firsts g.seconds t.firsts t.seconds none_firsts none_seconds)

  number_on : s.state.number ≡ max (length firsts) (length seconds)
  number_on =
      let x = length-append g.firsts t.firsts in
      let y = length-append g.seconds t.seconds in
      let k = summed (length g.firsts) (length g.seconds) (length t.firsts) (length t.seconds) (λ h. ap length (none_firsts h)) (λ h. ap length (none_seconds h)) in
      t.number ∙ ap (λ (n : ℕ). n + max (length t.firsts) (length t.seconds)) g.number ∙ k ∙ sym (ap₂ max x y)

  compared_on : Comparing s (R ++ first_in b s) (A ++ second_in b s) (W ++ written_in b s)
  compared_on =
      record {
        firsts = firsts;
        seconds = seconds;
        cut_first = cuts_more one R g.firsts g.cut_first;
        cut_second = cuts_more two A g.seconds g.cut_second;
        lines = lines_on;
        number = number_on;
        fewer_firsts = λ h. fewer_on one (length g.firsts) (length g.seconds) (length t.firsts) (length t.seconds) fx g.fewer_firsts t.fewer_firsts (simp length-append at h);
        fewer_seconds = λ h. fewer_on two (length g.seconds) (length g.firsts) (length t.seconds) (length t.firsts) fy g.fewer_seconds t.fewer_seconds (simp length-append at h);
      }

-- a run goes on only where no read failed
module _ (s r : State) (first second first' second' : List ℕ) (x : s.first.failed ≡ false) (y : s.second.failed ≡ false) where
  unfailed : (a b : Bool) → Goes a b s first second r first' second' → more r ≡ true → (r.first.failed ≡ false) × (r.second.failed ≡ false)
  unfailed false b w m = (not-true r.first.failed (sym (ap more w.2 ∙ more_read r.first.failed) ∙ m), ap (λ (u : State). u.second.failed) w.2 ∙ y)
  unfailed true false w m = (ap (λ (u : State). u.first.failed) w.2 ∙ x, not-true r.second.failed (sym (ap more w.2 ∙ more_read r.second.failed) ∙ m))
  unfailed true true w m = not_both (more r) m (ap more w.2 ∙ more_left _)

  turn_unfailed : {output output' : List ℕ} → Turned s first second output r first' second' output' → more r ≡ true → (r.first.failed ≡ false) × (r.second.failed ≡ false)
  turn_unfailed t m =
      split (pair_waits s first second)
      (λ e. let k = t.compares e in (k.1.failed ∙ x, k.2.failed ∙ y))
      (λ e. unfailed (ready s.first.ended (size_in s.first first)) (ready s.second.ended (size_in s.second second)) (t.reads e).2 m)

nothing_compared : {x y : ℤ} {s : Stand} → Starts x y s → Comparing s [] [] []
unfolding lines_from flat
nothing_compared {s = s} b =
    record {
      firsts = [];
      seconds = [];
      cut_first = λ more c. sym (ap (λ (f : Feed). replies_of (take f.held s.first ++ more)) b.first);
      cut_second = λ more c. sym (ap (λ (f : Feed). replies_of (take f.held s.second ++ more)) b.second);
      lines = refl;
      number = b.number;
      fewer_firsts = λ h. absurd (omega arith);
      fewer_seconds = λ h. absurd (omega arith);
    }

-- ---- the end

-- a file has ended and nothing of it waits
record Over (f : Feed) (l : List ℕ) : Type 0 where
  ended : f.ended ≡ true
  none : waiting f l ≡ []

over_file : (f : Feed) (l : List ℕ) → ready f.ended (size_in f l) ≡ true → size_in f l ≡ 0 → Over f l
over_file f l r z =
    let e : f.ended ≡ true = subst (λ (n : ℕ). ready f.ended n ≡ true) z r in
    record { ended = e; none = none_of (waiting f l) (reply_none f.ended (waiting f l) e z) }

none_size : (n m : ℕ) → some_left n m ≡ false → (n ≡ 0) × (m ≡ 0)
none_size n m h =
    split (ltb 0 n)
    (λ u. not_both (some_left n m) (or_left (ltb 0 n) (ltb 0 m) u) h)
    (λ u.
    let z = ltb-false 0 n u in
    split (ltb 0 m)
    (λ v. not_both (some_left n m) (or_right (ltb 0 n) (ltb 0 m) v) h)
    (λ v. let w = ltb-false 0 m v in (omega arith, omega arith)))

module _ (s r : State) (first second first' second' : List ℕ) where
  over : (a b : Bool) → ready s.first.ended (size_in s.first first) ≡ a → ready s.second.ended (size_in s.second second) ≡ b → Goes a b s first second r first' second' → more r ≡ false
      → r.first.failed ≡ false → r.second.failed ≡ false → spent r ≡ false → Over r.first first' × Over r.second second'
  over false b p q w m x y z = not_both (more r) (ap more w.2 ∙ more_read r.first.failed ∙ ap not x) m
  over true false p q w m x y z = not_both (more r) (ap more w.2 ∙ more_read r.second.failed ∙ ap not y) m
  over true true p q w m x y z =
      let k = none_size (size_in s.first first) (size_in s.second second) (sym (ap spent w.2 ∙ spent_left _) ∙ z) in
      rw (w.0, w.1, w.2) (over_file s.first first p k.0, over_file s.second second q k.1)

  turn_over : {output output' : List ℕ} → Turned s first second output r first' second' output' → more r ≡ false → r.first.failed ≡ false → r.second.failed ≡ false → unwritten r ≡ false → spent r ≡ false
      → Over r.first first' × Over r.second second'
  turn_over t m x y u z =
      split (pair_waits s first second)
      (λ e. not_both (more r) ((t.compares e).3 ∙ ap not u) m)
      (λ e. over (ready s.first.ended (size_in s.first first)) (ready s.second.ended (size_in s.second second)) refl refl (t.reads e).2 m x y z)

abbrev Complete : List ℕ → List ℕ → List ℕ → Stand → Type 0
Complete R A W s = (W ≡ compared_text R A) × (s.state.first.ended ≡ true) × (s.state.second.ended ≡ true)

-- where nothing waits, all replies were compared
all_cut : {e : Bool} (file rest : List ℕ) (rs : List (List ℕ)) → Cuts e file rs rest → rest ≡ [] → rs ≡ replies_of file
all_cut file rest rs c z =
    sym
    (ap replies_of (sym (append-nil file)) ∙ c [] (λ _. refl) ∙ ap (λ (l : List ℕ). rs ++ replies_of (l ++ [])) z ∙ ap (λ (l : List (List ℕ)). rs ++ l) none_off ∙ append-nil rs)

complete : {R A W : List ℕ} {s : Stand} → Comparing s R A W → Over s.state.first s.first → Over s.state.second s.second → Complete R A W s
complete {R} {A} {s = s} g a b =
    let x = all_cut R (waiting s.state.first s.first) g.firsts g.cut_first a.none in
    let y = all_cut A (waiting s.state.second s.second) g.seconds g.cut_second b.none in
    (g.lines ∙ ap₂ (lines_text 0) x y, a.ended, b.ended)

-- ---- the whole run

record Told (R A W : List ℕ) (s : Stand) : Type 0 where
  so_far : Comparing s R A W
  unfailing : more s.state ≡ true → (s.state.first.failed ≡ false) × (s.state.second.failed ≡ false)
  end : more s.state ≡ false → s.state.first.failed ≡ false → s.state.second.failed ≡ false → unwritten s.state ≡ false → spent s.state ≡ false → Complete R A W s

told_on : {R A W : List ℕ} {b s : Stand} → Told R A W b → Turning b s → Told (R ++ first_in b s) (A ++ second_in b s) (W ++ written_in b s) s
told_on {b = b} {s = s} g t =
    let f = g.unfailing t.0 in
    let c = compared_on g.so_far t.1 f.0 f.1 in
    record {
      so_far = c;
      unfailing = turn_unfailed b.state s.state b.first b.second s.first s.second f.0 f.1 t.1;
      end = λ m x y u z. let o = turn_over b.state s.state b.first b.second s.first s.second t.1 m x y u z in complete c o.0 o.1;
    }

abbrev AllTold : List Stand → Stand → Type 0
AllTold turns s = Told (through first_in turns s) (through second_in turns s) (through written_in turns s) s

module _ (x y : ℤ) where
  told_none : (s : Stand) → Starts x y s → AllTold [] s
  unfolding through
  told_none s b = record { so_far = nothing_compared b; unfailing = λ _. (ap (λ (f : Feed). f.failed) b.first, ap (λ (f : Feed). f.failed) b.second); end = λ m p q u z. not_both (more s.state) b.more m }

  told_turns : (turns : List Stand) (s : Stand) → Ran (Starts x y) Turning turns s → AllTold turns s
  unfolding through
  told_turns = over_turns AllTold told_none (λ earlier b s. told_on)

  -- THE WHOLE RUN
  pub compares : (s : Stand) → Reached (Starts x y) Turning s → Compares x y s
  compares s r =
      let turns = r.turns in
      let t = told_turns turns s r.ran in
      record {
        turns = turns;
        R = through first_in turns s;
        A = through second_in turns s;
        W = through written_in turns s;
        ran = r.ran;
        read_first = refl;
        read_second = refl;
        handed = refl;
        so_far = t.so_far;
        all = t.end;
      }

-- ---- the theorem of the program

-- WHATEVER FAILED, W IS THE FRONT OF THE LINES of every two files that begin with R and A and end where their end was
-- seen
pub written_front : {x y : ℤ} {s : Stand} (g : Compares x y s) (more others : List ℕ) → (at_end s.state.first ≡ true → more ≡ []) → (at_end s.state.second ≡ true → others ≡ [])
    → compared_text (g.R ++ more) (g.A ++ others) ≡ g.W ++ lines_text s.state.number (replies_of (waiting s.state.first s.first ++ more)) (replies_of (waiting s.state.second s.second ++ others))
written_front {s = s} g more others c d =
    let k = g.so_far in
    let p = replies_of (waiting s.state.first s.first ++ more) in
    let q = replies_of (waiting s.state.second s.second ++ others) in
    ap₂ (lines_text 0) (k.cut_first more c) (k.cut_second others d)
    ∙ from_none k.firsts k.seconds p q (λ h. let f = k.fewer_firsts h in none_on s.state.first s.first more f.1 (c f.0)) (λ h. let f = k.fewer_seconds h in none_on s.state.second s.second others f.1 (d f.0))
    ∙ ap₂ (λ (w : List ℕ) (n : ℕ). w ++ lines_text n p q) (sym k.lines) (sym k.number)
  where
    none_on : (f : Feed) (l more : List ℕ) → f.held ≡ 0 → more ≡ [] → replies_of (waiting f l ++ more) ≡ []
    none_on f l more z e = ap₂ (λ (n : ℕ) (m : List ℕ). replies_of (take n l ++ m)) z e ∙ none_off
