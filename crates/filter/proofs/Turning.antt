-- A turn keeps what waits: nothing was whole, or some messages were answered and cut off.
use Prim.Native.Nat.{ℕ, ◌+◌, ◌-◌, ◌≤◌, ◌<◌}
use mathlib.Core.Path.{◌≡◌, refl, sym, subst}
use mathlib.Core.List.{List, []}
use mathlib.Core.Bool.{Bool, true, false, cond, not}
use native.Mathlib.Omega.{arith}
use lib.Dec.{eqb, ltb}
use lib.ListN.{length, get_or, take, drop}
use borrow.Author.Tests.{eqb-true, eqb-false}
use Rattle.paper.proofs.Bools.{split}
use Rattle.paper.specs.Words.{all_b}
use Rattle.format.specs.Cut.{size_of, joined}
use Rattle.stream.specs.Turns.{Read}
use Rattle.stream.specs.Turns.{Fed, shifted}
use Rattle.format.proofs.Cutting.{some_cut, front_whole}
use Rattle.format.proofs.Fitting.{within, no_size, room_left}
use Rattle.stream.proofs.Keeping.{taken_off, read_behind, none_brought, none_more}
use Rattle.stream.proofs.Laying.{put_none}
use Rattle.filter.specs.declared.After.{After}
use Rattle.filter.specs.declared.Answered.{Answered}
use Rattle.filter.specs.Machine.{Machine, outs, state_after}
use Rattle.filter.specs.Answers.{Answers}
use Rattle.filter.specs.declared.Next.{Next}
use Rattle.filter.specs.declared.Next.TheVariants.{More, End, Unread, Unwritten}
use Rattle.filter.specs.Next.{is_more, is_unread, is_unwritten}
use Rattle.filter.specs.Turns.{more, fed_by, gone, Went, Turned}
use Rattle.filter.proofs.Answering.{none_changed, none_written}

-- what comes behind a read, by whether it failed and whether it brought something
more_by : (failed grew : Bool) → (failed ≡ true → grew ≡ false) → is_more (cond failed Unread (cond grew More End)) ≡ grew
more_by true grew h = sym (h refl)
more_by false true h = refl
more_by false false h = refl

never_unwritten : (failed grew : Bool) → is_unwritten (cond failed Unread (cond grew More End)) ≡ false
never_unwritten true grew = refl
never_unwritten false true = refl
never_unwritten false false = refl

unread_ends : (n : Next) → is_unread n ≡ true → is_more n ≡ false
unread_ends More h = sym h
unread_ends End h = refl
unread_ends Unread h = refl
unread_ends Unwritten h = refl

-- and behind a write
by_writing : (wrote : Bool) → (is_more (cond wrote More Unwritten) ≡ not (is_unwritten (cond wrote More Unwritten))) × (is_unread (cond wrote More Unwritten) ≡ false)
by_writing true = (refl, refl)
by_writing false = (refl, refl)

-- nothing was whole: the bytes wait in front of what was read
waited : {S : Type 0} {M : Machine S} {s s' : S} {r : Read} {after written output : List ℕ} (held : ℕ) (before : List ℕ) → size_of (take held before) ≡ 0 → held < length before → Fed held before r after
    → s' ≡ s → output ≡ written → Turned M s held before written s' (fed_by held r) after output
unfolding joined outs state_after all_b
waited {r = r} {after = after} {written = written} held before z h f n o =
    record {
      said = [];
      whole = refl;
      kept = read_behind held r.held before after f.grows f.kept;
      replied = rw o (put_none written);
      later = n;
      answers = λ k. absurd (omega arith);
      reads = λ _. (refl, more_by r.failed (ltb held r.held) (none_more f), never_unwritten r.failed (ltb held r.held), unread_ends (fed_by held r).next);
      room = λ _. h;
    }

-- some messages were answered, and the rest moved to the start
module _ {S : Type 0} {M : Machine S} {s s' : S} {taken made : ℕ} {written output after : List ℕ} (held : ℕ) (before : List ℕ) (wrote : Bool) (some : taken ≡ 0 → ⊥) (h : held ≤ length before)
    (k : taken ≤ length (take held before)) (a : Answers M s (take held before) s' taken made written output) (e : after ≡ shifted before taken held) where
  answered : Turned M s held before written s' (gone (held - taken) made wrote) after output
  answered =
      let w = within held before h k in
      let n = some_cut a.said (take held before) a.cut k some in
      let f = front_whole taken a.said (take held before) a.whole a.cut n in
      record {
        said = a.said;
        whole = a.whole;
        kept = taken_off (joined a.said) held before h w a.cut e;
        replied = a.replied;
        later = a.after;
        answers = λ _. (n, none_brought held (held - taken) after (omega arith), (by_writing wrote).0, (by_writing wrote).1);
        reads = λ z. absurd (omega arith);
        room = λ z. absurd (omega arith);
      }

-- WHAT A PROGRAM'S TURN DOES, from what it answered and what it did behind that. The input has room for the longest
-- message, and the output for one answer
module _ {S : Type 0} {M : Machine S} {s s' : S} {a : Answered} {r : After} {written output after : List ℕ} (held : ℕ) (before : List ℕ) (room : ℕ) (h : held ≤ length before)
    (bytes : (k : ℕ) → get_or before k 0 < 256) (long : 65539 ≤ length before) (roomy : room ≤ length output) (k : a.taken ≤ length (take held before))
    (g : Answers M s (take held before) s' a.taken a.made written output) (all : a.made + room ≤ length output → size_of (drop a.taken (take held before)) ≡ 0)
    (w : Went a held before r after) (same : length after ≡ length before) where
  pub turned : (r.held ≤ length after) × Turned M s held before written s' r after output
  turned =
      split (eqb a.taken 0)
      (λ e.
      let none = eqb-true a.taken 0 e in
      let f = w.reads none in
      let n = none_written M none g in
      let z = no_size (take held before) output room none n.0 roomy all in
      let fits = f.1.within h in
      rw f.2 (fits, waited held before z (room_left held before bytes long h z) f.1 (none_changed M none g) n.1))
      (λ e.
      let some = eqb-false a.taken 0 e in
      let f = w.writes some in
      subst (λ (x : After). (x.held ≤ length after) × Turned M s held before written s' x after output) (sym f.1)
      (omega (arith, same), answered held before (more r) some h k g f.0))
