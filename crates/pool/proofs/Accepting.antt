-- A pool whose session has accepted a record holds what the session holds, and on each surface at most one picture
-- waits or one return is pending. The reply releases what no line lies on any more, and hands out what wanted to be
-- shown; and a begin was given a surface that nothing lay on and nothing was pending on.
use Prim.Native.Nat.{ℕ, ◌+◌, ◌≤◌, ◌<◌}
use mathlib.Core.Path.{◌≡◌, refl, sym, ap, ◌∙◌, subst}
use mathlib.Core.List.{List, [], ◌∷◌}
use mathlib.Core.Bool.{Bool, true, false, cond, not, ◌&&◌, ◌||◌, or-true, and-false}
use native.Mathlib.Omega.{arith}
use lib.Dec.{ltb, eqb}
use borrow.Author.Tests.{ltb-true, ltb-false, lt-ltb, le-ltb, eq-eqb, ne_eqb, eqb-true, not-true}
use Rattle.paper.specs.declared.Line.{Line}
use Rattle.paper.specs.Words.{all_b}
use Rattle.paper.specs.Numbers.{surface_nos}
use Rattle.paper.specs.State.{Session}
use Rattle.paper.specs.Replies.{Reply}
use Rattle.paper.specs.Step.{Result, step_of}
use Rattle.paper.specs.Ledger.{Ledger, lines_of, tell, hear, read_reply}
use Rattle.paper.specs.Accounts.{count, surfaces, begun_in, tail_in}
use Rattle.paper.specs.Statement.{ledger_of}
use Rattle.paper.proofs.Bools.{left, right, split}
use Rattle.paper.proofs.Flow.{hit, sep_once}
use Rattle.paper.proofs.Tidy.{Tidy, tidy_hear}
use Rattle.paper.proofs.LedgerTold.{hear_tell, told_step, sound_step}
use Rattle.paper.proofs.Sound.{Sound}
use Rattle.session.specs.Target.{is_begin, with_surface}
use Rattle.pool.specs.Pool.{Pool, no_surface, is_free}
use Rattle.pool.specs.Calls.{named, shown_on, told as afterwards, accounted}
use Rattle.pool.proofs.Surfaces.{lying, wanted, wanted_lies, Shifts, shifts}
use Rattle.session.proofs.Targets.{with_bytes, with_begin, with_surface_lem}
use Rattle.pool.proofs.Replied.{hears_it, begun_on, begun_none}

abbrev pub lines_in : Pool → List Line
lines_in p = lines_of (ledger_of p.session)

-- what every call keeps
pub record Fair (p : Pool) : Type 0 where
  pub sound : Sound p.session
  pub tidy : Tidy (ledger_of p.session)
  pub few : p.surfaces ≤ no_surface
  pub held : (i : ℕ) → p.held i ≡ ltb 0 (lying i (lines_in p))
  pub own : (i : ℕ) → p.surfaces ≤ i → lying i (lines_in p) ≡ 0
  pub one : (i : ℕ) → p.pending i + wanted i (lines_in p) ≤ 1

-- a free surface: one of the pool's, on which nothing lies and nothing is pending
pub record IsFree (p : Pool) (x : ℕ) : Type 0 where
  pub its : x < p.surfaces
  pub bare : lying x (lines_in p) ≡ 0
  pub back : p.pending x ≡ 0

pub is_free_lem : (p : Pool) (x : ℕ) → Fair p → is_free p x ≡ true → IsFree p x
is_free_lem p x g f =
    let k = right (ltb x p.surfaces) _ f in
    let h : p.held x ≡ false = not-true (p.held x) (left (not (p.held x)) _ k) in
    let z = ltb-false 0 (lying x (lines_in p)) (sym (g.held x) ∙ h) in
    record { its = ltb-true x p.surfaces (left (ltb x p.surfaces) _ f); bare = omega (arith, z); back = eqb-true (p.pending x) 0 (right (not (p.held x)) _ k) }

-- held before and not released, or begun: something lies there. Of one surface: whether it is the pool's, and the one
-- given; how many lines lay there, were begun there, lie there, and were released there
lies_now : (a e : Bool) (before begun now gone : ℕ) → before + begun ≡ now + gone → begun ≤ now → before ≤ 1 → begun ≡ cond (a && e) 1 0 → (a ≡ false → before ≡ 0)
    → ((ltb 0 before && eqb (cond a gone 0) 0) || (a && e)) ≡ ltb 0 now
lies_now true true before begun now gone sum less most is own = rw (or-true (ltb 0 before && eqb gone 0), lt-ltb 0 now (omega (arith, less, is)))
lies_now true false before begun now gone sum less most is own =
    split (ltb 0 now)
    (λ p. let h = ltb-true 0 now p in rw (p, lt-ltb 0 before (omega (arith, h, sum, is, most)), eq-eqb gone 0 (omega (arith, h, sum, is, most))))
    (λ p.
    let h = ltb-false 0 now p in
    split (ltb 0 before)
    (λ q. let k = ltb-true 0 before q in rw (p, q, ne_eqb gone 0 (λ z. omega (arith, h, k, sum, is, z))))
    (λ q. rw (p, q)))
lies_now false e before begun now gone sum less most is own =
    let z : before ≡ 0 = own refl in
    rw (le-ltb 0 before (omega (arith, z)), le-ltb 0 now (omega (arith, z, sum, is)))

-- a name counts where the surface is one of the pool's, and no other is named
named_is : (a : Bool) (m : ℕ) → (a ≡ false → m ≡ 0) → cond a m 0 ≡ m
named_is true m h = refl
named_is false m h = sym (h refl)

-- the surface that a record of this pool is taken with
pub record Taken (p : Pool) (r : List ℕ) (x : ℕ) : Type 0 where
  pub begin : is_begin r ≡ true → IsFree p x
  pub other : is_begin r ≡ false → x ≡ no_surface

module _ (p : Pool) (g : Fair p) (r : List ℕ) (b : all_b (λ (y : ℕ). ltb y 256) r ≡ true) (x : ℕ) (f : Taken p r x) where
  abbrev s : Session
  s = p.session

  abbrev q : List ℕ
  q = with_surface x r

  abbrev d : Result
  d = step_of s q 512

  abbrev reply : Reply
  reply = read_reply p.reading d.bytes

  abbrev begun : List Line
  begun = begun_in q reply

  bq : all_b (λ (y : ℕ). ltb y 256) q ≡ true
  bq = with_bytes x r b

  next_is : tell (ledger_of s) q reply ≡ ledger_of d.next
  next_is = told_step p.reading s q g.sound bq

  pub tells : hear (ledger_of s) q reply ≡ ledger_of d.next
  tells = hear_tell (ledger_of s) q reply (hears_it p.reading s q g.sound bq) ∙ next_is

  shift : Shifts (ledger_of s) q reply
  shift = shifts (ledger_of s) q reply g.tidy.apart (ap (λ (L : Ledger). L.ok) next_is)

  tidy_next : Tidy (ledger_of d.next)
  tidy_next = subst Tidy tells (tidy_hear (ledger_of s) q reply g.tidy (ap (λ (L : Ledger). L.ok) tells))

  -- of each surface: it is begun on exactly if it is the one given, and then nothing lies there and nothing is pending
  record At (i : ℕ) : Type 0 where
    is : lying i begun ≡ cond (ltb i p.surfaces && eqb i x) 1 0
    bare : lying i begun + lying i (lines_in p) ≤ 1
    back : lying i begun + p.pending i ≤ 1

  module _ (z : d.number ≡ 0) where
    at_given : is_begin r ≡ true → (i : ℕ) → At i
    unfolding count
    at_given is i =
        let k = f.begin is in
        let e : surfaces begun ≡ x ∷ [] =
        begun_on p.reading s q g.sound bq (with_begin x r ∙ is) z ∙ ap (λ (y : ℕ). y ∷ []) (with_surface_lem x r is (omega (arith, k.its, g.few))) in
        let c : lying i begun ≡ hit i x + 0 = ap (count i) e in
        split (eqb i x)
        (λ y.
        let t : i ≡ x = eqb-true i x y in
        let l : lying i (lines_in p) ≡ 0 = ap (λ (j : ℕ). lying j (lines_in p)) t ∙ k.bare in
        let m : p.pending i ≡ 0 = ap p.pending t ∙ k.back in
        let w : hit i x ≡ 1 = rw y in
        record {
          is = rw (y, lt-ltb i p.surfaces (omega (arith, t, k.its))) (omega (arith, c, w));
          bare = omega (arith, c, w, l);
          back = omega (arith, c, w, m);
        })
        (λ y.
        let w : hit i x ≡ 0 = rw y in
        record {
          is = rw (y, and-false (ltb i p.surfaces)) (omega (arith, c, w));
          bare = omega (arith, c, w, sep_once i (lines_in p) g.tidy.apart);
          back = omega (arith, c, w, g.one i);
        })

    at_other : is_begin r ≡ false → (i : ℕ) → At i
    unfolding count
    at_other no-begin i =
        let e : begun ≡ [] = begun_none p.reading s q g.sound bq (with_begin x r ∙ no-begin) z in
        let c : lying i begun ≡ 0 = ap (lying i) e in
        let y : x ≡ 64 = f.other no-begin in
        let w : ◌≡◌ {A = ℕ} (cond (ltb i p.surfaces && eqb i x) 1 0) 0 =
        split (ltb i p.surfaces)
        (λ t. rw (t, ne_eqb i x (λ u. omega (arith, u, y, ltb-true i p.surfaces t, g.few))))
        (λ t. rw t) in
        record {
          is = c ∙ sym w;
          bare = omega (arith, c, sep_once i (lines_in p) g.tidy.apart);
          back = omega (arith, c, g.one i);
        }

    at : (i : ℕ) → At i
    at i = split (is_begin r) (λ e. at_given e i) (λ e. at_other e i)

    abbrev next : Pool
    next = accounted p d.next x d.bytes

    abbrev released : ℕ → ℕ
    released i = count i (surface_nos (tail_in reply).released)

    abbrev handed : ℕ → ℕ
    handed i = count i (surface_nos (shown_on (tail_in reply).handed))

    -- what lies on each surface after it, and wants to be shown
    lies_next : (i : ℕ) → lying i (lines_of (tell (ledger_of s) q reply)) ≡ lying i (lines_of (ledger_of d.next))
    lies_next i = ap (λ (L : Ledger). lying i (lines_of L)) next_is

    wants_next : (i : ℕ) → wanted i (lines_of (tell (ledger_of s) q reply)) ≡ wanted i (lines_of (ledger_of d.next))
    wants_next i = ap (λ (L : Ledger). wanted i (lines_of L)) next_is

    -- nothing begins, lies or is named where the pool has no surface
    foreign : (i : ℕ) → ltb i p.surfaces ≡ false → (lying i (lines_in p) ≡ 0) × (lying i begun ≡ 0)
    foreign i e = (g.own i (ltb-false i p.surfaces e), (at i).is ∙ rw e)

    handed_is : (i : ℕ) → named p.surfaces (shown_on (tail_in reply).handed) i ≡ handed i
    handed_is i =
        named_is (ltb i p.surfaces) (handed i)
        (λ e. let k = foreign i e in omega (arith, k.0, k.1, shift.wants i, wanted_lies i (lines_in p), wanted_lies i begun))

    -- each handing out adds one pending return
    pub pending_next : (i : ℕ) → next.pending i ≡ p.pending i + handed i
    unfolding afterwards
    pending_next i = ap (λ (m : ℕ). p.pending i + m) (handed_is i)

    held_next : (i : ℕ) → next.held i ≡ ltb 0 (lying i (lines_of (ledger_of d.next)))
    unfolding afterwards
    held_next i =
        ap (λ (h : Bool). (h && eqb (named p.surfaces (tail_in reply).released i) 0) || (ltb i p.surfaces && eqb i x)) (g.held i)
        ∙ lies_now (ltb i p.surfaces) (eqb i x) (lying i (lines_in p)) (lying i begun) (lying i (lines_of (ledger_of d.next))) (released i)
        (omega (arith, shift.lies i, lies_next i)) (omega (arith, shift.begun i, lies_next i)) (sep_once i (lines_in p) g.tidy.apart) (at i).is (λ e. (foreign i e).0)

    pub fair_next : Fair next
    unfolding afterwards
    fair_next =
        record {
          sound = sound_step s q g.sound bq;
          tidy = tidy_next;
          few = g.few;
          held = held_next;
          own = λ i h. let k = foreign i (le-ltb i p.surfaces h) in omega (arith, k.0, k.1, shift.lies i, lies_next i);
          one = λ i. omega (arith, pending_next i, shift.wants i, wants_next i, wanted_lies i begun, wanted_lies i (lines_in p), (at i).bare, (at i).back, g.one i);
        }
