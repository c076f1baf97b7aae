-- In every session the previous Tid0 picture's MSB is a multiple of M and its lsb is below M; so the POC of an accepted
-- begin is the nearest to its predecessor's.
use Prim.Native.Nat.{ℕ, ◌-◌, ◌/◌, ◌≤◌, ◌<◌, min}
use mathlib.Core.Path.{◌≡◌, refl, sym, ap, ◌∙◌}
use mathlib.Core.List.{List, [], ◌∷◌}
use mathlib.Core.Bool.{Bool, true, false, not, ◌&&◌, ◌||◌}
use native.Mathlib.Omega.{arith}
use lib.Dec.{eqb, ltb, leb}
use lib.IntN.{ℤ, pos, suc_ℤ, pred_ℤ, ◌+ℤ◌, ◌-ℤ◌, suc_ℤ-*ℤ, pred_ℤ-*ℤ, zero-*ℤ}
use borrow.Author.Tests.{ltb-true, leb-true}
use Rattle.paper.specs.declared.Limits.{Limits}
use Rattle.paper.specs.declared.Current.{Current}
use Rattle.paper.specs.Words.{all_b}
use Rattle.paper.specs.Records.{Fields, limits_of, fields_of}
use Rattle.paper.specs.State.{Session, fresh, on_now, modulus}
use Rattle.paper.specs.Nal.{taken, irap, idr}
use Rattle.paper.specs.Ranges.{long_ok, entries_of, falling, rising, begin_ranges, configure_ranges}
use Rattle.paper.specs.Poc.{msb_of}
use Rattle.paper.specs.Nearest.{TheOnly, Multiple}
use Rattle.paper.specs.Begin.{starts_over, prev_for, msb, poc, begun_current}
use Rattle.paper.specs.Calls.{prev_after, prev_now}
use Rattle.paper.specs.Step.{Decided, decide_of, step_of, session_after}
use Rattle.paper.proofs.Bools.{not_both, by_case}
use Rattle.paper.proofs.Nearest.{poc_rule}
use Rattle.paper.proofs.Ways.{Accepted, yes_of, by_ways}
use Rattle.std.proofs.Common.{Option, None, Some}
use Rattle.paper.specs.declared.Tid0.{Tid0}
use Rattle.paper.specs.Poc.{tid0}

abbrev pub PrevOk : ℕ → Option Tid0 → Type 0
PrevOk M None = Unit {0}
PrevOk M (Some p) = (p.lsb < M) × Multiple M p.msb

abbrev pub NowOk : ℕ → Option Current → Type 0
NowOk M None = Unit {0}
NowOk M (Some c) = (c.lsb < M) × Multiple M c.msb

pub record InStep (s : Session) : Type 0 where
  pub prev : PrevOk (modulus s.limits) s.prev
  pub now : NowOk (modulus s.limits) s.current
  pub wide : s.configured ≡ true → 4 ≤ s.limits.k

msb_multiple : (M : ℕ) (p : Option Tid0) (l : ℕ) → PrevOk M p → Multiple M (msb_of M p l)
unfolding msb_of
msb_multiple M None l a = record { times = pos 0; is = sym (zero-*ℤ (pos M)) }
msb_multiple M (Some p) l a =
    let m = a.1 in
    by_case (Multiple M) (ltb l p.lsb && leb (M / 2) (p.lsb - l)) _ _
    (λ _. record { times = suc_ℤ m.times; is = ap (λ (z : ℤ). z +ℤ pos M) m.is ∙ sym (suc_ℤ-*ℤ m.times (pos M)) })
    (λ _.
    by_case (Multiple M) (ltb p.lsb l && ltb (M / 2) (l - p.lsb)) _ _
    (λ _. record { times = pred_ℤ m.times; is = ap (λ (z : ℤ). z -ℤ pos M) m.is ∙ sym (pred_ℤ-*ℤ m.times (pos M)) })
    (λ _. m))

fifth : (x e f g h i j : Bool) → (x && e && f && g && h && i && j) ≡ true → e ≡ true
fifth true true f g h i j k = refl
fifth true false f g h i j k = k
fifth false e f g h i j k = not_both false k refl

pub lsb_below : (M : ℕ) (f : Fields) → begin_ranges M f ≡ true → f.lsb < M
unfolding begin_ranges
lsb_below M f e =
    ltb-true f.lsb M
    (fifth (taken f.nal && leb f.tid 6 && (not (irap f.nal) || eqb f.tid 0) && ltb f.flags 4) (ltb f.lsb M) (all_b (long_ok M) f.lt)
    (leb (entries_of f) 16) (falling (ℤ.pos 0) f.neg) (rising (ℤ.pos 0) f.pos) (not (idr f.nal) || (eqb f.lsb 0 && eqb (entries_of f) 0)) e)

prev_after_lem : (M : ℕ) (q : Option Tid0) (c : Current) → PrevOk M q → NowOk M (Some c) → PrevOk M (prev_after q c)
prev_after_lem M q c a b = by_case (PrevOk M) c.valid (tid0 c.lsb c.msb) q (λ _. b) (λ _. a)

four_bits : (l : Limits) → configure_ranges l ≡ true → 4 ≤ l.k
unfolding configure_ranges
four_bits l e = leb-true 4 l.k (first_of (leb 4 l.k) _ _ _ _ _ e)
  where
    first_of : (a b c d e f : Bool) → (a && b && c && d && e && f) ≡ true → a ≡ true
    first_of true b c d e f h = refl
    first_of false b c d e f h = h

record Steps (d : Decided) : Type 0 where
  in_step : InStep d.next

module _ (s : Session) (r : List ℕ) (i : InStep s) where
  abbrev M : ℕ
  M = modulus s.limits

  begun_ok : (f : Fields) → Accepted s f → NowOk M (Some (begun_current s f))
  unfolding begun_current msb
  begun_ok f z =
      (lsb_below M f z.ranges, msb_multiple M (prev_for s f) f.lsb (by_case (PrevOk M) (starts_over s f) None s.prev (λ _. tt) (λ _. i.prev)))

  now_prev : PrevOk M (prev_now s)
  now_prev = go s.current i.now
    where
      go : (x : Option Current) → NowOk M x → PrevOk M (on_now x s.prev (prev_after s.prev))
      go None a = i.prev
      go (Some c) a = prev_after_lem M s.prev c i.prev a

  finish_prev : (c : Current) → s.current ≡ Some c → PrevOk M (prev_after s.prev c)
  finish_prev c e = prev_after_lem M s.prev c i.prev (rw e at i.now)

  pub in_step_lem : InStep (decide_of s r).next
  in_step_lem =
      (by_ways s r Steps
      (record {
        malformed = record { in_step = i };
        no = λ kind n k g b l h. record { in_step = i };
        configure = λ k a b. record { in_step = record { prev = tt; now = tt; wide = λ _. omega (arith, four_bits (limits_of r) a) } };
        begin = λ k z. record { in_step = record { prev = i.prev; now = begun_ok (fields_of r) z; wide = i.wide } };
        lists = λ k c e z. record { in_step = i };
        finish = λ k c e z. record { in_step = record { prev = finish_prev c e; now = tt; wide = i.wide } };
        drain = λ k a. record { in_step = record { prev = now_prev; now = tt; wide = i.wide } };
        discard = λ k. record { in_step = record { prev = i.prev; now = tt; wide = i.wide } };
        end = λ k. record { in_step = record { prev = i.prev; now = i.now; wide = i.wide } };
        abandon = λ k c e. record { in_step = record { prev = i.prev; now = tt; wide = i.wide } };
      })).in_step

pub in_step_fresh : InStep fresh
in_step_fresh = record { prev = tt; now = tt; wide = λ e. absurd (let z : ◌≡◌ {A = ℕ} 0 1 = cc in omega arith) }

always_in_step : (s : Session) (rs : List (List ℕ)) → InStep s → InStep (session_after s rs)
unfolding session_after step_of
always_in_step s [] i = i
always_in_step s (r ∷ rs) i = always_in_step (decide_of s r).next rs (in_step_lem s r i)

-- "the previous MSB is always a multiple of M, also after configure, drain, discard and abandon"
pub in_step_after : (rs : List (List ℕ)) → InStep (session_after fresh rs)
in_step_after rs = always_in_step fresh rs in_step_fresh

-- POC in one line: of an accepted begin that does not start over, with a previous Tid0 picture of lsb q and MSB Q
pub poc_in_one_line : (s : Session) (f : Fields) (q : ℕ) (Q : ℤ) → InStep s → Accepted s f → starts_over s f ≡ false → s.prev ≡ tid0 q Q
    → TheOnly (modulus s.limits) (Q +ℤ pos q) f.lsb (poc s f)
unfolding poc
poc_in_one_line s f q Q i z e p =
    let o : PrevOk (modulus s.limits) (tid0 q Q) = rw p at i.prev in
    let k : 4 ≤ min s.limits.k 16 = omega (arith, i.wide (yes_of s.configured z.configured)) in
    rw (e, p) (poc_rule (min s.limits.k 16) q f.lsb Q o.1.times k o.1.is o.0 (lsb_below (modulus s.limits) f z.ranges))
