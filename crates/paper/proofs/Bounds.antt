-- What a ledger tells is within bounds where its lines are.
use Rattle.paper.specs.declared.Serial.{Serial}
use Rattle.paper.specs.declared.Surface.{Surface}
use Rattle.paper.specs.declared.Shown.{Shown}
use Rattle.paper.specs.Words.{all_b, any_b}
use Rattle.paper.specs.Numbers.{serial_nos, surface_nos, u32, missing, same_serial}
use Rattle.paper.specs.Poc.{in32}
use Rattle.paper.specs.Output.{Tail}
use Rattle.paper.specs.declared.Line.{Line}
use Rattle.paper.specs.Ledger.{Event, Hand, Throw, Free, waits_as, waits, lies, may, off, free, upon, may_all, upon_all, events, names}
use Prim.Native.Nat.{ℕ, zero, suc, ◌+◌, ◌<◌}
use mathlib.Core.Path.{◌≡◌, refl}
use mathlib.Core.List.{List, [], ◌∷◌, ◌++◌, map}
use mathlib.Core.Bool.{Bool, true, false, not, ◌||◌}
use native.Mathlib.Omega.{arith}
use lib.Dec.{eqb, ltb}
use lib.ListN.{get_or}
use borrow.Author.Tests.{eqb-true, ltb-true}
use Rattle.paper.proofs.Whole.{eq_z_true}
use Rattle.paper.proofs.Bools.{left, right, split, not_both}
use Rattle.paper.proofs.Events.{Runs, runs_first, runs_rest}
use Rattle.paper.proofs.Every.{All, all_keep, all_map}
use Rattle.paper.proofs.ReadBack.{Word, SerialWord, FitShown, FitTail}

pub record FitLine (e : Line) : Type 0 where
  pub serial : e.serial.0 < 4294967296
  pub surface : e.surface.0 < 4294967296
  pub poc : in32 e.poc ≡ true

-- some line of which f holds is within bounds
any_fit : {X : Type 0} (f : Line → Bool) (H : List Line) → All FitLine H → ((e : Line) → FitLine e → f e ≡ true → X) → any_b f H ≡ true → X
unfolding any_b
any_fit f [] a k h = not_both false h refl
any_fit f (e ∷ H) a k h = split (f e) (λ p. k e a.0 p) (λ p. any_fit f H a.1 k (rw p at h))

off_fit : (n : ℕ) (H : List Line) → All FitLine H → All FitLine (map (off n) H)
off_fit n H a = all_map FitLine FitLine (off n) (λ e f. record { serial = f.serial; surface = f.surface; poc = f.poc }) H a

upon_fit : (x : Event) (H : List Line) → All FitLine H → All FitLine (upon x H)
unfolding upon free
upon_fit (Hand x) H a = off_fit x.serial.0 H a
upon_fit (Throw n) H a = off_fit n.0 H a
upon_fit (Free x) H a = all_keep FitLine (λ (e : Line). not (lies x.0 e)) H a

upons_fit : (xs : List Event) (H : List Line) → All FitLine H → All FitLine (upon_all xs H)
unfolding upon_all
upons_fit [] H a = a
upons_fit (x ∷ xs) H a = upons_fit xs (upon x H) (upon_fit x H a)

fit_hands : (xs : List Shown) (H : List Line) → All FitLine H → may_all (map Hand xs) H ≡ true → All FitShown xs
unfolding may_all may
fit_hands [] H a m = tt
fit_hands (x ∷ xs) H a m = (
  any_fit (waits_as x) H a
      (λ e f h.
      let h1 = right e.wants _ h in
      let h2 = right (eqb x.serial.0 e.serial.0) _ h1 in
      let p : x.serial.0 ≡ e.serial.0 = eqb-true _ _ (left (eqb x.serial.0 e.serial.0) _ h1) in
      let q : x.surface.0 ≡ e.surface.0 = eqb-true _ _ (left (eqb x.surface.0 e.surface.0) _ h2) in
      let z : x.poc ≡ e.poc = eq_z_true x.poc e.poc (right (eqb x.surface.0 e.surface.0) _ h2) in
      record { serial = rw p f.serial; surface = rw q f.surface; poc = rw z f.poc })
      (left (may (Hand x) H) _ m),
  fit_hands xs (upon (Hand x) H) (upon_fit (Hand x) H a) (right (may (Hand x) H) _ m),
)

fit_throws : (ns : List Serial) (H : List Line) → All FitLine H → may_all (map Throw ns) H ≡ true → All Word (serial_nos ns)
unfolding may_all may
fit_throws [] H a m = tt
fit_throws (n ∷ ns) H a m = (
  any_fit (waits n.0) H a (λ e f h. let p : n.0 ≡ e.serial.0 = eqb-true _ _ (right e.wants _ h) in rw p f.serial) (left (may (Throw n) H) _ m),
  fit_throws ns (upon (Throw n) H) (upon_fit (Throw n) H a) (right (may (Throw n) H) _ m),
)

fit_frees : (ns : List Surface) (H : List Line) → All FitLine H → may_all (map Free ns) H ≡ true → All Word (surface_nos ns)
unfolding may_all may
fit_frees [] H a m = tt
fit_frees (n ∷ ns) H a m = (
  any_fit (lies n.0) H a (λ e f h. let p : n.0 ≡ e.surface.0 = eqb-true _ _ h in rw p f.surface) (left (any_b (lies n.0) H) _ (left (may (Free n) H) _ m)),
  fit_frees ns (upon (Free n) H) (upon_fit (Free n) H a) (right (may (Free n) H) _ m),
)

pub fit_tail : (t : Tail) (H K : List Line) → All FitLine H → Runs (events t) H K → FitTail t
fit_tail t H K a r =
    let hs = map Hand t.handed in
    let ts = map Throw t.thrown in
    let rs = map Free t.released in
    let r2 = runs_rest hs (ts ++ rs) r in
    let a2 = upons_fit hs H a in
    record {
      handed = fit_hands t.handed H a (runs_first hs (ts ++ rs) r).allowed;
      thrown = fit_throws t.thrown (upon_all hs H) a2 (runs_first ts rs r2).allowed;
      released = fit_frees t.released (upon_all ts (upon_all hs H)) (upons_fit ts (upon_all hs H) a2) (runs_rest ts rs r2).allowed;
    }

pub fit_names : (ns : List Serial) (H : List Line) → All FitLine H → names ns H ≡ true → All SerialWord ns
unfolding names all_b
fit_names [] H a e = tt
fit_names (n ∷ ns) H a e = (
  split (same_serial n missing) (λ p. let q : n.0 ≡ 4294967295 = eqb-true n.0 4294967295 p in omega arith)
      (λ p. any_fit (λ (x : Line). eqb n.0 x.serial.0) H a (λ x f h. let q : n.0 ≡ x.serial.0 = eqb-true _ _ h in rw q f.serial) (rw p at (left (same_serial n missing || any_b (λ (x : Line). eqb n.0 x.serial.0) H) _ e))),
  fit_names ns H a (right (same_serial n missing || any_b (λ (x : Line). eqb n.0 x.serial.0) H) _ e),
)

-- four bytes of a record
byte_small : (r : List ℕ) → all_b (λ (b : ℕ). ltb b 256) r ≡ true → (n : ℕ) → get_or r n 0 < 256
unfolding all_b
byte_small [] h n = omega arith
byte_small (b ∷ r) h zero = ltb-true b 256 (left (ltb b 256) _ h)
byte_small (b ∷ r) h (suc n) = byte_small r (right (ltb b 256) _ h) n

pub word_small : (r : List ℕ) → all_b (λ (b : ℕ). ltb b 256) r ≡ true → (n : ℕ) → u32 r n < 4294967296
word_small r h n = omega (arith, byte_small r h n, byte_small r h (n + 1), byte_small r h (n + 2), byte_small r h (n + 2 + 1))
