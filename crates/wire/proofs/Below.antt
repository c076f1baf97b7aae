-- A rule of every number below a bound is one test that antt computes.
use mathlib.Core.Path.{◌≡◌, refl, subst, sym}
use mathlib.Core.Bool.{Bool, true, false, ◌&&◌, beq}
use mathlib.Core.Logic.{⊎_elim}
use Prim.Native.Nat.{ℕ, zero, suc, ◌<◌}
use native.Mathlib.Nat.{le_of_suc-le-suc, not-suc-le-zero, eq-or-lt_of_le}
use lib.Dec.{T}
use mir.Facts.{and_yes}

abbrev pub every : (ℕ → Bool) → ℕ → Bool
every f zero = true
every f (suc n) = f n && every f n

pub below : (f : ℕ → Bool) (n : ℕ) → T (every f n) → (k : ℕ) → k < n → T (f k)
below f zero t k h = absurd (not-suc-le-zero h)
below f (suc n) t k h =
    ⊎_elim (λ e. subst (λ (m : ℕ). T (f m)) (sym e) (and_yes (f n) (every f n) t).0)
    (λ l. below f n (and_yes (f n) (every f n) t).1 k l)
    (eq-or-lt_of_le (le_of_suc-le-suc h))

pub beq→eq : (a b : Bool) → T (beq a b) → a ≡ b
beq→eq true true t = refl
beq→eq false false t = refl
beq→eq true false t = absurd t
beq→eq false true t = absurd t

-- two tests agree on every byte
pub bytes_agree : (f g : ℕ → Bool) → T (every (λ (n : ℕ). beq (f n) (g n)) 256) → (k : ℕ) → k < 256 → f k ≡ g k
bytes_agree f g t k h = beq→eq (f k) (g k) (below (λ (n : ℕ). beq (f n) (g n)) 256 t k h)
