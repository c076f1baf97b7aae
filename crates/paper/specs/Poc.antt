-- Begin, step 2: picture order count (8.3.1).
use Rattle.std.specs.Prelude.{ℕ, suc, ◌-◌, ◌/◌, ◌%◌, ◌^◌, Bool, false, cond, ◌&&◌, ltb, leb, eqb, ℤ, pos, negsuc, ◌+ℤ◌, ◌-ℤ◌}
use Rattle.std.specs.Int.Signed.{mag}
use Rattle.std.specs.Prelude.{Option, None, Some}
use Rattle.paper.specs.declared.Tid0.{Tid0}

-- the previous Tid0 picture of this lsb and this MSB
abbrev pub tid0 : ℕ → ℤ → Option Tid0
tid0 q Q = Some (record { lsb = q; msb = Q })

-- "MSB 0 for .. no previous Tid0 picture. Else with previous lsb q and MSB Q: lsb < q and q − lsb ≥ M/2 gives Q + M;
-- lsb > q and lsb − q > M/2 gives Q − M; else Q."
unfoldable pub msb_of : ℕ → Option Tid0 → ℕ → ℤ
msb_of M None lsb = pos 0
msb_of M (Some p) lsb =
    cond (ltb lsb p.lsb && leb (M / 2) (p.lsb - lsb)) (p.msb +ℤ pos M)
    (cond (ltb p.lsb lsb && ltb (M / 2) (lsb - p.lsb)) (p.msb -ℤ pos M)
    p.msb)

-- "POC = MSB + lsb"
abbrev pub poc_of : ℕ → Option Tid0 → ℕ → ℤ
poc_of M q lsb = msb_of M q lsb +ℤ pos lsb

-- "The remainder of a negative POC is the low k bits, never negative."
abbrev pub mod_z : ℤ → ℕ → ℕ
mod_z (pos n) m = n % m
mod_z (negsuc n) m = m - suc (n % m)

-- an i32 holds it
abbrev pub in32 : ℤ → Bool
in32 z = ltb (mag z) (2 ^ 31)

abbrev pub eq_z : ℤ → ℤ → Bool
eq_z (pos a) (pos b) = eqb a b
eq_z (negsuc a) (negsuc b) = eqb a b
eq_z (pos a) (negsuc b) = false
eq_z (negsuc a) (pos b) = false
