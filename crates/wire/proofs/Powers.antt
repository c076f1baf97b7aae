-- Bytes, the powers of two, and masks of them.
use Rattle.std.proofs.Common.{ℕ, zero, suc, ◌≡◌, ◌∙◌, ◌*◌, ◌^◌, ◌-◌, ◌/◌, ◌%◌, ◌<◌, ◌≤◌, bit_and, true, not, nat_eq, lt-ltb, ltb, eqb, arith, refl, ap}
use Rattle.std.proofs.Math.Pow.{pow_mono, pow-lt}
use Rattle.std.proofs.Math.Nat.{div-eq_of_lt, mod-eq_of_lt, mod-lt}
use Rattle.std.proofs.lemmas.Nat.{and_mask, pow_pos}
use Rattle.std.proofs.lemmas.Nat.Bits.{and_pow}
use Rattle.std.proofs.lemmas.Bool.{ne_eqb, ltb-false, ltb-true}
use Rattle.paper.specs.Numbers.{bit}
use Rattle.paper.proofs.Bools.{split}
use Rattle.paper.proofs.Moves.{same_eqb}

-- a byte is below 2 to the 8, and below each higher power
below_power : (f n : ℕ) → f < 256 → 8 ≤ n → f < 2 ^ n
below_power f n h k = let p : 2 ^ 8 ≤ 2 ^ n = pow_mono k in omega (arith, h, p)

pub all_spare : (f n : ℕ) → f < 256 → 8 ≤ n → ltb f (2 ^ n) ≡ true
all_spare f n h k = lt-ltb f (2 ^ n) (below_power f n h k)

-- so it has no digits from the eighth on
pub no_digit : (f n : ℕ) → f < 256 → 8 ≤ n → f / 2 ^ n ≡ 0
no_digit f n h k = div-eq_of_lt (below_power f n h k)

-- each lower power is a byte
a_byte : (n : ℕ) → n < 8 → 1 * 2 ^ n % 256 ≡ 2 ^ n
a_byte n h = let p : 2 ^ n < 2 ^ 8 = pow-lt h in let e : 1 * 2 ^ n ≡ 2 ^ n = omega arith in rw e (mod-eq_of_lt p)

-- the mask of one bit leaves nothing where the bit is 0, and else its power
one_left : (m : ℕ) → 0 < m → (x : ℕ) → x < 2 → not (nat_eq (x * m) 0) ≡ eqb x 1
one_left zero p x l = absurd (omega arith)
one_left (suc m) p zero l = let e : 0 * suc m ≡ 0 = omega arith in rw e refl
one_left (suc m) p (suc zero) l = let e : 1 * suc m ≡ suc m = omega arith in rw (e, ne_eqb (suc m) 0 (λ z. omega (arith, z))) refl
one_left (suc m) p (suc (suc x)) l = absurd (omega arith)

pub masked : (f n : ℕ) → n < 8 → not (nat_eq (bit_and f (1 * 2 ^ n % 256)) 0) ≡ bit n f
unfolding bit
masked f n h =
    ap (λ (m : ℕ). not (nat_eq (bit_and f m) 0)) (a_byte n h)
    ∙ ap (λ (m : ℕ). not (nat_eq m 0)) (and_pow f n)
    ∙ one_left (2 ^ n) (pow_pos n) (f / 2 ^ n % 2) (mod-lt (f / 2 ^ n) (omega arith))

-- the mask of the bits below one leaves a number as it is exactly where no other is set
pub all_kept : (f n : ℕ) → n < 8 → nat_eq (bit_and f (1 * 2 ^ n % 256 - 1)) f ≡ ltb f (2 ^ n)
all_kept f n h =
    ap (λ (m : ℕ). nat_eq (bit_and f (m - 1)) f) (a_byte n h)
    ∙ ap (λ (m : ℕ). nat_eq m f) (and_mask f n)
    ∙ split (ltb f (2 ^ n))
    (λ t. let l : f < 2 ^ n = ltb-true f (2 ^ n) t in rw (mod-eq_of_lt l, t) (same_eqb f))
    (λ t. rw (t, ne_eqb (f % 2 ^ n) f (λ z. omega (arith, z, ltb-false f (2 ^ n) t, mod-lt f (pow_pos n)))) refl)
