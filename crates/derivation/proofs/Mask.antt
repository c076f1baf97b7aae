-- The mask 2^k - 1 on a whole number's two's complement is its remainder modulo 2^k.
use mathlib.Core.Path.{◌≡◌, refl, ap, ◌∙◌, subst}
use Prim.Native.Nat.{ℕ, suc, ◌+◌, ◌-◌, ◌*◌, ◌/◌, ◌%◌, ◌^◌, ◌<◌, ◌≤◌, min}
use native.Mathlib.Nat.{min-le_right, add-mul, suc-mul, mod-lt, div-add-mod', div-lt_iff_lt-mul}
use native.Mathlib.Omega.{arith}
use lib.Arith.{digits_mod}
use lib.Bits.{bit_and, and_mask}
use lib.Pow.{pow_pos, pow-add, pow_mono}
use lib.IntN.{ℤ, pos, negsuc}
use mir.Syntax.{Width, w32}
use mir.Val.{SFits, of_z, bits}
use mir.ValLaws.{half_full}
use Rattle.paper.specs.Poc.{mod_z}

-- A-as-P less n + 1, modulo P
comp_mod : (A P n : ℕ) → 0 < P → n < A * P → (A * P - suc n) % P ≡ P - suc (n % P)
comp_mod A P n p h =
    let r : n % P < P = mod-lt n p in
    let q : n / P < A = (div-lt_iff_lt-mul p).1 h in
    let B = A - suc (n / P) in
    let e : A * P ≡ B * P + (n / P * P + P) = ap (λ (x : ℕ). x * P) (split q) ∙ add-mul B (suc (n / P)) P ∙ ap (λ (x : ℕ). B * P + x) (suc-mul (n / P) P) in
    let s : A * P - suc n ≡ B * P + (P - suc (n % P)) = omega (arith, div-add-mod' n P) in
    ap (λ (x : ℕ). x % P) s ∙ digits_mod B (omega arith)
  where
    split : {a b : ℕ} → b < a → a ≡ (a - suc b) + suc b
    split h = omega arith

pub bits_mod : (w : Width) (k : ℕ) (z : ℤ) → k ≤ bits w → SFits w z → of_z w z % 2 ^ k ≡ mod_z z (2 ^ k)
bits_mod w k (pos n) l f = refl
bits_mod w k (negsuc n) l f =
    let e : 2 ^ bits w ≡ 2 ^ (bits w - k) * 2 ^ k = ap (λ (x : ℕ). 2 ^ x) (omega arith) ∙ pow-add 2 (bits w - k) k in
    ap (λ (x : ℕ). (x - suc n) % 2 ^ k) e
    ∙ comp_mod (2 ^ (bits w - k)) (2 ^ k) n (pow_pos k) (subst (λ (x : ℕ). n < x) e (half_full w f.sfits))

pub mask_is : (w : Width) (k : ℕ) (z : ℤ) → k ≤ bits w → SFits w z → bit_and (of_z w z) (2 ^ k - 1) ≡ mod_z z (2 ^ k)
mask_is w k z l f = and_mask (of_z w z) k ∙ bits_mod w k z l f

-- the same for M = 2^k as `modulus` gives it, on an i32
pub masked : (k m : ℕ) (z : ℤ) → SFits w32 z → m ≡ 2 ^ min k 16 → bit_and (of_z w32 z) (m - 1) ≡ mod_z z (2 ^ min k 16)
masked k m z f e = rw (e, mask_is w32 (min k 16) z (omega (arith, min-le_right k 16)) f)

-- 1 ≤ M ≤ 65536, for every k
pub pow_most : (k : ℕ) → 2 ^ min k 16 ≤ 65536
pow_most k = pow_mono (min-le_right k 16)
