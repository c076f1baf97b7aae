-- The bits of a word as truth values: what `&`, `|` and `!` make of them, that two words with the same bits are one
-- word, and that counting the zeros below the lowest set bit finds the lowest number whose bit is set. Assumes nothing.
use Prim.Native.Nat.{ℕ, zero, suc, ◌+◌, ◌-◌, ◌/◌, ◌%◌, ◌^◌, ◌≤◌, ◌<◌, min, max}
use mathlib.Core.Path.{◌≡◌, refl, sym, ap, ◌∙◌}
use mathlib.Core.Bool.{Bool, false, cond, not, ◌&&◌, ◌||◌}
use native.Mathlib.Omega.{arith}
use lib.Dec.{ltb, eqb}
use lib.Pow.{shr-shr}
use lib.Bits.{bit_and}
use lib.Count.{count_trailing_zeros, under}
use borrow.Author.Tests.{eqb-true, eqb-false, ltb-true, ltb-false}
use Rattle.std.specs.Int.{bit_at, w64, bit_not}
use Rattle.std.specs.Int.RustNames.{bit_or}
use Rattle.std.proofs.lemmas.Nat.Bits.{bit_at_and, bit_at_or, bit_at-lt, bit_at-zero, bit_at-pow_same, bit_at-pow_other, bit_at_ones, bit_at_ones_above, bit_at_not, bit_at_above, same_from_bits}
use Rattle.paper.specs.Numbers.{bit}
use Rattle.paper.proofs.Bools.{split}
use Rattle.pool.specs.Pool.{lowest_from}

-- ---- bit by bit

-- two digits that are 1 together are the same
digits_same : (x y : ℕ) → x < 2 → y < 2 → eqb x 1 ≡ eqb y 1 → x ≡ y
digits_same x y h k e = grind arith

min_says : (x y : ℕ) → x < 2 → y < 2 → eqb (min x y) 1 ≡ (eqb x 1 && eqb y 1)
min_says x y h k = grind arith

max_says : (x y : ℕ) → x < 2 → y < 2 → eqb (max x y) 1 ≡ (eqb x 1 || eqb y 1)
max_says x y h k = grind arith

not_says : (x : ℕ) → x < 2 → eqb (1 - x) 1 ≡ not (eqb x 1)
not_says x h = grind arith

pub bit_and_lem : (i a b : ℕ) → bit i (bit_and a b) ≡ (bit i a && bit i b)
unfolding bit
bit_and_lem i a b = rw (bit_at_and a b i) (min_says (bit_at a i) (bit_at b i) (bit_at-lt a i) (bit_at-lt b i))

pub bit_or_lem : (i a b : ℕ) → bit i (bit_or a b) ≡ (bit i a || bit i b)
unfolding bit
bit_or_lem i a b = rw (bit_at_or a b i) (max_says (bit_at a i) (bit_at b i) (bit_at-lt a i) (bit_at-lt b i))

pub bit_zero : (i : ℕ) → bit i 0 ≡ false
unfolding bit
bit_zero i = rw (bit_at-zero i)

above : (i a : ℕ) → a < 2 ^ 64 → 64 ≤ i → bit i a ≡ false
unfolding bit
above i a h k = rw (bit_at_above a 64 i h k)

within : (i a : ℕ) → a < 2 ^ 64 → i < 64 → bit i (bit_not w64 a) ≡ not (bit i a)
unfolding bit
within i a h k = rw (bit_at_not w64 a i h k) (not_says (bit_at a i) (bit_at-lt a i))

-- a word without the bits of another
pub bit_clear : (i a b : ℕ) → a < 2 ^ 64 → b < 2 ^ 64 → bit i (bit_and a (bit_not w64 b)) ≡ (bit i a && not (bit i b))
bit_clear i a b h k =
    bit_and_lem i a (bit_not w64 b)
    ∙ split (ltb i 64)
    (λ e. ap (λ (c : Bool). bit i a && c) (within i b k (ltb-true i 64 e)))
    (λ e. rw (above i a h (ltb-false i 64 e)))

-- one bit alone
pub bit_one : (i x : ℕ) → bit i (2 ^ x) ≡ eqb i x
unfolding bit
bit_one i x =
    split (eqb i x)
    (λ e. let q : i ≡ x = eqb-true i x e in rw (e, q, bit_at-pow_same x))
    (λ e. rw (e, bit_at-pow_other x i (eqb-false i x e)))

-- all bits below n
pub bit_ones : (i n : ℕ) → bit i (2 ^ n - 1) ≡ ltb i n
unfolding bit
bit_ones i n =
    split (ltb i n)
    (λ e. rw (e, bit_at_ones n i (ltb-true i n e)))
    (λ e. rw (e, bit_at_ones_above n i (ltb-false i n e)))

-- two words with the same bits are one word
pub bits_same : (a b : ℕ) → ((i : ℕ) → bit i a ≡ bit i b) → a ≡ b
unfolding bit
bits_same a b e = same_from_bits a b (λ i. digits_same (bit_at a i) (bit_at b i) (bit_at-lt a i) (bit_at-lt b i) (e i))

-- ---- the lowest set bit

pub lowest_same : (f g : ℕ → Bool) → ((i : ℕ) → f i ≡ g i) → (n x : ℕ) → lowest_from f n x ≡ lowest_from g n x
unfolding lowest_from
lowest_same f g e zero x = refl
lowest_same f g e (suc n) x = rw (e x, lowest_same f g e n (x + 1))

pub lowest_bit : (w n x : ℕ) → lowest_from (λ i. bit i w) n x ≡ x + count_trailing_zeros n (w / 2 ^ x)
unfolding lowest_from count_trailing_zeros bit
lowest_bit w zero x = omega arith
lowest_bit w (suc n) x = go (w / 2 ^ x % 2) (bit_at-lt w x) (lowest_bit w n (x + 1) ∙ ap (λ (m : ℕ). x + 1 + count_trailing_zeros n m) (sym (shr-shr w x 1)))
  where
    go : (d : ℕ) → d < 2 → lowest_from (λ i. bit i w) n (x + 1) ≡ x + 1 + count_trailing_zeros n (w / 2 ^ x / 2)
        → cond (eqb d 1) x (lowest_from (λ i. bit i w) n (x + 1)) ≡ x + under d (count_trailing_zeros n (w / 2 ^ x / 2))
    go zero h e = e ∙ omega arith
    go (suc zero) h e = omega arith
    go (suc (suc d)) h e = absurd (omega arith)
