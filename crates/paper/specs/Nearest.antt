-- Document 02, Item 12, the number itself: "the only whole number v with remainder lsb modulo M and −M/2 < v − p ≤ M/2.
-- So it is the nearest to p, and upward on a tie."
use Rattle.std.specs.Prelude.{◌≡◌, ℕ, ◌/◌, ◌≤◌, ℤ, pos, neg_ℤ, nat_abs, ◌+ℤ◌, ◌-ℤ◌, ◌*ℤ◌, ◌≤ℤ◌, ◌<ℤ◌}
use Rattle.paper.specs.Poc.{mod_z}

-- "with remainder lsb modulo M and −M/2 < v − p ≤ M/2"
pub record Nearest (M : ℕ) (p : ℤ) (l : ℕ) (v : ℤ) : Type 0 where
  pub rem : mod_z v M ≡ l
  pub above : neg_ℤ (pos (M / 2)) <ℤ (v -ℤ p)
  pub most : (v -ℤ p) ≤ℤ pos (M / 2)

-- "the nearest to p, and upward on a tie": no number of that remainder is nearer to p, and one that is as near is not
-- above it
pub record Closest (M : ℕ) (p : ℤ) (l : ℕ) (v : ℤ) : Type 0 where
  pub nearest : (w : ℤ) → mod_z w M ≡ l → nat_abs (v -ℤ p) ≤ nat_abs (w -ℤ p)
  pub upward : (w : ℤ) → mod_z w M ≡ l → nat_abs (w -ℤ p) ≡ nat_abs (v -ℤ p) → w ≤ℤ v

-- "the only whole number v": it is so, and no other is
pub record TheOnly (M : ℕ) (p : ℤ) (l : ℕ) (v : ℤ) : Type 0 where
  pub is : Nearest M p l v
  pub alone : (w : ℤ) → Nearest M p l w → w ≡ v
  pub closest : Closest M p l v

-- that number as one sum, for a program: p + M/2 − ((p + M/2 − l) mod M)
abbrev pub nearest_to : ℕ → ℤ → ℕ → ℤ
nearest_to M p l = (p +ℤ pos (M / 2)) -ℤ pos (mod_z ((p +ℤ pos (M / 2)) -ℤ pos l) M)

-- "the previous MSB is always a multiple of M"
pub record Multiple (M : ℕ) (z : ℤ) : Type 0 where
  pub times : ℤ
  pub is : z ≡ times *ℤ pos M
