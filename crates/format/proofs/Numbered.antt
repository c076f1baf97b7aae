-- The numbers of kinds: what a record of another number is, and what `kind` answers as a number.
use Prim.Native.Nat.{ℕ, ◌<◌}
use mathlib.Core.Path.{◌≡◌}
use mathlib.Core.List.{List}
use mathlib.Core.Bool.{false}
use native.Mathlib.Omega.{arith}
use lib.Dec.{leb}
use borrow.Author.Tests.{leb-false, le-leb, lt-leb, ne_eqb}
use Rattle.paper.specs.Records.{kind_of, body_ok}
use Rattle.paper.proofs.Bools.{split}
use Rattle.format.specs.Kind.{is_number}

module _ (r : List ℕ) where
  low : kind_of r < 1 → body_ok r ≡ false
  low h = rw (ne_eqb (kind_of r) 1 (omega arith), ne_eqb (kind_of r) 2 (omega arith), ne_eqb (kind_of r) 3 (omega arith), lt-leb 4 (kind_of r) (omega arith))

  high : 8 < kind_of r → body_ok r ≡ false
  high h = rw (ne_eqb (kind_of r) 1 (omega arith), ne_eqb (kind_of r) 2 (omega arith), ne_eqb (kind_of r) 3 (omega arith), le-leb 4 (kind_of r) (omega arith), lt-leb (kind_of r) 8 h)

  -- a record of no kind's number has no length that is right
  pub no_kind : is_number (kind_of r) ≡ false → body_ok r ≡ false
  no_kind h =
      split (leb 1 (kind_of r))
      (λ a. high (leb-false (kind_of r) 8 (rw a at h)))
      (λ a. low (leb-false 1 (kind_of r) a))
