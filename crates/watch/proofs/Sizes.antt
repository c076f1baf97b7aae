-- Where nothing is whole.
use Prim.Native.Nat.{ℕ, ◌-◌}
use mathlib.Core.Path.{◌≡◌, sym}
use mathlib.Core.List.{List}
use lib.ListN.{length, take, drop}
use Rattle.format.specs.Cut.{size_of}
use Rattle.format.proofs.Fitting.{size_at}

-- where the part that runs to the end has no whole one, none is there
pub none_at : (l : List ℕ) (k : ℕ) → size_of (take (length l - k) (drop k l)) ≡ 0 → size_of (drop k l) ≡ 0
none_at l k e = sym (size_at l k (sym e))
