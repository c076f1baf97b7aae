-- The replies of a file are all of its bytes, and none of them is empty: a file is cut into whole ones and what is
-- left, and what is left is one more only where it has a byte.
use Prim.Native.Nat.{ℕ, ◌+◌}
use mathlib.Core.Path.{◌≡◌, refl, ap, ◌∙◌}
use mathlib.Core.List.{List, [], ◌∷◌, ◌++◌, append-nil}
use mathlib.Core.Bool.{Bool, true}
use native.Mathlib.Omega.{arith}
use lib.Dec.{ltb}
use lib.ListN.{length}
use borrow.Author.Tests.{eqb-true, lt-ltb}
use Rattle.paper.specs.Words.{all_b}
use Rattle.paper.specs.Records.{length_of}
use Rattle.paper.proofs.Bools.{both, all_mono}
use Rattle.format.specs.Cut.{joined, is_whole, cut, rest_of}
use Rattle.format.proofs.Cutting.{is_cut, joined_append, all_append}
use Rattle.compare.specs.Lines.{last_of}
use Rattle.compare.specs.Facts.{Counted}

last_joins : (rest : List ℕ) → joined (last_of rest) ≡ rest
unfolding joined last_of
last_joins [] = refl
last_joins (b ∷ bs) = append-nil (b ∷ bs)

abbrev some : List ℕ → Bool
some r = ltb 0 (length r)

last_some : (rest : List ℕ) → all_b some (last_of rest) ≡ true
unfolding all_b last_of
last_some [] = refl
last_some (b ∷ bs) = both (lt-ltb 0 (length (b ∷ bs)) (omega arith)) refl

whole_some : (r : List ℕ) → is_whole r ≡ true → some r ≡ true
whole_some r w = let e : length r ≡ 4 + length_of r = eqb-true (length r) (4 + length_of r) w in lt-ltb 0 (length r) (omega arith)

-- NO BYTE IS LOST, NO REPLY IS EMPTY
pub counted : (file : List ℕ) → Counted file
counted file =
    let k = is_cut file in
    record {
      no_byte_lost = joined_append (cut file) (last_of (rest_of file)) ∙ ap (λ (x : List ℕ). joined (cut file) ++ x) (last_joins (rest_of file)) ∙ k.joins;
      none_empty = all_append some (cut file) (last_of (rest_of file)) (all_mono is_whole some whole_some (cut file) k.whole) (last_some (rest_of file));
      whole = k.whole;
      incomplete = k.none;
    }
