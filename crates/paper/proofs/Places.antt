-- What stands at a place of a list: it splits the list there. Assumes nothing.
use mathlib.Core.Path.{◌≡◌}
use mathlib.Core.List.{List, [], ◌∷◌, ◌++◌}
use Prim.Native.Nat.{ℕ, ◌+◌, ◌≤◌, ◌<◌}
use native.Mathlib.Numerals.{add-one}
use lib.ListN.{length, take, drop, get_or, drop_of_length-le}
use lib.Seq.{drop-cons, take-suc}

-- what is left of a list from a place on
pub at_cons : {A : Type 0} (l : List A) (i : ℕ) (d : A) → i < length l → drop i l ≡ get_or l i d ∷ drop (i + 1) l
at_cons l i d lt = rw (add-one, drop-cons l i d lt)

pub at_end : {A : Type 0} (l : List A) (i : ℕ) → length l ≤ i → drop i l ≡ []
at_end l i le = drop_of_length-le l {i = i} le

-- the front of a list, with one element more
pub take_more : {A : Type 0} (l : List A) (i : ℕ) (d : A) → i < length l → take (i + 1) l ≡ take i l ++ (get_or l i d ∷ [])
take_more l i d lt = rw (add-one, take-suc l i d lt)
