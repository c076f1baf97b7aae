-- The wishes of a begin as the code writes them.
use Rattle.std.specs.Prelude.{ℕ, ◌<◌, ◌≡◌, List, map, Bool, true, false, length, ℤ, Result, Ok, Err}
use Rattle.paper.specs.declared.Wish.{Wish}
use Rattle.paper.specs.Words.{all_b, table}
use Rattle.paper.specs.Records.{short_at, long_at}
use Rattle.paper.specs.Sets.{Wishes, short_wish, long_wish, wish_in32, wishes_in32}
use Rattle.derivation.specs.declared.Outside.{Outside}
use Rattle.store.specs.Runs.{wish_at, wishes_at, wishes_in}

-- the wishes of n short-term entries from `at`, and of n long-term ones
abbrev pub shorts_at : ℤ → List ℕ → ℕ → ℕ → List Wish
shorts_at p r at n = map (short_wish p) (table (short_at r at) n)

abbrev pub longs_at : ℕ → ℤ → List ℕ → ℕ → ℕ → List Wish
longs_at M p r at n = map (long_wish M p) (table (long_at r at) n)

-- whether it is answered that all POCs lie in i32
abbrev pub all_inside : Result (Unit {0}) Outside → Bool
all_inside (Ok x) = true
all_inside (Err e) = false

-- some wishes, if all of their POCs lie in i32, from a place on; those before it are as they were
pub record WantsAll (asked : List Wish) (from : ℕ) (ws : List Wish) (r : Result (Unit {0}) Outside)
    (ws' : List Wish) : Type 0 where
  pub inside : all_inside r ≡ all_b wish_in32 asked
  pub items : all_inside r ≡ true → wishes_at ws' from (length asked) ≡ asked
  pub before : (j : ℕ) → j < from → wish_at ws' j ≡ wish_at ws j

-- the wishes of a begin: not number 6, and then neg, pos and lt ones one behind the other
pub record HoldsWishes (w : Wishes) (neg pos lt : ℕ) (r : Result (Unit {0}) Outside) (ws : List Wish) : Type 0 where
  pub inside : all_inside r ≡ wishes_in32 w
  pub items : all_inside r ≡ true → wishes_in ws neg pos lt ≡ w
