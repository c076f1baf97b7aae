-- The words of a pool as marks: what the helpers of `step`, `make` and `give_back` answer and leave, bit by bit.
use Rattle.std.specs.Prelude.{ℕ, ◌+◌, ◌*◌, min, ◌≡◌, List, map, Bool, not, ◌&&◌, ◌||◌, ltb, eqb}
use Rattle.std.specs.List.{range_with_len}
use Rattle.paper.specs.declared.Surface.{Surface}
use Rattle.paper.specs.Numbers.{u32, bit, a_surface}
use Rattle.paper.specs.Output.{Tail}
use Rattle.store.specs.StoreWords.{word}
use Rattle.pool.specs.declared.tails.Tail as Code
use Rattle.pool.specs.Pool.{surface_limit}
use Rattle.pool.specs.Calls.{named, shown_on}
use Rattle.pool.specs.Memory.{SURFACES, HELD, PENDING}

-- how many surfaces these words say
abbrev pub surfaces_of : List ℕ → ℕ
surfaces_of ws = min (word ws SURFACES) surface_limit

-- the number i is that of surface x, which is one of n
abbrev pub is_of : ℕ → ℕ → ℕ → Bool
is_of n x i = ltb i n && eqb i x

-- some surfaces name i, which is one of n
unfoldable pub hit : ℕ → List Surface → ℕ → Bool
hit n xs i = not (eqb (named n xs i) 0)

-- a word that has the bits of these surfaces alone
abbrev pub BitsOf : ℕ → List Surface → ℕ → Type 0
BitsOf n xs w = (i : ℕ) → bit i w ≡ hit n xs i

-- the surfaces that stand in a reply, so many bytes apart from a place on
abbrev pub surfaces_in : List ℕ → ℕ → ℕ → ℕ → List Surface
surfaces_in r at width count = map (λ i. a_surface (u32 r (at + width * i))) (range_with_len 0 count)

-- what a tail tells of n surfaces, as bits
pub record Tells (n : ℕ) (t : Tail) (a : Code.Tail) : Type 0 where
  pub handed : BitsOf n (shown_on t.handed) a.handed
  pub released : BitsOf n t.released a.released

-- the words once a tail was told and surface x was begun on: what is released is held no more, then x is held; what is
-- handed out is pending
pub record Told (ws : List ℕ) (x : ℕ) (t : Tail) (ws' : List ℕ) : Type 0 where
  pub surfaces : word ws' SURFACES ≡ word ws SURFACES
  pub held : (i : ℕ)
      → bit i (word ws' HELD)
      ≡ ((bit i (word ws HELD) && not (hit (surfaces_of ws) t.released i)) || is_of (surfaces_of ws) x i)
  pub pending : (i : ℕ)
      → bit i (word ws' PENDING) ≡ (bit i (word ws PENDING) || hit (surfaces_of ws) (shown_on t.handed) i)
