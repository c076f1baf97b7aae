-- A stream of records or of replies, cut by their heads.
use Rattle.std.specs.Prelude.{ℕ, zero, suc, ◌≡◌, ◌+◌, ◌<◌, List, [], ◌∷◌, ◌++◌, Bool, cond, length, take, drop, leb, eqb}
use Rattle.std.specs.Prelude.{Option, MatchOption}
use Rattle.paper.specs.Kinds.{body_place}
use Rattle.paper.specs.Records.{length_of}

-- "u16 body length, u16 kind, body": the size of the first one of these bytes, 0 where some of it is not there
abbrev pub size_of : List ℕ → ℕ
size_of l = cond (leb body_place (length l)) (cond (leb (body_place + length_of l) (length l)) (body_place + length_of l) 0) 0

-- the same where it is all there, and none where some of it is not
abbrev pub WholeIn : List ℕ → Option ℕ → Type 0
WholeIn l r = MatchOption r (size_of l ≡ 0) (λ n. (n ≡ size_of l) × (0 < n))

-- one after the other, nothing between
unfoldable pub joined : List (List ℕ) → List ℕ
joined [] = []
joined (r ∷ rs) = r ++ joined rs

-- "exactly head plus body"
abbrev pub is_whole : List ℕ → Bool
is_whole r = eqb (length r) (body_place + length_of r)

-- the whole records or replies at the front of some bytes, and what is left behind them
pub record Parts : Type 0 where
  pub whole : List (List ℕ)
  pub rest : List ℕ

abbrev pub behind : List (List ℕ) → Parts → Parts
behind said p = record { whole = said ++ p.whole; rest = p.rest }

-- at most n of them
unfoldable pub parts_in : ℕ → List ℕ → Parts
parts_in zero l = record { whole = []; rest = l }
parts_in (suc n) l =
    cond (eqb (size_of l) 0) (record { whole = []; rest = l })
    (behind (take (size_of l) l ∷ []) (parts_in n (drop (size_of l) l)))

-- a file cut by the heads in it; there are no more of them than bytes
abbrev pub parts : List ℕ → Parts
parts file = parts_in (length file) file

abbrev pub cut : List ℕ → List (List ℕ)
cut file = (parts file).whole

-- no whole one begins there
abbrev pub rest_of : List ℕ → List ℕ
rest_of file = (parts file).rest
