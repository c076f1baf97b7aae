-- A machine that answers messages one after the other: what it answers in each of its states, and the state that it is
-- in then.
use Rattle.std.specs.Prelude.{ℕ, List, [], ◌∷◌}

pub record Machine (S : Type 0) : Type 0 where
  pub out : S → List ℕ → List ℕ
  pub next : S → List ℕ → S

-- its answers to some messages, and its state after them
unfoldable pub outs : {S : Type 0} → Machine S → S → List (List ℕ) → List (List ℕ)
outs M s [] = []
outs M s (r ∷ rs) = M.out s r ∷ outs M (M.next s r) rs

unfoldable pub state_after : {S : Type 0} → Machine S → S → List (List ℕ) → S
state_after M s [] = s
state_after M s (r ∷ rs) = state_after M (M.next s r) rs
