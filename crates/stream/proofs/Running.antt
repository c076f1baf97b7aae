-- A loop that takes turn after turn keeps this: some turns led here.
use Prim.Native.Nat.{ℕ, ◌<◌}
use mathlib.Core.Path.{◌≡◌}
use mathlib.Core.List.{List, [], ◌∷◌, ◌++◌}
use mathlib.Core.Bool.{Bool, true, false}
use native.Mathlib.Omega.{arith}
use lib.Dec.{eqb}
use borrow.Author.Tests.{eqb-true, eqb-false}
use Rattle.paper.proofs.Bools.{split, not_both}
use Rattle.stream.specs.Turns.{Ran, through}

pub record Reached {S : Type 0} (Starts : S → Type 0) (Turns : S → S → Type 0) (s : S) : Type 0 where
  pub turns : List S
  pub ran : Ran Starts Turns turns s

module _ {S : Type 0} (Starts : S → Type 0) (Turns : S → S → Type 0) where
  -- no turn yet, and one turn more
  pub no_turn : (s : S) → Starts s → Reached Starts Turns s
  unfolding Ran
  no_turn s g = record { turns = []; ran = g }

  pub next_turn : (b s : S) → Reached Starts Turns b → Turns b s → Reached Starts Turns s
  unfolding Ran
  next_turn b s r t = record { turns = b ∷ r.turns; ran = (r.ran, t) }

-- a whole one waits before a turn, or none does
pub waits_or_not : {X : Type 0} (size : ℕ) → (size ≡ 0 → X) → (0 < size → X) → X
waits_or_not size none some = split (eqb size 0) (λ e. none (eqb-true size 0 e)) (λ e. let z = eqb-false size 0 e in some (omega arith))

-- what holds where a run starts, and of one turn more, holds of all its turns
module _ {S : Type 0} {Starts : S → Type 0} {Turns : S → S → Type 0} (P : List S → S → Type 0) (begins : (s : S) → Starts s → P [] s)
    (goes : (earlier : List S) (b s : S) → P earlier b → Turns b s → P (b ∷ earlier) s) where
  pub over_turns : (turns : List S) (s : S) → Ran Starts Turns turns s → P turns s
  unfolding Ran
  over_turns [] s r = begins s r
  over_turns (b ∷ earlier) s r = goes earlier b s (over_turns earlier b r.0) r.1

-- and what holds where it starts and behind each turn holds where it ends
module _ {S : Type 0} {Starts : S → Type 0} {Turns : S → S → Type 0} (P : S → Type 0) (begins : (s : S) → Starts s → P s) (goes : (b s : S) → Turns b s → P s) where
  pub at_end : (turns : List S) (s : S) → Ran Starts Turns turns s → P s
  at_end = over_turns (λ (_ : List S) (s : S). P s) begins (λ earlier b s p. goes b s)

-- so what holds of nothing read and nothing written where it starts, and of one turn more, holds of all that its turns
-- read and wrote
module _ {S : Type 0} {Starts : S → Type 0} {Turns : S → S → Type 0} (f g : S → S → List ℕ) (P : List ℕ → List ℕ → S → Type 0) (begins : (s : S) → Starts s → P [] [] s)
    (goes : (R W : List ℕ) (b s : S) → P R W b → Turns b s → P (R ++ f b s) (W ++ g b s) s) where
  pub by_turns : (turns : List S) (s : S) → Ran Starts Turns turns s → P (through f turns s) (through g turns s) s
  unfolding through
  by_turns = over_turns (λ (turns : List S) (s : S). P (through f turns s) (through g turns s) s) begins (λ earlier b s. goes (through f earlier b) (through g earlier b) b s)

-- so far while the run goes on, and then the end
module _ {S : Type 0} {Starts : S → Type 0} {Turns : S → S → Type 0} (f g : S → S → List ℕ) (more : S → Bool) (SoFar End : List ℕ → List ℕ → S → Type 0)
    (begins : (s : S) → Starts s → (more s ≡ true) × SoFar [] [] s) (on : (b s : S) → Turns b s → more b ≡ true)
    (goes : (R W : List ℕ) (b s : S) → SoFar R W b → Turns b s → more s ≡ true → SoFar (R ++ f b s) (W ++ g b s) s)
    (ends : (R W : List ℕ) (b s : S) → SoFar R W b → Turns b s → more s ≡ false → End (R ++ f b s) (W ++ g b s) s) where
  abbrev Told : List ℕ → List ℕ → S → Type 0
  Told R W s = (more s ≡ true → SoFar R W s) × (more s ≡ false → End R W s)

  told_none : (s : S) → Starts s → Told [] [] s
  told_none s b = let k = begins s b in (λ _. k.1, not_both (more s) k.0)

  told_on : (R W : List ℕ) (b s : S) → Told R W b → Turns b s → Told (R ++ f b s) (W ++ g b s) s
  told_on R W b s p t = let k = p.0 (on b s t) in (goes R W b s k t, ends R W b s k t)

  pub to_the_end : (turns : List S) (s : S) → Ran Starts Turns turns s → more s ≡ false → End (through f turns s) (through g turns s) s
  to_the_end turns s r = (by_turns f g Told told_none told_on turns s r).1
