-- The answers to some messages, one after the other.
use Rattle.std.specs.Prelude.{ℕ, ◌+◌, ◌≤◌, ◌≡◌, List, true, length, take}
use Rattle.paper.specs.Words.{all_b}
use Rattle.format.specs.Cut.{joined, is_whole}
use Rattle.stream.specs.Laid.{laid_at, Puts}
use Rattle.filter.specs.Machine.{Machine, outs, state_after}

-- an answer of `len` bytes put behind the first `made` bytes, and the state after it
pub record Added {S : Type 0} (M : Machine S) (s : S) (r : List ℕ) (made : ℕ) (before : List ℕ) (len : ℕ) (s' : S)
    (after : List ℕ) : Type 0 where
  pub fits : made + len ≤ length before
  pub long : len ≡ length (M.out s r)
  pub bytes : after ≡ laid_at made (M.out s r) before
  pub next : s' ≡ M.next s r

-- the first `taken` bytes are whole messages; the machine's answers to them are put into the output, and its state is
-- that after them
pub record Answers {S : Type 0} (M : Machine S) (s : S) (input : List ℕ) (s' : S) (taken made : ℕ)
    (before output : List ℕ) : Type 0 where
  pub said : List (List ℕ)
  pub whole : all_b is_whole said ≡ true
  pub cut : take taken input ≡ joined said
  pub replied : Puts made (joined (outs M s said)) before output
  pub after : s' ≡ state_after M s said
