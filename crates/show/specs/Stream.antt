-- A stream of replies, and the lines of those that are whole.
use Rattle.std.specs.Prelude.{ℕ, ◌+◌, ◌≤◌, ◌≡◌, List, [], ◌∷◌, ◌++◌, true, length, take}
use Rattle.paper.specs.Words.{all_b}
use Rattle.paper.specs.declared.Reading.{Reading}
use Rattle.paper.specs.Reading.{further, further_all}
use Rattle.format.specs.Cut.{joined, is_whole}
use Rattle.stream.specs.Laid.{laid_at, Puts}
use Rattle.show.specs.Lines.{line_of, following}

-- the lines of replies, the first of which has this number, and the number behind the last
unfoldable pub lines_of : Reading → ℕ → List (List ℕ) → List ℕ
lines_of st n [] = []
lines_of st n (r ∷ rs) = line_of st n r ++ lines_of (further st r) (following n) rs

unfoldable pub number_after : ℕ → List (List ℕ) → ℕ
number_after n [] = n
number_after n (r ∷ rs) = number_after (following n) rs

-- a line put behind the first `made` bytes
pub record Added (st : Reading) (n : ℕ) (r : List ℕ) (made : ℕ) (before : List ℕ) (len : ℕ)
    (after : List ℕ) : Type 0 where
  pub size : len ≡ length (line_of st n r)
  pub fits : made + len ≤ length before
  pub bytes : after ≡ laid_at made (line_of st n r) before

-- the first `taken` bytes are whole replies, their lines are put into the output, `next` is the number behind the last,
-- and `on` what the reader carries behind it
pub record Lines (st : Reading) (n : ℕ) (input : List ℕ) (on : Reading) (next taken made : ℕ)
    (before output : List ℕ) : Type 0 where
  pub read : List (List ℕ)
  pub whole : all_b is_whole read ≡ true
  pub cut : take taken input ≡ joined read
  pub lines : Puts made (lines_of st n read) before output
  pub number : next ≡ number_after n read
  pub reading : on ≡ further_all st read
