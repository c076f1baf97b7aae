-- Document 02, Item 5, sentence by sentence: what the lines say of two files, whatever bytes the files have.
use Rattle.std.specs.Prelude.{ℕ, ◌≤◌, ◌<◌, min, ◌≡◌, ◌⊎◌, ◌↔◌, List, [], ◌∷◌, map, Bool, true, cond, ◌&&◌, ltb, eqb, length, get_or, take}
use Rattle.std.proofs.Math.Option.{Option, none, some}
use Rattle.std.proofs.Math.ListN.{get_elem?}
use Rattle.paper.specs.Words.{keep, all_b}
use Rattle.format.specs.Cut.{size_of, joined, is_whole, cut, rest_of}
use Rattle.compare.specs.Lines.{replies_of, same, first_place, Line, Differ, OnlyFirst, OnlySecond, compared}
use Rattle.compare.specs.Lines.{compared_text}

-- "An incomplete last reply counts as a reply of the bytes it has."
pub record Counted (file : List ℕ) : Type 0 where
  -- no byte of the file is left out, and no reply is empty
  pub no_byte_lost : joined (replies_of file) ≡ file
  pub none_empty : all_b (λ (r : List ℕ). ltb 0 (length r)) (replies_of file) ≡ true
  -- each but the last is exactly head plus body, and in what counts as the last no whole reply begins
  pub whole : all_b is_whole (cut file) ≡ true
  pub incomplete : size_of (rest_of file) ≡ 0

-- "Replies differ when any byte does.": they are the same exactly if they are equal, byte by byte and in their length
abbrev pub SameIsEqual : List ℕ → List ℕ → Type 0
SameIsEqual a b = (same a b ≡ true) ↔ (a ≡ b)

-- "P the first byte place inside the reply that differs, or the shorter length"
pub record IsPlace (a b : List ℕ) (P : ℕ) : Type 0 where
  pub equal_before : take P a ≡ take P b
  pub inside : (P ≤ length a) × (P ≤ length b)
  -- both have a byte there and these differ, or the bytes of the shorter one end there
  pub there : ((P < length a) × (P < length b) × (get_or a P 0 ≡ get_or b P 0 → ⊥)) ⊎ (P ≡ min (length a) (length b))

-- The place that a line names is such a place, and no other is
pub record Placed (a b : List ℕ) : Type 0 where
  pub is_place : IsPlace a b (first_place a b)
  pub only : (P : ℕ) → IsPlace a b P → P ≡ first_place a b

-- the reply number that a line begins with
abbrev pub number_of : Line → ℕ
number_of (Differ n p) = n
number_of (OnlyFirst n) = n
number_of (OnlySecond n) = n

-- "For reply numbers from 0 it writes `N differ P` .., `N only first` or `N only second`, ..; nothing for equal
-- replies": the lines of number n, by the reply of that number that each file has or has not
abbrev pub line_at : ℕ → Option (List ℕ) → Option (List ℕ) → List Line
line_at n none none = []
line_at n (some a) none = OnlyFirst n ∷ []
line_at n none (some b) = OnlySecond n ∷ []
line_at n (some a) (some b) = cond (same a b) [] (Differ n (first_place a b) ∷ [])

-- those of some lines that have number n
abbrev pub of_number : ℕ → List Line → List Line
of_number n = keep (λ (l : Line). eqb (number_of l) n)

-- "one line each, in order": each number is below the next
unfoldable pub rises : List ℕ → Bool
rises [] = true
rises (n ∷ []) = true
rises (n ∷ m ∷ ms) = ltb n m && rises (m ∷ ms)

-- Lines that are those of two files: a line for every number at which the files differ and no other, in order, each
-- number at most once
pub record AreLinesOf (first second : List ℕ) (lines : List Line) : Type 0 where
  pub each : (n : ℕ) → of_number n lines ≡ line_at n (get_elem? (replies_of first) n) (get_elem? (replies_of second) n)
  pub in_order : rises (map number_of lines) ≡ true

-- WHAT ITEM 5 ASKS OF THE LINES, AND OF THEIR TEXT
pub record Item5 (first second : List ℕ) : Type 0 where
  pub lines : AreLinesOf first second (compared first second)
  -- and no other lines are
  pub only : (lines : List Line) → AreLinesOf first second lines → lines ≡ compared first second
  -- "No line is written exactly if the files are equal."
  pub no_line : (compared first second ≡ []) ↔ (first ≡ second)
  pub no_text : (compared_text first second ≡ []) ↔ (first ≡ second)
