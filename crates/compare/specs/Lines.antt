-- Document 02, Item 5: two files of replies, compared. The lines, and their text, as functions of the bytes of the two
-- files.
use Rattle.std.specs.Prelude.{ℕ, ◌+◌, List, [], ◌∷◌, ◌++◌, Bool, true, false, cond, ◌&&◌, eqb}
use Rattle.paper.specs.Words.{flat}
use Rattle.format.specs.Cut.{cut, rest_of}
use Rattle.stream.specs.Text.{ascii, decimal}

-- "An incomplete last reply counts as a reply of the bytes it has."
unfoldable pub last_of : List ℕ → List (List ℕ)
last_of [] = []
last_of (b ∷ bs) = (b ∷ bs) ∷ []

-- a file of replies, cut by the heads in it; what is left behind the last whole one is the last
abbrev pub replies_of : List ℕ → List (List ℕ)
replies_of file = cut file ++ last_of (rest_of file)

-- "Replies differ when any byte does."
unfoldable pub same : List ℕ → List ℕ → Bool
same [] [] = true
same [] (y ∷ ys) = false
same (x ∷ xs) [] = false
same (x ∷ xs) (y ∷ ys) = eqb x y && same xs ys

-- "P the first byte place inside the reply that differs, or the shorter length": the bytes in front of it are equal
unfoldable pub first_place : List ℕ → List ℕ → ℕ
first_place [] ys = 0
first_place (x ∷ xs) [] = 0
first_place (x ∷ xs) (y ∷ ys) = cond (eqb x y) (first_place xs ys + 1) 0

-- "it writes `N differ P` .., `N only first` or `N only second`"
pub data Line : Type 0 where
  Differ : ℕ → ℕ → Line
  OnlyFirst : ℕ → Line
  OnlySecond : ℕ → Line

-- "nothing for equal replies"
abbrev pub differ : ℕ → List ℕ → List ℕ → List Line
differ n a b = cond (same a b) [] (Differ n (first_place a b) ∷ [])

-- "one line each, in order": the replies of two files from number n on
unfoldable pub lines_from : ℕ → List (List ℕ) → List (List ℕ) → List Line
lines_from n [] [] = []
lines_from n (a ∷ first) [] = OnlyFirst n ∷ lines_from (n + 1) first []
lines_from n [] (b ∷ second) = OnlySecond n ∷ lines_from (n + 1) [] second
lines_from n (a ∷ first) (b ∷ second) = differ n a b ++ lines_from (n + 1) first second

-- "For reply numbers from 0": TWO FILES OF REPLIES, COMPARED
abbrev pub compared : List ℕ → List ℕ → List Line
compared first second = lines_from 0 (replies_of first) (replies_of second)

-- A line as text: its numbers in decimal, and a line feed at its end
unfoldable pub line_text : Line → List ℕ
line_text (Differ n p) = decimal n ++ ascii " differ " ++ decimal p ++ ascii "\n"
line_text (OnlyFirst n) = decimal n ++ ascii " only first\n"
line_text (OnlySecond n) = decimal n ++ ascii " only second\n"

-- and what is written of two files
abbrev pub compared_text : List ℕ → List ℕ → List ℕ
compared_text first second = flat line_text (compared first second)
