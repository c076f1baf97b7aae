-- No line, and no byte of text, exactly if the two files are equal: no line says that the replies are equal one by one,
-- no byte of a file is outside its replies, and each line has some text. With it all that Item 5 asks.
use Prim.Native.Nat.{ℕ, ◌+◌, ◌<◌}
use mathlib.Core.Path.{◌≡◌, refl, sym, ap, ap₂, ◌∙◌}
use mathlib.Core.List.{List, [], ◌∷◌, ◌++◌}
use native.Mathlib.Omega.{arith}
use lib.ListN.{length, length-append}
use Rattle.stream.specs.Text.{ascii, decimal}
use Rattle.paper.specs.Words.{flat}
use Rattle.paper.proofs.Bools.{split}
use Rattle.format.specs.Cut.{joined}
use Rattle.compare.specs.Lines.{replies_of, same, Line, Differ, OnlyFirst, OnlySecond, lines_from, compared, line_text, compared_text}
use Rattle.compare.specs.Facts.{Item5}
use Rattle.compare.proofs.Counting.{counted}
use Rattle.compare.proofs.Placing.{same_equal, same_self}
use Rattle.compare.proofs.Numbering.{lines_of, only_lines}

none_none : {l : Line} {ls : List Line} {X : Type 0} → l ∷ ls ≡ [] → X
none_none e = let n = ap length e in absurd (omega arith)

equal_replies : (n : ℕ) (xs ys : List (List ℕ)) → lines_from n xs ys ≡ [] → xs ≡ ys
unfolding lines_from
equal_replies n [] [] e = refl
equal_replies n (a ∷ xs) [] e = none_none e
equal_replies n [] (b ∷ ys) e = none_none e
equal_replies n (a ∷ xs) (b ∷ ys) e =
    split (same a b)
    (λ s. ap₂ (λ (l : List ℕ) (ls : List (List ℕ)). l ∷ ls) (same_equal a b s) (equal_replies (n + 1) xs ys (rw s at e)))
    (λ s. none_none (rw s at e))

no_lines : (n : ℕ) (xs : List (List ℕ)) → lines_from n xs xs ≡ []
unfolding lines_from
no_lines n [] = refl
no_lines n (a ∷ xs) = rw (same_self a) (no_lines (n + 1) xs)

line_some : (l : Line) → 0 < length (line_text l)
unfolding line_text
line_some (Differ n p) =
    let a = length-append (decimal n ++ ascii " differ " ++ decimal p) (ascii "\n") in
    omega arith
line_some (OnlyFirst n) = let a = length-append (decimal n) (ascii " only first\n") in omega arith
line_some (OnlySecond n) = let a = length-append (decimal n) (ascii " only second\n") in omega arith

text_none : (ls : List Line) → flat line_text ls ≡ [] → ls ≡ []
unfolding flat
text_none [] e = refl
text_none (l ∷ ls) e =
    let a = length-append (line_text l) (flat line_text ls) in
    let b = ap length e in
    let c = line_some l in
    absurd (omega arith)

module _ (first second : List ℕ) where
  pub no_line : compared first second ≡ [] → first ≡ second
  no_line e =
      sym (counted first).no_byte_lost ∙ ap joined (equal_replies 0 (replies_of first) (replies_of second) e) ∙ (counted second).no_byte_lost

  pub equal_files : first ≡ second → compared first second ≡ []
  equal_files e = ap (compared first) (sym e) ∙ no_lines 0 (replies_of first)

  pub no_text : compared_text first second ≡ [] → first ≡ second
  no_text e = no_line (text_none (compared first second) e)

  pub equal_text : first ≡ second → compared_text first second ≡ []
  unfolding flat
  equal_text e = ap (flat line_text) (equal_files e)

  -- WHAT ITEM 5 ASKS, OF ANY TWO FILES
  pub as_asked : Item5 first second
  as_asked =
      record {
        lines = lines_of first second;
        only = only_lines first second;
        no_line = (no_line, equal_files);
        no_text = (no_text, equal_text);
      }
