-- Words and numbers as bytes, and what a writer leaves in a buffer.
use Rattle.std.specs.Prelude.{ℕ, zero, suc, ◌+◌, ◌/◌, ◌%◌, ◌≤◌, ◌≡◌, List, [], ◌∷◌, ◌++◌, cond, length, ltb, ℤ, pos, negsuc}
use Prim.Native.Char.{code}
use Prim.Native.String.{String, len, char_at}
use Rattle.std.proofs.lemmas.List.Edits.{sets}

-- the bytes of a plain text: n characters from place i on, and all of them
abbrev pub ascii_from : ℕ → ℕ → String → List ℕ
ascii_from zero i s = []
ascii_from (suc n) i s = code (char_at s i) ∷ ascii_from n (suc i) s

abbrev pub ascii : String → List ℕ
ascii s = ascii_from (len s) 0 s

-- the decimal digits of a number, the most significant first and no 0 in front: at most k of them. No number of 64 bits
-- has more than 20
unfoldable pub digits : ℕ → ℕ → List ℕ
digits zero n = []
digits (suc k) n = cond (ltb n 10) ((48 + n) ∷ []) (digits k (n / 10) ++ ((48 + n % 10) ∷ []))

unfoldable pub decimal : ℕ → List ℕ
decimal n = digits 20 n

-- a minus sign in front of a number below 0
unfoldable pub integer : ℤ → List ℕ
integer (pos n) = decimal n
integer (negsuc n) = ascii "-" ++ decimal (n + 1)

-- What a writer leaves: the text at its place, all else as it was. It gives the place behind the text, at most `most`
-- bytes on
pub record Wrote (before : List ℕ) (at : ℕ) (text : List ℕ) (most r : ℕ) (after : List ℕ) : Type 0 where
  pub place : r ≡ at + length text
  pub fits : r ≤ at + most
  pub bytes : after ≡ sets before at text
