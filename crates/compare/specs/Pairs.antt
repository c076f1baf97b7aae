-- Replies that wait in two buffers, taken pair by pair, and the lines of those pairs.
use Rattle.std.specs.Prelude.{ℕ, ◌+◌, ◌<◌, max, ◌≡◌, List, [], ◌++◌, Bool, true, false, cond, ◌&&◌, ◌||◌, ltb, eqb, length, drop}
use Rattle.paper.specs.Words.{flat}
use Rattle.format.specs.Cut.{size_of}
use Rattle.stream.specs.Laid.{Puts}
use Rattle.compare.specs.Lines.{last_of, replies_of, lines_from, line_text}
use Rattle.compare.specs.declared.Compared.{Compared}

-- "An incomplete last reply counts as a reply of the bytes it has": the size of the reply at the start of these bytes,
-- the last where the file has ended behind them. 0: no whole reply is there yet, or, where the file has ended, nothing
-- is left
abbrev pub reply_size : Bool → List ℕ → ℕ
reply_size ended l = cond (eqb (size_of l) 0 && ended) (length l) (size_of l)

-- a reply waits, or the end of the file does
abbrev pub ready : Bool → ℕ → Bool
ready ended size = ltb 0 size || ended

-- a reply waits in one of the files
abbrev pub some_left : ℕ → ℕ → Bool
some_left n m = ltb 0 n || ltb 0 m

-- the largest number of 64 bits, which no reply gets
abbrev pub most : ℕ
most = 18446744073709551615

-- a pair is compared: each file has a reply or has ended, a reply is left in one of them, and there is a number for it
abbrev pub goes_with : ℕ → Bool → ℕ → Bool → ℕ → Bool
goes_with number e n f m = ready e n && ready f m && some_left n m && ltb number most

abbrev pub goes : ℕ → Bool → List ℕ → Bool → List ℕ → Bool
goes number e first f second = goes_with number e (reply_size e first) f (reply_size f second)

-- what was taken of a block: the number behind it, so many bytes of each file, and so many bytes of lines
abbrev pub taken_at : ℕ → ℕ → ℕ → ℕ → Compared
taken_at number first second made = record { number = number; first = first; second = second; made = made }

-- the lines of replies that stand at one place of the two files, the first of which has this number
abbrev pub lines_text : ℕ → List (List ℕ) → List (List ℕ) → List ℕ
lines_text n firsts seconds = flat line_text (lines_from n firsts seconds)

-- the line of one pair; where a file has no more replies, its bytes are none
abbrev pub pair_text : ℕ → List ℕ → List ℕ → List ℕ
pair_text n a b = lines_text n (last_of a) (last_of b)

-- Some replies were taken of some bytes of a file, whatever stands behind these; behind the end of a file nothing does
abbrev pub Cuts : Bool → List ℕ → List (List ℕ) → List ℕ → Type 0
Cuts ended file taken rest =
    (more : List ℕ) → (ended ≡ true → more ≡ []) → replies_of (file ++ more) ≡ taken ++ replies_of (rest ++ more)

-- The pairs of a block. `firsts` and `seconds` are the replies that were taken of the first r.first and r.second
-- bytes; their lines are put into the output
pub record Paired (n : ℕ) (first : List ℕ) (e : Bool) (second : List ℕ) (f : Bool) (before : List ℕ) (r : Compared)
    (after : List ℕ) : Type 0 where
  pub firsts : List (List ℕ)
  pub seconds : List (List ℕ)
  pub cut_first : Cuts e first firsts (drop r.first first)
  pub cut_second : Cuts f second seconds (drop r.second second)
  pub lines : Puts r.made (lines_text n firsts seconds) before after
  pub number : r.number ≡ n + max (length firsts) (length seconds)
  -- one file gives fewer replies than the other only where it has ended and nothing of it is left
  pub fewer_firsts : length firsts < length seconds → (e ≡ true) × (r.first ≡ length first)
  pub fewer_seconds : length seconds < length firsts → (f ≡ true) × (r.second ≡ length second)
  -- where no pair waits nothing is taken
  pub none : goes n e first f second ≡ false → (r.first ≡ 0) × (r.second ≡ 0)
  -- and where nothing is taken there is no reply, else one at least
  pub some : r.first ≡ 0 → r.second ≡ 0 → (firsts ≡ []) × (seconds ≡ [])
  pub any : 0 < r.first + r.second → 0 < length firsts + length seconds
