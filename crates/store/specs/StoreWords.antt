-- A store in lent words: sixteen places of six words, and behind them how many are used. Any words are some store: a
-- length over 16 counts as 16, a flag is on unless its word is 0, and a mark that is no number of one is none.
use Rattle.std.specs.Prelude.{ℕ, ◌+◌, ◌*◌, ◌≤◌, ◌<◌, min, ◌≡◌, Bool, cond, not, List, [], ◌∷◌, get_or, eqb}
use Rattle.std.specs.Int.{w32}
use Rattle.std.proofs.Common.{to_z, of_z}
use Rattle.paper.specs.Words.{table}
use Rattle.paper.specs.Numbers.{a_serial, a_surface}
use Rattle.paper.specs.declared.Mark.{Mark}
use Rattle.paper.specs.declared.Mark.TheVariants.{Unmarked, ShortTerm, LongTerm}
use Rattle.paper.specs.declared.Picture.{Picture}
use Rattle.store.specs.Walks.{blank}

abbrev pub word : List ℕ → ℕ → ℕ
word store i = get_or store i 0

abbrev pub flag_of : ℕ → Bool
flag_of x = not (eqb x 0)

abbrev pub flag_word : Bool → ℕ
flag_word b = cond b 1 0

abbrev pub mark_of : ℕ → Mark
mark_of x = cond (eqb x 1) ShortTerm (cond (eqb x 2) LongTerm Unmarked)

abbrev pub mark_word : Mark → ℕ
mark_word Unmarked = 0
mark_word ShortTerm = 1
mark_word LongTerm = 2

-- the picture at place i
unfoldable pub picture_at : List ℕ → ℕ → Picture
picture_at store i =
    record {
      serial = a_serial (word store (6 * i));
      surface = a_surface (word store (6 * i + 1));
      poc = to_z w32 (word store (6 * i + 2));
      mark = mark_of (word store (6 * i + 3));
      waiting = flag_of (word store (6 * i + 4));
      count = word store (6 * i + 5);
    }

-- those at the first n places
abbrev pub pictures : List ℕ → ℕ → List Picture
pictures store n = table (picture_at store) n

abbrev pub count_in : List ℕ → ℕ
count_in store = min (word store 96) 16

-- the stored pictures, in the order they came
abbrev pub stored : List ℕ → List Picture
stored store = pictures store (count_in store)

-- ---- the normal form: blank behind the length

-- the six words at place i, and those that a picture is written as
abbrev pub words_at : List ℕ → ℕ → List ℕ
words_at store i =
    word store (6 * i) ∷ word store (6 * i + 1) ∷ word store (6 * i + 2) ∷ word store (6 * i + 3)
    ∷ word store (6 * i + 4) ∷ word store (6 * i + 5) ∷ []

abbrev pub picture_words : Picture → List ℕ
picture_words p =
    p.serial.0 ∷ p.surface.0 ∷ of_z w32 p.poc ∷ mark_word p.mark ∷ flag_word p.waiting ∷ p.count ∷ []

-- place i is written as its picture is
abbrev pub Neat : List ℕ → ℕ → Type 0
Neat store i = words_at store i ≡ picture_words (picture_at store i)

-- place i of a store of which the first n places are used: written as its picture is, and behind those there is none
abbrev pub InOrder : List ℕ → ℕ → ℕ → Type 0
InOrder store n i = Neat store i × (n ≤ i → picture_at store i ≡ blank)

-- every place is, and behind the first n there is none
pub record Tidy (store : List ℕ) (n : ℕ) : Type 0 where
  pub neat : (i : ℕ) → i < 16 → Neat store i
  pub behind : (i : ℕ) → n ≤ i → i < 16 → picture_at store i ≡ blank

-- a store in normal form
pub record NormalForm (store : List ℕ) : Type 0 where
  pub few : word store 96 ≤ 16
  pub tidy : Tidy store (word store 96)

-- ---- changes where pictures stand

-- p is at place i now; all else is as it was, and where every place was written as its picture is, every place is
pub record Puts (i : ℕ) (p : Picture) (before after : List ℕ) : Type 0 where
  pub at : picture_at after i ≡ p
  pub others : (j : ℕ) → (j ≡ i → ⊥) → picture_at after j ≡ picture_at before j
  pub count : word after 96 ≡ word before 96
  pub neat : ((j : ℕ) → j < 16 → Neat before j) → (j : ℕ) → j < 16 → Neat after j
