-- A write to the words of one place changes the picture there and no other, for the words of two places are apart.
-- Assumes nothing.
use Prim.Native.Nat.{ℕ, zero, suc, ◌+◌, ◌*◌, ◌≤◌, ◌<◌, min}
use lib.Dec.{eqb}
use borrow.Author.Tests.{eqb-true, eqb-false}
use Rattle.paper.proofs.Bools.{split}
use Rattle.paper.proofs.Fits.{table_length}
use mathlib.Core.Path.{◌≡◌, refl, sym, ap, ap₂, ◌∙◌}
use mathlib.Core.Bool.{Bool, true, false}
use mathlib.Core.List.{List, [], ◌∷◌, ◌++◌, map, map-append, append_assoc, append-nil}
use native.Mathlib.Omega.{arith}
use native.Mathlib.Numerals.{add-one}
use lib.ListN.{length, get_or, set, length-set}
use lib.Seq.{get_or-set_same, get_or-set_other}
use mir.Syntax.{w32}
use mir.Val.{SFits, to_z, of_z}
use mir.ValLaws.{to_z-of_z}
use Rattle.paper.specs.Words.{table}
use Rattle.paper.specs.Numbers.{a_serial, a_surface}
use Rattle.paper.specs.declared.Mark.{Mark}
use Rattle.paper.specs.declared.Mark.TheVariants.{Unmarked, ShortTerm, LongTerm}
use Rattle.paper.specs.declared.Picture.{Picture}
pub use Rattle.derivation.proofs.Runs.{table_same}
use Rattle.store.specs.StoreWords.{word, flag_of, flag_word, mark_of, mark_word, picture_at, pictures, stored, count_in, Neat, Puts}

pub flag_back : (b : Bool) → flag_of (flag_word b) ≡ b
flag_back true = refl
flag_back false = refl

pub mark_back : (m : Mark) → mark_of (mark_word m) ≡ m
mark_back Unmarked = refl
mark_back ShortTerm = refl
mark_back LongTerm = refl

-- ---- tables

pub table_more : {A : Type 0} (f : ℕ → A) (i : ℕ) → table f (i + 1) ≡ table f i ++ (f i ∷ [])
unfolding table
table_more f i = rw (add-one i)

-- one element behind those of a table that was the same
pub table_next : {A : Type 0} (f g : ℕ → A) (n : ℕ) (x : A) → ((i : ℕ) → i < n → f i ≡ g i) → f n ≡ x → table f (n + 1) ≡ table g n ++ (x ∷ [])
table_next f g n x h e = table_more f n ∙ ap₂ (λ (a : List _) (b : _). a ++ (b ∷ [])) (table_same f g n h) e

pub table_map : {A B : Type 0} (g : A → B) (f : ℕ → A) (n : ℕ) → map g (table f n) ≡ table (λ (i : ℕ). g (f i)) n
unfolding table
table_map g f zero = refl
table_map g f (suc n) = map-append g (table f n) (f n ∷ []) ∙ rw (table_map g f n)

-- a table in two parts
pub table_join : {A : Type 0} (f : ℕ → A) (a b : ℕ) → table f (a + b) ≡ table f a ++ table (λ (i : ℕ). f (a + i)) b
unfolding table
table_join f a zero = let z : a + 0 ≡ a = omega arith in ap (table f) z ∙ sym (append-nil (table f a))
table_join f a (suc b) =
    let z : a + suc b ≡ suc (a + b) = omega arith in
    ap (table f) z ∙ ap (λ (xs : List _). xs ++ (f (a + b) ∷ [])) (table_join f a b) ∙ append_assoc (table f a) (table (λ (i : ℕ). f (a + i)) b) (f (a + b) ∷ [])

-- ---- words

-- another word than the one written
pub off : (t : List ℕ) (a b v : ℕ) → (b ≡ a → ⊥) → word (set t a v) b ≡ word t b
off t a b v n = get_or-set_other t a b v 0 n

-- the picture at another place than the one written to
pub elsewhere : (t : List ℕ) (i f v j : ℕ) → f < 6 → (j ≡ i → ⊥) → picture_at (set t (6 * i + f) v) j ≡ picture_at t j
unfolding picture_at
elsewhere t i f v j lf n =
    let o : (g : ℕ) → g < 6 → word (set t (6 * i + f) v) (6 * j + g) ≡ word t (6 * j + g) = λ g lg. off t (6 * i + f) (6 * j + g) v (λ e. n (omega arith)) in
    let o0 : word (set t (6 * i + f) v) (6 * j) ≡ word t (6 * j) = off t (6 * i + f) (6 * j) v (λ e. n (omega arith)) in
    rw (o0, o 1 (omega arith), o 2 (omega arith), o 3 (omega arith), o 4 (omega arith), o 5 (omega arith))

-- ---- a place that is written as its picture is

-- the words of a POC, a mark and a flag are those that what they say is written as; of the other three there is nothing
-- to say
pub record Spells (c d e : ℕ) : Type 0 where
  pub poc : c ≡ of_z w32 (to_z w32 c)
  pub mark : d ≡ mark_word (mark_of d)
  pub flag : e ≡ flag_word (flag_of e)

module _ (t : List ℕ) (i : ℕ) where
  pub spells : Neat t i → Spells (word t (6 * i + 2)) (word t (6 * i + 3)) (word t (6 * i + 4))
  unfolding picture_at
  spells h = record { poc = ap (λ (l : List ℕ). get_or l 2 0) h; mark = ap (λ (l : List ℕ). get_or l 3 0) h; flag = ap (λ (l : List ℕ). get_or l 4 0) h }

  pub neat_by : {c d e : ℕ} → word t (6 * i + 2) ≡ c → word t (6 * i + 3) ≡ d → word t (6 * i + 4) ≡ e → Spells c d e → Neat t i
  unfolding picture_at
  neat_by x y z h =
      let s : Spells (word t (6 * i + 2)) (word t (6 * i + 3)) (word t (6 * i + 4)) = rw (x, y, z) h in
      λ k. word t (6 * i) ∷ word t (6 * i + 1) ∷ s.poc k ∷ s.mark k ∷ s.flag k ∷ word t (6 * i + 5) ∷ []

-- a mark and a flag in their own words
pub mark_spells : (m : Mark) → mark_word m ≡ mark_word (mark_of (mark_word m))
mark_spells m = ap mark_word (sym (mark_back m))

pub picture_spells : (p : Picture) → SFits w32 p.poc → Spells (of_z w32 p.poc) (mark_word p.mark) (flag_word p.waiting)
picture_spells p f = record { poc = ap (of_z w32) (sym (to_z-of_z w32 p.poc f)); mark = mark_spells p.mark; flag = ap flag_word (sym (flag_back p.waiting)) }

-- every place is, if one is and the words of each other are as they were
pub neat_but : (t t' : List ℕ) (i : ℕ) → ((j g : ℕ) → (j ≡ i → ⊥) → j < 16 → g < 6 → word t' (6 * j + g) ≡ word t (6 * j + g)) → (((j : ℕ) → j < 16 → Neat t j) → Neat t' i)
    → ((j : ℕ) → j < 16 → Neat t j) → (j : ℕ) → j < 16 → Neat t' j
neat_but t t' i same at all j lt =
    split (eqb j i)
    (λ e. let x : j ≡ i = eqb-true j i e in rw x (at all))
    (λ e. let n = eqb-false j i e in neat_by t' j (same j 2 n lt (omega arith)) (same j 3 n lt (omega arith)) (same j 4 n lt (omega arith)) (spells t j (all j lt)))

-- ---- one place written

-- the words of a row, and any words behind one another
module _ (t : List ℕ) (at a b c d e f : ℕ) (room : at + 6 ≤ length t) where
  abbrev t1 : List ℕ
  t1 = set t at a

  abbrev t2 : List ℕ
  t2 = set t1 (at + 1) b

  abbrev t3 : List ℕ
  t3 = set t2 (at + 2) c

  abbrev t4 : List ℕ
  t4 = set t3 (at + 3) d

  abbrev t5 : List ℕ
  t5 = set t4 (at + 4) e

  abbrev pub six : List ℕ
  six = set t5 (at + 5) f

  pub word0 : word six at ≡ a
  word0 =
      off t5 (at + 5) at f (λ x. omega arith) ∙ off t4 (at + 4) at e (λ x. omega arith) ∙ off t3 (at + 3) at d (λ x. omega arith) ∙ off t2 (at + 2) at c (λ x. omega arith)
      ∙ off t1 (at + 1) at b (λ x. omega arith) ∙ get_or-set_same t at a 0 (omega arith)

  pub word1 : word six (at + 1) ≡ b
  word1 =
      off t5 (at + 5) (at + 1) f (λ x. omega arith) ∙ off t4 (at + 4) (at + 1) e (λ x. omega arith) ∙ off t3 (at + 3) (at + 1) d (λ x. omega arith)
      ∙ off t2 (at + 2) (at + 1) c (λ x. omega arith) ∙ get_or-set_same t1 (at + 1) b 0 (omega (arith, length-set t at a))

  pub word2 : word six (at + 2) ≡ c
  word2 =
      off t5 (at + 5) (at + 2) f (λ x. omega arith) ∙ off t4 (at + 4) (at + 2) e (λ x. omega arith) ∙ off t3 (at + 3) (at + 2) d (λ x. omega arith)
      ∙ get_or-set_same t2 (at + 2) c 0 (omega (arith, length-set t at a, length-set t1 (at + 1) b))

  pub word3 : word six (at + 3) ≡ d
  word3 =
      off t5 (at + 5) (at + 3) f (λ x. omega arith) ∙ off t4 (at + 4) (at + 3) e (λ x. omega arith)
      ∙ get_or-set_same t3 (at + 3) d 0 (omega (arith, length-set t at a, length-set t1 (at + 1) b, length-set t2 (at + 2) c))

  pub word4 : word six (at + 4) ≡ e
  word4 = off t5 (at + 5) (at + 4) f (λ x. omega arith) ∙ get_or-set_same t4 (at + 4) e 0 (omega (arith, length-set t at a, length-set t1 (at + 1) b, length-set t2 (at + 2) c, length-set t3 (at + 3) d))

  pub word5 : word six (at + 5) ≡ f
  word5 = get_or-set_same t5 (at + 5) f 0 (omega (arith, length-set t at a, length-set t1 (at + 1) b, length-set t2 (at + 2) c, length-set t3 (at + 3) d, length-set t4 (at + 4) e))

  pub beside : (k : ℕ) → (at ≤ k → k < at + 6 → ⊥) → word six k ≡ word t k
  beside k n =
      off t5 (at + 5) k f (λ x. n (omega arith) (omega arith)) ∙ off t4 (at + 4) k e (λ x. n (omega arith) (omega arith)) ∙ off t3 (at + 3) k d (λ x. n (omega arith) (omega arith))
      ∙ off t2 (at + 2) k c (λ x. n (omega arith) (omega arith)) ∙ off t1 (at + 1) k b (λ x. n (omega arith) (omega arith)) ∙ off t at k a (λ x. n (omega arith) (omega arith))

-- six words at place i: what stands there is read from them
module _ (t : List ℕ) (i a b c d e f : ℕ) (room : 97 ≤ length t) (lt : i < 16) where
  abbrev now6 : List ℕ
  now6 = six t (6 * i) a b c d e f (omega arith)

  others6 : (j : ℕ) → (j ≡ i → ⊥) → picture_at now6 j ≡ picture_at t j
  others6 j n =
      let at = 6 * i in
      let z : at ≡ at + 0 = omega arith in
      elsewhere (t5 t at a b c d e f (omega arith)) i 5 f j (omega arith) n ∙ elsewhere (t4 t at a b c d e f (omega arith)) i 4 e j (omega arith) n
      ∙ elsewhere (t3 t at a b c d e f (omega arith)) i 3 d j (omega arith) n ∙ elsewhere (t2 t at a b c d e f (omega arith)) i 2 c j (omega arith) n
      ∙ elsewhere (t1 t at a b c d e f (omega arith)) i 1 b j (omega arith) n ∙ ap (λ (k : ℕ). picture_at (set t k a) j) z ∙ elsewhere t i 0 a j (omega arith) n

  pub puts_words : (((j : ℕ) → j < 16 → Neat t j) → Spells c d e)
      → Puts i (record { serial = a_serial a; surface = a_surface b; poc = to_z w32 c; mark = mark_of d; waiting = flag_of e; count = f }) t now6
  unfolding picture_at
  puts_words h =
      let r : 6 * i + 6 ≤ length t = omega arith in
      record {
        at = rw (word0 t (6 * i) a b c d e f r, word1 t (6 * i) a b c d e f r, word2 t (6 * i) a b c d e f r, word3 t (6 * i) a b c d e f r, word4 t (6 * i) a b c d e f r, word5 t (6 * i) a b c d e f r);
        others = others6;
        count = beside t (6 * i) a b c d e f r 96 (λ x y. omega arith);
        neat = neat_but t now6 i (λ j g n l lg. beside t (6 * i) a b c d e f r (6 * j + g) (λ x y. n (omega arith)))
            (λ all. neat_by now6 i (word2 t (6 * i) a b c d e f r) (word3 t (6 * i) a b c d e f r) (word4 t (6 * i) a b c d e f r) (h all));
      }

-- a picture's own words
pub own_words : (p : Picture) → SFits w32 p.poc
    → ◌≡◌ {A = Picture} (record { serial = a_serial p.serial.0; surface = a_surface p.surface.0; poc = to_z w32 (of_z w32 p.poc); mark = mark_of (mark_word p.mark); waiting = flag_of (flag_word p.waiting); count = p.count }) p
own_words p f =
    λ i. record { serial = p.serial; surface = p.surface; poc = to_z-of_z w32 p.poc f i; mark = mark_back p.mark i; waiting = flag_back p.waiting i; count = p.count }

-- ---- how many are used

-- the word behind the places says it
pub used_is : (t : List ℕ) (n : ℕ) → 97 ≤ length t → n ≤ 16 → stored (set t 96 n) ≡ pictures t n
used_is t n room le =
    let m : min n 16 ≡ n = omega arith in
    ap (λ (k : ℕ). pictures (set t 96 n) (min k 16)) (get_or-set_same t 96 n 0 (omega arith)) ∙ ap (pictures (set t 96 n)) m
    ∙ table_same (picture_at (set t 96 n)) (picture_at t) n (λ i l. elsewhere t 16 0 n i (omega arith) (λ e. omega arith))

pub used_length : (t : List ℕ) → length (stored t) ≡ count_in t
used_length t = table_length (picture_at t) (count_in t)
