-- Entries read one behind the other: a test of all of them is false once it is false of one.
use mathlib.Core.Path.{◌≡◌, refl, sym, ap, ap₂, ◌∙◌}
use mathlib.Core.Bool.{Bool, true, false, not, ◌&&◌, ◌||◌, and-true, and-false, and_assoc}
use mathlib.Core.List.{List, [], ◌∷◌, ◌++◌}
use Prim.Native.Nat.{ℕ, zero, suc, ◌+◌, ◌*◌, ◌<◌, ◌≤◌}
use native.Mathlib.Omega.{arith}
use native.Mathlib.Numerals.{add-one}
use borrow.Author.Tests.{ltb-true, ltb-false, leb-true}
use lib.IntN.{ℤ, pos}
use lib.Dec.{ltb, leb, eqb}
use Rattle.paper.specs.declared.ShortEntry.{ShortEntry}
use Rattle.paper.specs.Words.{all_b, table}
use Rattle.paper.specs.Numbers.{u8, u16}
use Rattle.paper.specs.Nal.{taken, irap, idr}
use Rattle.paper.specs.Records.{fields_of, short_at, long_at}
use Rattle.paper.specs.declared.Surface.{Surface}
use Rattle.paper.specs.Ranges.{falling, rising, long_ok, entries_of, begin_ranges}
use Rattle.paper.proofs.Bools.{left, right, split}
use Rattle.paper.proofs.Fits.{table_length}
use Rattle.derivation.specs.FieldRanges.{field_ranges}
use Rattle.derivation.proofs.Splitting.{ranges_split}
use Rattle.format.specs.declared.records.BeginFields.{BeginFields}
use Rattle.format.specs.Reads.{begin_fields}
use Rattle.session.specs.Runs.{Runs}
use Rattle.session.specs.Target.{fields_with, begin_with}

-- ---- tests of a run of entries
-- a test of the first n entries that asks one thing more for each entry
module _ (h q : ℕ → Bool) (more : (i : ℕ) → h (suc i) ≡ (h i && q i)) where
  pub goes_on : (i : ℕ) → h i ≡ true → q i ≡ true → h (i + 1) ≡ true
  goes_on i e f = rw (add-one i, more i, e, f)

  pub stops : (i n : ℕ) → i < n → q i ≡ false → h n ≡ false
  stops i zero lt e = absurd (omega arith)
  stops i (suc n) lt e =
      split (ltb i n)
      (λ b. rw (more n, stops i n (ltb-true i n b) e))
      (λ b. let k : n ≡ i = omega (arith, ltb-false i n b) in rw (more n, k, e) (and-false (h i)))

pub all_both : {A : Type 0} (f : A → Bool) (xs ys : List A) → all_b f (xs ++ ys) ≡ (all_b f xs && all_b f ys)
unfolding all_b
all_both f [] ys = refl
all_both f (x ∷ xs) ys = rw (all_both f xs ys) (sym (and_assoc (f x) (all_b f xs) (all_b f ys)))

pub all_more : {A : Type 0} (f : A → Bool) (xs : List A) (x : A) → all_b f (xs ++ (x ∷ [])) ≡ (all_b f xs && f x)
unfolding all_b
all_more f xs x = all_both f xs (x ∷ []) ∙ ap (λ (b : Bool). all_b f xs && b) (and-true (f x))

pub all_none : {A : Type 0} (f : A → Bool) (g : ℕ → A) → all_b f (table g 0) ≡ true
unfolding all_b table
all_none f g = refl

pub all_table : {A : Type 0} (f : A → Bool) (g : ℕ → A) (i : ℕ) → all_b f (table g (suc i)) ≡ (all_b f (table g i) && f (g i))
unfolding table
all_table f g i = all_more f (table g i) (g i)

-- the delta before the next entry
unfoldable pub last_of : ℤ → List ShortEntry → ℤ
last_of d [] = d
last_of d (e ∷ es) = last_of e.delta es

last_more : (d : ℤ) (xs : List ShortEntry) (e : ShortEntry) → last_of d (xs ++ (e ∷ [])) ≡ e.delta
unfolding last_of
last_more d [] e = refl
last_more d (x ∷ xs) e = last_more x.delta xs e

pub last_none : (d : ℤ) (f : ℕ → ShortEntry) → last_of d (table f 0) ≡ d
unfolding last_of table
last_none d f = refl

pub last_table : (d : ℤ) (f : ℕ → ShortEntry) (i : ℕ) → last_of d (table f (i + 1)) ≡ (f i).delta
unfolding table
last_table d f i = rw (add-one i) (last_more d (table f i) (f i))

module _ {t : ℤ → ShortEntry → Bool} {g : ℤ → List ShortEntry → Bool} (r : Runs t g) where
  run_more : (d : ℤ) (xs : List ShortEntry) (e : ShortEntry) → g d (xs ++ (e ∷ [])) ≡ (g d xs && t (last_of d xs) e)
  unfolding last_of
  run_more d [] e = rw (r.more d e [], r.none e.delta, r.none d) (and-true (t d e))
  run_more d (x ∷ xs) e = rw (r.more d x (xs ++ (e ∷ [])), r.more d x xs, run_more x.delta xs e) (sym (and_assoc (t d x) (g x.delta xs) (t (last_of x.delta xs) e)))

  pub run_none : (d : ℤ) (f : ℕ → ShortEntry) → g d (table f 0) ≡ true
  unfolding table
  run_none d f = r.none d

  run_table : (d : ℤ) (f : ℕ → ShortEntry) (i : ℕ) → g d (table f (suc i)) ≡ (g d (table f i) && t (last_of d (table f i)) (f i))
  unfolding table
  run_table d f i = run_more d (table f i) (f i)

  module _ (f : ℕ → ShortEntry) {d : ℤ} {e : ShortEntry} {b : Bool} (i : ℕ) (last : d ≡ last_of (pos 0) (table f i)) (at : e ≡ f i) (is : b ≡ t d e) where
    tested : b ≡ t (last_of (pos 0) (table f i)) (f i)
    tested = rw (is, last, at)

    -- one entry more in range, and one out of it
    pub run_on : b ≡ true → g (pos 0) (table f i) ≡ true → (e.delta ≡ last_of (pos 0) (table f (i + 1))) × (g (pos 0) (table f (i + 1)) ≡ true)
    run_on up h = (
      rw (at, last_table (pos 0) f i),
      goes_on (λ (j : ℕ). g (pos 0) (table f j)) (λ (j : ℕ). t (last_of (pos 0) (table f j)) (f j)) (run_table (pos 0) f) i h (sym tested ∙ up),
    )

    pub run_out : (n : ℕ) → i < n → b ≡ false → false ≡ g (pos 0) (table f n)
    run_out n lt down =
        sym (stops (λ (j : ℕ). g (pos 0) (table f j)) (λ (j : ℕ). t (last_of (pos 0) (table f j)) (f j)) (run_table (pos 0) f) i n lt (sym tested ∙ down))

-- ---- the ranges of a begin
abbrev pub fields_in : ℕ → BeginFields → Bool
fields_in M h = field_ranges M h.nal h.tid h.flags h.lsb (h.neg + h.pos + h.lt)

abbrev pub longs_in : ℕ → List ℕ → BeginFields → Bool
longs_in M r h = all_b (long_ok M) (table (long_at r (16 + 5 * (h.neg + h.pos))) h.lt)

abbrev pub neg_in : List ℕ → BeginFields → Bool
neg_in r h = falling (pos 0) (table (short_at r 16) h.neg)

abbrev pub pos_in : List ℕ → BeginFields → Bool
pos_in r h = rising (pos 0) (table (short_at r (16 + 5 * h.neg)) h.pos)

-- as many entries as the counts say
pub entries_are : (x : Surface) (r : List ℕ) → entries_of (fields_with x r) ≡ u8 r 13 + u8 r 14 + u8 r 15
unfolding fields_with fields_of
entries_are x r =
    rw (table_length (short_at r 16) (u8 r 13), table_length (short_at r (16 + 5 * u8 r 13)) (u8 r 14), table_length (long_at r (16 + 5 * (u8 r 13 + u8 r 14))) (u8 r 15))

in_parts : (M : ℕ) (x : Surface) (r : List ℕ) → begin_ranges M (fields_with x r) ≡ (fields_in M (begin_fields r) && (longs_in M r (begin_fields r) && (neg_in r (begin_fields r) && pos_in r (begin_fields r))))
unfolding fields_with fields_of
in_parts M x r =
    ranges_split M (fields_with x r)
    ∙ ap (λ (n : ℕ). field_ranges M (u8 r 4) (u8 r 5) (u8 r 6) (u16 r 7) n && (longs_in M r (begin_fields r) && (neg_in r (begin_fields r) && pos_in r (begin_fields r)))) (entries_are x r)

-- fields in range have at most 16 entries behind them
fields_few : (M nal tid flags lsb n : ℕ) → field_ranges M nal tid flags lsb n ≡ true → n ≤ 16
unfolding field_ranges
fields_few M nal tid flags lsb n e =
    leb-true n 16
    (right (taken nal && leb tid 6 && (not (irap nal) || eqb tid 0) && ltb flags 4 && ltb lsb M) (leb n 16)
    (left (taken nal && leb tid 6 && (not (irap nal) || eqb tid 0) && ltb flags 4 && ltb lsb M && leb n 16) (not (idr nal) || (eqb lsb 0 && eqb n 0)) e))

module _ (M : ℕ) (r : List ℕ) {h : BeginFields} {b : Bool} (read : h ≡ begin_with h.surface r) (is : b ≡ fields_in M h) where
  pub begin_out : b ≡ false → false ≡ begin_ranges M (fields_with h.surface r)
  begin_out e =
      let k : fields_in M (begin_fields r) ≡ false = sym (ap (fields_in M) read) ∙ sym is ∙ e in
      sym (in_parts M h.surface r ∙ ap (λ (x : Bool). x && (longs_in M r (begin_fields r) && (neg_in r (begin_fields r) && pos_in r (begin_fields r)))) k)

  module _ (e : b ≡ true) where
    fields_in_lem : fields_in M h ≡ true
    fields_in_lem = sym is ∙ e

    pub begin_few : h.neg + h.pos + h.lt ≤ 16
    begin_few = fields_few M h.nal h.tid h.flags h.lsb (h.neg + h.pos + h.lt) fields_in_lem

    pub begin_on : {l n p : Bool} → l ≡ longs_in M r h → n ≡ neg_in r h → p ≡ pos_in r h → (l && (n && p)) ≡ begin_ranges M (fields_with h.surface r)
    begin_on x y z =
        ap₂ (λ (u v : Bool). u && v) x (ap₂ (λ (u v : Bool). u && v) y z)
        ∙ sym (in_parts M h.surface r ∙ ap (λ (g : BeginFields). fields_in M g && (longs_in M r g && (neg_in r g && pos_in r g))) (sym read) ∙ ap (λ (u : Bool). u && (longs_in M r h && (neg_in r h && pos_in r h))) fields_in_lem)
