-- A record with a surface that the caller chose: nothing else in it changes, so a begin stays a begin, and its fields
-- are its own with that surface. Assumes nothing.
use Prim.Native.Nat.{ℕ, ◌+◌, ◌*◌, ◌-◌, ◌/◌, ◌%◌, ◌≤◌, ◌<◌}
use native.Mathlib.Omega.{arith}
use mathlib.Core.Path.{◌≡◌, refl, sym, ap, ap₂, ◌∙◌}
use mathlib.Core.Bool.{Bool, true, false, cond, ◌&&◌}
use mathlib.Core.List.{List, ◌++◌, append_assoc}
use lib.Dec.{eqb, leb, ltb}
use lib.ListN.{length, get_or, take, drop, length-append, length-drop, take-append-drop, get_or-append}
use lib.Seq.{length-take-le, get_or-take, get_or-drop, get_or-append-add}
use borrow.Author.Tests.{eqb-true, lt-ltb}
use Rattle.paper.specs.Words.{all_b, table}
use Rattle.paper.specs.Numbers.{u8, u16, u32, bytes32, a_surface}
use Rattle.paper.specs.Kinds.{begin_kind, surface_place, neg_place, entries_place}
use Rattle.paper.specs.Records.{length_of, kind_of, body_ok, well_formed, fields_of, short_at, long_at}
use Rattle.paper.proofs.Bools.{both, left, right, split}
use Rattle.paper.proofs.ReadBack.{four_back}
use Rattle.format.specs.declared.records.BeginFields.{BeginFields}
use Rattle.std.proofs.Common.{Option, None, Some}
use Rattle.paper.specs.declared.Surface.{Surface}
use Rattle.session.specs.Target.{is_begin, with_surface, taken_as, fields_with, fields_at, begin_with, begin_at}
use Rattle.session.proofs.Bytes.{length_bytes32}
use Rattle.session.proofs.Entries.{all_both}
use Rattle.store.proofs.StoreWords.{table_same}

-- ---- a well-formed begin

pub begin_formed : (r : List ℕ) → is_begin r ≡ true → well_formed r ≡ true
begin_formed r is = left (well_formed r) (eqb (kind_of r) begin_kind) is

pub begin_kind_lem : (r : List ℕ) → is_begin r ≡ true → kind_of r ≡ begin_kind
begin_kind_lem r is = eqb-true (kind_of r) begin_kind (right (well_formed r) (eqb (kind_of r) begin_kind) is)

-- it has all of the bytes before its entries
pub begin_long : (r : List ℕ) → is_begin r ≡ true → entries_place ≤ length r
unfolding well_formed
begin_long r is =
    let h = begin_formed r is in
    let k = begin_kind_lem r is in
    let b : body_ok r ≡ true = right (leb 4 (length r) && eqb (length r) (4 + length_of r) && leb (length_of r) 512) _ h in
    let e : (leb 4 (length r) && eqb (length r) (4 + length_of r)) ≡ true = left (leb 4 (length r) && eqb (length r) (4 + length_of r)) _ (left (leb 4 (length r) && eqb (length r) (4 + length_of r) && leb (length_of r) 512) _ h) in
    let l : length r ≡ 4 + length_of r = eqb-true _ _ (right (leb 4 (length r)) _ e) in
    let c : eqb (length_of r) (12 + 5 * (u8 r 13 + u8 r 14) + 7 * u8 r 15) ≡ true = rw k at b in
    let n : length_of r ≡ 12 + 5 * (u8 r 13 + u8 r 14) + 7 * u8 r 15 = eqb-true _ _ c in
    omega (arith, l, n)

-- ---- the bytes of a record with that surface

four_bytes : (n : ℕ) → all_b (λ (b : ℕ). ltb b 256) (bytes32 n) ≡ true
unfolding all_b bytes32
four_bytes n = rw (lt-ltb (n % 256) 256 (omega arith), lt-ltb (n / 256 % 256) 256 (omega arith), lt-ltb (n / 65536 % 256) 256 (omega arith), lt-ltb (n / 16777216 % 256) 256 (omega arith))

module _ (x : ℕ) (r : List ℕ) where
  -- a record that is no well-formed begin is as it is
  pub with_other : is_begin r ≡ false → with_surface x r ≡ r
  unfolding with_surface
  with_other e = ap (λ (b : Bool). cond b (take surface_place r ++ bytes32 x ++ drop neg_place r) r) e

  module _ (is : is_begin r ≡ true) where
    put_is : with_surface x r ≡ take 9 r ++ (bytes32 x ++ drop 13 r)
    unfolding with_surface
    put_is = ap (λ (b : Bool). cond b (take surface_place r ++ bytes32 x ++ drop neg_place r) r) is ∙ append_assoc (take 9 r) (bytes32 x) (drop 13 r)

    front_long : length (take 9 r) ≡ 9
    front_long = length-take-le 9 r (omega (arith, begin_long r is))

    put_length : length (with_surface x r) ≡ length r
    put_length =
        ap length put_is
        ∙ omega (arith, length-append (take 9 r) (bytes32 x ++ drop 13 r), length-append (bytes32 x) (drop 13 r), front_long, length_bytes32 x, length-drop 13 r, begin_long r is)

    put_before : (i : ℕ) → i < 9 → u8 (with_surface x r) i ≡ u8 r i
    put_before i h =
        ap (λ (l : List ℕ). get_or l i 0) put_is ∙ get_or-append (take 9 r) (bytes32 x ++ drop 13 r) 0 i (omega (arith, front_long)) ∙ get_or-take 9 r i 0 h

    -- from the surface's place on
    put_at : (n : ℕ) → u8 (with_surface x r) (9 + n) ≡ u8 (bytes32 x ++ drop 13 r) n
    put_at n =
        ap (λ (l : List ℕ). get_or l (9 + n) 0) put_is ∙ ap (λ (k : ℕ). get_or (take 9 r ++ (bytes32 x ++ drop 13 r)) (k + n) 0) (sym front_long)
        ∙ get_or-append-add (take 9 r) (bytes32 x ++ drop 13 r) n 0

    put_behind : (i : ℕ) → 13 ≤ i → u8 (with_surface x r) i ≡ u8 r i
    put_behind i h =
        let a : i ≡ 9 + (4 + (i - 13)) = omega arith in
        let b : 13 + (i - 13) ≡ i = omega arith in
        ap (u8 (with_surface x r)) a ∙ put_at (4 + (i - 13)) ∙ ap (λ (k : ℕ). get_or (bytes32 x ++ drop 13 r) (k + (i - 13)) 0) (sym (length_bytes32 x))
        ∙ get_or-append-add (bytes32 x) (drop 13 r) (i - 13) 0 ∙ get_or-drop 13 r (i - 13) 0 ∙ ap (u8 r) b

    -- the surface of such a begin
    pub with_surface_lem : x < 4294967296 → u32 (with_surface x r) surface_place ≡ x
    unfolding bytes32
    with_surface_lem h = rw (put_at 0, put_at 1, put_at 2, put_at 3) (four_back x h)

  pub with_length : length (with_surface x r) ≡ length r
  with_length = split (is_begin r) put_length (λ e. ap length (with_other e))

  -- every other byte of it
  pub with_before : (i : ℕ) → i < surface_place → u8 (with_surface x r) i ≡ u8 r i
  with_before i h = split (is_begin r) (λ is. put_before is i h) (λ e. ap (λ (l : List ℕ). u8 l i) (with_other e))

  pub with_behind : (i : ℕ) → neg_place ≤ i → u8 (with_surface x r) i ≡ u8 r i
  with_behind i h = split (is_begin r) (λ is. put_behind is i h) (λ e. ap (λ (l : List ℕ). u8 l i) (with_other e))

  pub with_bytes : all_b (λ (b : ℕ). ltb b 256) r ≡ true → all_b (λ (b : ℕ). ltb b 256) (with_surface x r) ≡ true
  with_bytes h =
      let f : ℕ → Bool = λ b. ltb b 256 in
      let at : (n : ℕ) → (all_b f (take n r) && all_b f (drop n r)) ≡ true = λ n. sym (all_both f (take n r) (drop n r)) ∙ ap (all_b f) (take-append-drop n r) ∙ h in
      split (is_begin r)
      (λ is. ap (all_b f) (put_is is) ∙ all_both f (take 9 r) (bytes32 x ++ drop 13 r)
      ∙ both (left (all_b f (take 9 r)) _ (at 9)) (all_both f (bytes32 x) (drop 13 r) ∙ both (four_bytes x) (right (all_b f (take 13 r)) _ (at 13))))
      (λ e. ap (all_b f) (with_other e) ∙ h)

  -- ---- its head: the same kind, and as well-formed

  pub with_kind : kind_of (with_surface x r) ≡ kind_of r
  with_kind = rw (with_before 2 (omega arith), with_before 3 (omega arith))

  pub with_formed : well_formed (with_surface x r) ≡ well_formed r
  unfolding well_formed
  with_formed =
      rw (with_length, with_before 0 (omega arith), with_before 1 (omega arith), with_before 2 (omega arith), with_before 3 (omega arith), with_before 5 (omega arith), with_before 6 (omega arith), with_before 7 (omega arith), with_behind 13 (omega arith), with_behind 14 (omega arith), with_behind 15 (omega arith))

  pub with_begin : is_begin (with_surface x r) ≡ is_begin r
  with_begin = ap₂ (λ (b : Bool) (k : ℕ). b && eqb k begin_kind) with_formed with_kind

  -- ---- its fields

  behind16 : (at : ℕ) → 13 ≤ at → u16 (with_surface x r) at ≡ u16 r at
  behind16 at h = ap₂ (λ (a b : ℕ). a + 256 * b) (with_behind at h) (with_behind (at + 1) (omega arith))

  behind32 : (at : ℕ) → 13 ≤ at → u32 (with_surface x r) at ≡ u32 r at
  behind32 at h = ap₂ (λ (a b : ℕ). a + 65536 * b) (behind16 at h) (behind16 (at + 2) (omega arith))

  short_same : (at : ℕ) → 13 ≤ at → (i : ℕ) → short_at (with_surface x r) at i ≡ short_at r at i
  short_same at h i = rw (behind32 (at + 5 * i) (omega arith), with_behind (at + 5 * i + 4) (omega arith))

  long_same : (at : ℕ) → 13 ≤ at → (i : ℕ) → long_at (with_surface x r) at i ≡ long_at r at i
  long_same at h i = rw (behind16 (at + 7 * i) (omega arith), with_behind (at + 7 * i + 2) (omega arith), behind32 (at + 7 * i + 3) (omega arith))

  shorts_same : (at n : ℕ) → 13 ≤ at → table (short_at (with_surface x r) at) n ≡ table (short_at r at) n
  shorts_same at n h = table_same (short_at (with_surface x r) at) (short_at r at) n (λ i l. short_same at h i)

  longs_same : (at n : ℕ) → 13 ≤ at → table (long_at (with_surface x r) at) n ≡ table (long_at r at) n
  longs_same at n h = table_same (long_at (with_surface x r) at) (long_at r at) n (λ i l. long_same at h i)

  pub with_fields : is_begin r ≡ true → x < 4294967296 → fields_of (with_surface x r) ≡ fields_with (a_surface x) r
  unfolding fields_of fields_with
  with_fields is fits =
      let w = with_surface x r in
      let neg : u8 w 13 ≡ u8 r 13 = with_behind 13 (omega arith) in
      let pos : u8 w 14 ≡ u8 r 14 = with_behind 14 (omega arith) in
      let lt : u8 w 15 ≡ u8 r 15 = with_behind 15 (omega arith) in
      λ i.
      record {
        nal = with_before 4 (omega arith) i;
        tid = with_before 5 (omega arith) i;
        flags = with_before 6 (omega arith) i;
        lsb = with_before 7 (omega arith) i + 256 * with_before 8 (omega arith) i;
        surface = a_surface (with_surface_lem is fits i);
        neg = (shorts_same 16 (u8 w 13) (omega arith) ∙ ap (table (short_at r 16)) neg) i;
        pos = (shorts_same (16 + 5 * u8 w 13) (u8 w 14) (omega arith) ∙ ap₂ (λ (a b : ℕ). table (short_at r (16 + 5 * a)) b) neg pos) i;
        lt = (longs_same (16 + 5 * (u8 w 13 + u8 w 14)) (u8 w 15) (omega arith) ∙ (λ j. table (long_at r (16 + 5 * (neg j + pos j))) (lt j))) i;
      }

-- ---- a begin with the surface that was chosen, if one

-- the surface that is chosen is a u32
abbrev pub FitSurface : Option Surface → Type 0
FitSurface None = Unit {0}
FitSurface (Some x) = x.0 < 4294967296

pub taken_other : (t : Option Surface) (r : List ℕ) → is_begin r ≡ false → taken_as t r ≡ r
taken_other None r e = refl
taken_other (Some x) r e = with_other x.0 r e

pub taken_begin : (t : Option Surface) (r : List ℕ) → is_begin (taken_as t r) ≡ is_begin r
taken_begin None r = refl
taken_begin (Some x) r = with_begin x.0 r

pub taken_fields : (t : Option Surface) (r : List ℕ) → FitSurface t → is_begin r ≡ true → fields_of (taken_as t r) ≡ fields_at t r
taken_fields None r f is = refl
taken_fields (Some x) r f is = with_fields x.0 r is f

-- the fields that were read, by their own surface
pub read_as : (t : Option Surface) (r : List ℕ) {h : BeginFields} → h ≡ begin_at t r → h ≡ begin_with h.surface r
read_as None r e = e ∙ ap (λ (g : BeginFields). begin_with g.surface r) (sym e)
read_as (Some x) r e = e ∙ ap (λ (g : BeginFields). begin_with g.surface r) (sym e)

pub fields_as : (t : Option Surface) (r : List ℕ) {h : BeginFields} → h ≡ begin_at t r → fields_with h.surface r ≡ fields_at t r
unfolding fields_with fields_of
fields_as None r e = ap (λ (g : BeginFields). fields_with g.surface r) e
fields_as (Some x) r e = ap (λ (g : BeginFields). fields_with g.surface r) e
