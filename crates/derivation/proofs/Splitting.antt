-- The ranges of a begin record are those of its fields and those of its entries: the same tests in another order.
use mathlib.Core.Path.{◌≡◌, refl}
use mathlib.Core.Bool.{Bool, true, false, not, ◌&&◌, ◌||◌}
use Prim.Native.Nat.{ℕ}
use lib.IntN.{pos}
use lib.Dec.{ltb, leb, eqb}
use Rattle.paper.specs.Nal.{taken, irap, idr}
use Rattle.paper.specs.Words.{all_b}
use Rattle.paper.specs.Records.{Fields}
use Rattle.paper.specs.Ranges.{begin_ranges, entries_of, long_ok, falling, rising}
use Rattle.derivation.specs.FieldRanges.{field_ranges}

order : (x l e f r i : Bool) → (x && l && e && f && r && i) ≡ (x && e && i && (l && (f && r)))
order false l e f r i = refl
order true l false f r i = swap l
  where
    swap : (l : Bool) → (l && false && f && r && i) ≡ false
    swap false = refl
    swap true = refl
order true false true f r false = refl
order true false true f r true = refl
order true true true false r false = refl
order true true true false r true = refl
order true true true true false false = refl
order true true true true false true = refl
order true true true true true false = refl
order true true true true true true = refl

pub ranges_split : (M : ℕ) (f : Fields) → begin_ranges M f ≡ (field_ranges M f.nal f.tid f.flags f.lsb (entries_of f) && (all_b (long_ok M) f.lt && (falling (pos 0) f.neg && rising (pos 0) f.pos)))
unfolding begin_ranges field_ranges
ranges_split M f =
    order
    (taken f.nal && leb f.tid 6 && (not (irap f.nal) || eqb f.tid 0) && ltb f.flags 4 && ltb f.lsb M)
    (all_b (long_ok M) f.lt)
    (leb (entries_of f) 16)
    (falling (pos 0) f.neg)
    (rising (pos 0) f.pos)
    (not (idr f.nal) || (eqb f.lsb 0 && eqb (entries_of f) 0))
