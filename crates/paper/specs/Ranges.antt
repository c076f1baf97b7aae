-- "Ranges", and the ranges of number 2.
use Rattle.std.specs.Prelude.{ℕ, ◌+◌, List, [], ◌∷◌, Bool, true, cond, not, ◌&&◌, ◌||◌, length, ltb, leb, eqb, ℤ, negsuc}
use Rattle.std.specs.Int.Signed.{lt_z, le_z}
use Rattle.paper.specs.declared.Limits.{Limits}
use Rattle.paper.specs.declared.ShortEntry.{ShortEntry}
use Rattle.paper.specs.declared.LongEntry.{LongEntry}
use Rattle.paper.specs.Words.{all_b}
use Rattle.paper.specs.Numbers.{capacity_limit}
use Rattle.paper.specs.Nal.{taken, irap, idr}
use Rattle.paper.specs.State.{taken16}
use Rattle.paper.specs.Records.{Fields, ListAsk, Slice}

-- "k 4 to 16, capacity at least 1 (more than 16 is taken as 16), buffering 1 to the taken capacity, reorder below
-- buffering"
unfoldable pub configure_ranges : Limits → Bool
configure_ranges l =
    leb 4 l.k && leb l.k 16 && leb 1 l.capacity
    && leb 1 l.buffering && leb l.buffering (taken16 l).capacity && ltb l.reorder l.buffering

-- "Neg deltas −524,288 to −1, strictly falling; pos deltas 1 to 524,288, strictly rising. Used bytes 0 or 1"
unfoldable pub falling : ℤ → List ShortEntry → Bool
falling d [] = true
falling d (e ∷ es) = le_z (negsuc 524287) e.delta && lt_z e.delta d && ltb e.used 2 && falling e.delta es

unfoldable pub rising : ℤ → List ShortEntry → Bool
rising d [] = true
rising d (e ∷ es) = le_z e.delta (ℤ.pos 524288) && lt_z d e.delta && ltb e.used 2 && rising e.delta es

-- "lsb and lt lsb below M = 2^k", "spare flag bits 0"
abbrev pub long_ok : ℕ → LongEntry → Bool
long_ok M e = ltb e.lsb M && ltb e.flags 4

abbrev pub entries_of : Fields → ℕ
entries_of f = length f.neg + length f.pos + length f.lt

-- "Temporal id 0 to 6, and 0 for types 16 to 21", "neg + pos + lt at most 16", "Types 19 and 20: lsb and counts 0"
unfoldable pub begin_ranges : ℕ → Fields → Bool
begin_ranges M f =
    taken f.nal && leb f.tid 6 && (not (irap f.nal) || eqb f.tid 0) && ltb f.flags 4
    && ltb f.lsb M && all_b (long_ok M) f.lt && leb (entries_of f) capacity_limit
    && falling (ℤ.pos 0) f.neg && rising (ℤ.pos 0) f.pos
    && (not (idr f.nal) || (eqb f.lsb 0 && eqb (entries_of f) 0))

-- "Active counts 1 to 16 where the slice type uses the list, else 0 with its modify bit 0."
abbrev pub active_ok : ListAsk → Bool
active_ok a = cond a.uses (leb 1 a.active && leb a.active capacity_limit) (eqb a.active 0 && not a.modify)

-- "Slice type 0 to 2."
unfoldable pub lists_ranges : Slice → Bool
lists_ranges f = leb f.slice_type 2 && ltb f.flags 8 && active_ok f.ask0 && active_ok f.ask1
