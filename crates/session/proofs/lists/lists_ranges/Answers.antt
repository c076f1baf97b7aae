-- `lists_ranges`: the four tests are the paper's, on what was read.
use mathlib.Core.Path.{◌≡◌}
use mathlib.Core.Bool.{Bool, cond, not, ◌&&◌}
use lib.Dec.{eqb, ltb, leb}
use Rattle.paper.specs.Records.{ListAsk, Slice}
use Rattle.paper.specs.Ranges.{active_ok, lists_ranges}
use Rattle.format.specs.declared.records.Ask.{Ask}
use Rattle.format.specs.declared.records.SliceFields.{SliceFields}
use Rattle.format.specs.Reads.{AsksAs, ReadsAs}
use Rattle.session.proofs.lists.lists_ranges.Goals as goal

abbrev tested : Ask → Bool
tested a = cond a.uses (leb 1 a.active && leb a.active 16) (eqb a.active 0 && not a.modify)

tested_is : (a : Ask) (y : ListAsk) → AsksAs a y → tested a ≡ active_ok y
tested_is a y p = rw (p.uses, p.active, p.modify)

ranges_are : (h : SliceFields) (f : Slice) (spare x y : Bool) → ReadsAs h f → spare ≡ ltb h.flags 8 → x ≡ tested h.ask0 → y ≡ tested h.ask1 → (leb h.slice 2 && spare && x && y) ≡ lists_ranges f
unfolding lists_ranges
ranges_are h f spare x y p s d g = rw (d, g, tested_is h.ask0 _ p.ask0, tested_is h.ask1 _ p.ask1, s, p.flags, p.slice)

pub returns : goal.returns
returns c =
    λ f p. ranges_are c.args.h f c.spare.result c.active_ok.result c.active_ok-2.result p c.spare.ensures c.active_ok.ensures c.active_ok-2.ensures
