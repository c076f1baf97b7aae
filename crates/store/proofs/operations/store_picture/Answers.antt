-- The picture is put behind those in front of it, at most fifteen.
use mathlib.Core.Path.{◌≡◌}
use Prim.Native.Nat.{min}
use mir.Val.{SFits}
use mir.Syntax.{w32}
use mir.ValLaws.{to_z-of_z}
use native.Mathlib.Omega.{arith}
use lib.ListN.{length}
use Rattle.paper.specs.Calls.{stored}
use Rattle.store.proofs.Kept.{put_more}
use borrow.Author.Rules.{rules}
use Rattle.store.proofs.operations.store_picture.Goals as goal

pub returns : goal.returns
returns c =
    let l : length c.args.s.places ≡ 16 = omega arith in
    let f : SFits w32 c.args.c.poc = search rules in
    rw (c.min-at.ensures, to_z-of_z w32 c.args.c.poc f) (omega arith, put_more c.args.s.places (min c.args.s.len 15) (stored c.args.c) (omega arith))
