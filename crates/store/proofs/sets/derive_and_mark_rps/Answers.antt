-- What each entry found is what the paper's searches find, and the walks over neg, pos and lt ones put it into the two
-- runs, one behind the other.
use Prim.Native.Nat.{◌+◌, ◌≤◌, min}
use mathlib.Core.Path.{◌≡◌}
use native.Mathlib.Omega.{arith}
use lib.ListN.{length}
use Rattle.store.specs.Runs.{used_at, unused_at}
use Rattle.store.proofs.MarkLaws.{runs_good, runs_first, derives}
use Rattle.store.proofs.sets.derive_and_mark_rps.Goals as goal

pub split-x-requires : goal.split-x-requires
split-x-requires c =
    (runs_good c.no_runs.ensures, omega arith, omega arith)

pub split-y-requires : goal.split-y-requires
split-y-requires c =
    (runs_good c.split-x.ensures.holds, omega (arith, c.requires), omega (arith, c.requires, c.split-x.ensures.few.0))

pub split-z-requires : goal.split-z-requires
split-z-requires c =
    (runs_good c.split-y.ensures.holds, omega (arith, c.requires), omega (arith, c.requires, c.split-x.ensures.few.0, c.split-y.ensures.few.0))

pub returns : goal.returns
returns c =
    let whole : length c.args.s.places ≡ 16 = c.well_formed.0.1.1.0.1.0.1 in
    let m : min c.args.s.len 16 ≡ c.args.s.len = omega (arith, c.requires) in
    let h = runs_first (used_at c.settle_in-t.result.found c.args.wishes.now 0 c.args.neg) (unused_at c.settle_in-t.result.found c.args.wishes.now 0 c.args.neg) c.no_runs.ensures c.split-x.ensures.holds in
    let le : c.split-z.result.used.len + c.split-z.result.rest.len ≤ 16 = omega (arith, c.requires, c.split-x.ensures.few.0, c.split-y.ensures.few.0, c.split-z.ensures.few.0) in
    rw m (derives c.args.k c.args.wishes.now c.args.neg c.args.pos c.args.lt c.args.s.len c.args.s.places whole c.requires.0 c.requires.1 c.settle_in-t.ensures h c.split-y.ensures.holds c.split-z.ensures.holds le)
