-- `derivation::ref_lists::Candidates::places`: each turn writes the candidate of its place, so the places are the
-- table of them.
use mathlib.Core.Path.{◌∙◌}
use Prim.Native.Nat.{◌<◌}
use native.Mathlib.Omega.{arith}
use lib.ListN.{length}
use Rattle.derivation.specs.Lists.{refs_in, candidates_of, place_of}
use Rattle.derivation.proofs.Runs.{Fills, fills, holds_none, holds_more}
use Rattle.derivation.proofs.ref_lists.Candidates.places.Goals as goal

pub loop-j-init : goal.loop-j-init
loop-j-init c =
    let g = c.args in
    holds_none (place_of (candidates_of (refs_in g.self.now.sets.now g.self.now.refs) g.self.now.own g.self.now.second g.self.now.current) g.self.now.current g.modify g.entries.now g.n)

pub loop-j-preserved : goal.loop-j-preserved
loop-j-preserved c =
    let has : Fills c.args.n c.args.active c.args.modify (length c.args.entries.now) =
    fills c.args.n c.args.active c.args.modify (length c.args.entries.now) c.requires
    in
    let g = c.args in
    let j = c.loop-j.j in
    let small : j < 16 = omega (arith, (has).most) in
    holds_more (place_of (candidates_of (refs_in g.self.now.sets.now g.self.now.refs) g.self.now.own g.self.now.second g.self.now.current) g.self.now.current g.modify g.entries.now g.n) j c.at.result c.loop-j.invariant small (c.at.ensures ∙ rw c.which.ensures)
