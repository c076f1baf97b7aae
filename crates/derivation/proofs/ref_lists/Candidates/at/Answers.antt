-- `derivation::ref_lists::Candidates::at`: within the run its member, and behind it the current picture.
use mathlib.Core.Path.{◌≡◌, ◌∙◌}
use native.Mathlib.Omega.{arith}
use lib.ListN.{length}
use Rattle.std.proofs.Common.{rules}
use Rattle.derivation.proofs.Runs.{stands_inside, stands_past}
use Rattle.derivation.proofs.ref_lists.Candidates.at.Goals as goal

pub returns-then-member_count-place : goal.returns-then-member_count-place
returns-then-member_count-place c =
    let x = c.args.self.now in
    let sixteen : length c.args.self.now.sets.now ≡ 16 = search rules in
    stands_past x.sets.now x.refs x.own x.second x.current c.args.i c.place-place.result sixteen c.place-place.ensures (omega arith)

pub returns : goal.returns
returns c =
    let x = c.args.self.now in
    let sixteen : length c.args.self.now.sets.now ≡ 16 = search rules in
    c.member.ensures ∙ stands_inside x.sets.now x.refs x.own x.second x.current c.args.i c.place-place.result sixteen c.place-place.ensures (omega arith)
