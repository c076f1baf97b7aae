-- `derivation::ref_lists::candidate_count`: the candidates are the members in the run and the current picture, in
-- either order.
use mathlib.Core.Path.{◌≡◌}
use native.Mathlib.Omega.{arith}
use lib.ListN.{length}
use Rattle.std.proofs.Common.{rules}
use Rattle.derivation.specs.Lists.{refs_in}
use Rattle.derivation.proofs.Runs.{members_length, length_0, length_1, own_byte}
use Rattle.derivation.proofs.ref_lists.candidate_count.Goals as goal

pub returns : goal.returns
returns c =
    let g = c.args in
    let x = refs_in g.sets.now g.refs in
    let sixteen : length g.sets.now ≡ 16 = search rules in
    let e = members_length g.sets.now g.refs sixteen in
    let o = own_byte g.own in
    record {
      first = λ s. omega (arith, length_0 x g.own s);
      other = λ s. omega (arith, length_1 x g.own s);
      most = omega arith;
    }
