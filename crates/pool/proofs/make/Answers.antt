-- A count that is not refused: the three words are written anew and the session is fresh.
use mathlib.Core.Path.{◌≡◌}
use mathlib.Core.Bool.{true}
use native.Mathlib.Omega.{arith}
use Rattle.std.proofs.lemmas.Grind.{common_steps}
use Rattle.session.specs.View.{memory}
use Rattle.pool.specs.Pool.{can_make}
use Rattle.pool.specs.Memory.{pool_memory}
use Rattle.pool.proofs.MarkLaws.{makes}
use Rattle.pool.proofs.make.Goals as goal

pub returns : goal.returns
returns c =
    let can : can_make c.args.surfaces ≡ true = grind (arith, common_steps) in
    makes (pool_memory c.args.pool.now (memory c.args.front.now c.args.sets.now c.args.store.now)) c.args.surfaces c.put_fresh.new.pool (memory c.fresh.new.front c.fresh.new.sets c.fresh.new.store) can c.put_fresh.ensures c.fresh.ensures.session c.fresh.ensures.normal c.fresh.ensures.blank
