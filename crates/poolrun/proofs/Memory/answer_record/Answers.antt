-- The reply goes behind the head's place, and the head in front of it.
use Rattle.std.proofs.Common.{arith, rules, ◌≤◌}
use Rattle.pool.specs.Pool.{number_at}
use Rattle.poolrun.proofs.Answering.{lends_record, answer_fits, recorded}
use Rattle.poolrun.proofs.Memory.answer_record.Goals as goal

pub put_head-requires : goal.put_head-requires
put_head-requires c =
    let fits : (c.step-a.result.len ≤ 512) × (number_at c.step-a.result.surface ≤ 64) =
    answer_fits c.args.call.now c.args.made c.args.out.now c.requires.2 c.step-a.auto.reply c.step-a.ensures
    in
    let f = fits in (search rules, f.0, rw c.surface_number-surface.ensures f.1)

pub overflow_add-result : goal.overflow_add-result
overflow_add-result c =
    let fits : (c.step-a.result.len ≤ 512) × (number_at c.step-a.result.surface ≤ 64) =
    answer_fits c.args.call.now c.args.made c.args.out.now c.requires.2 c.step-a.auto.reply c.step-a.ensures
    in
    omega (arith, fits.0)

pub returns : goal.returns
returns c =
    recorded c.args.call.now c.args.made c.args.out.now c.requires.2 c.step-a.auto.reply c.step-a.ensures (lends_record c.args.call.now c.requires.1) (rw c.surface_number-surface.ensures at c.put_head.ensures)
