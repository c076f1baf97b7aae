-- What is taken and what is made lies within the buffers, and where nothing is taken no message is whole.
use Rattle.std.proofs.Common.{◌≡◌, arith, rules, length}
use Rattle.filter.proofs.Turning.{turned}
use Rattle.filter.proofs.turn.Goals as goal

pub returns : goal.returns
returns g c =
    let a = c.answer_all-a in
    let same : length a.new.output ≡ length c.args.output.now = a.auto.output in
    let whole = turned c.args.held c.args.input.now g.M.Machine.ROOM c.requires.held_in_bounds (λ k. search rules) c.requires.in_bounds.0 (omega (arith, c.requires.in_bounds.1, same)) a.ensures.within.0
    a.ensures.answers a.ensures.all c.go_on.ensures c.go_on.auto.input in
    record { held_in_bounds_2 = whole.0; turned = whole.1 }
