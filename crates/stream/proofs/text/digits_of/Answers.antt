-- A digit goes in front of those that stand; where the number has one digit left it is the first.
use Rattle.std.proofs.Common.{arith, ◌+◌, ◌-◌, ◌%◌, ◌≤◌, append-nil, ◌∙◌}
use Rattle.std.proofs.Math.ListN.{drop_of_length-le, length-set}
use Rattle.stream.specs.Text.{digits, decimal}
use Rattle.stream.proofs.Spelling.{next_digit, first_digit, places, one_place_less}
use Rattle.stream.proofs.text.digits_of.Goals as goal

pub loop-rest-init : goal.loop-rest-init
loop-rest-init c = record {
  some = omega arith;
  within = omega arith;
  long = c.told-digits;
  room = omega arith;
  all = rw (drop_of_length-le c.args.digits.now {i = 20} (omega arith)) (append-nil (digits 20 c.args.n));
}

pub loop-rest-preserved : goal.loop-rest-preserved
loop-rest-preserved c =
    let l = c.loop-rest in
    let h = l.invariant in
    let two : 2 ≤ l.i = places l.i l.rest h.room c.loop-rest-test.true in
    record {
      some = omega arith;
      within = omega arith;
      long = length-set l.digits (l.i - 1) (48 + l.rest % 10) ∙ h.long;
      room = one_place_less l.i l.rest h.room c.loop-rest-test.true;
      all = next_digit l.i l.rest l.digits c.loop-rest-test.true h.some (omega arith) ∙ h.all;
    }

pub returns-clause-spelled : goal.returns-clause-spelled
unfolding decimal
returns-clause-spelled c =
    let l = c.loop-rest in
    let h = l.invariant in
    first_digit l.i l.rest l.digits (omega arith) h.some (omega arith) ∙ h.all
