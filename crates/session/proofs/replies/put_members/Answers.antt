-- Four runs of serials, one behind the other.
use Prim.Native.Nat.{◌+◌}
use mathlib.Core.List.{◌++◌}
use native.Mathlib.Omega.{arith}
use Rattle.paper.specs.Replies.{words}
use Rattle.session.specs.Written.{numbers_from}
use Rattle.session.proofs.Bytes.{run_on, run_part, run_first}
use Rattle.session.proofs.replies.put_members.Goals as goal

pub returns : goal.returns
returns c =
    let n = c.args.x.before + c.args.x.after in
    let X1 = words (numbers_from c.args.first 0 n) in
    let X2 = words (numbers_from c.args.second 0 c.args.x.foll) in
    let X3 = words (numbers_from c.args.first n c.args.x.long) in
    let X4 = words (numbers_from c.args.second c.args.x.foll c.args.x.lt_foll) in
    let e1 = run_first c.args.d.now c.args.at c.args.first n (omega arith) c.put_words-a.ensures in
    let e2 = run_first c.put_words-a.new.d c.put_words-a.result c.args.second c.args.x.foll (omega arith) c.put_words-b.ensures in
    let e3 = run_part c.put_words-b.new.d c.put_words-b.result c.args.first n c.args.x.long (omega arith) c.put_words-c.ensures in
    let e4 = run_part c.put_words-c.new.d c.put_words-c.result c.args.second c.args.x.foll c.args.x.lt_foll (omega arith) c.put_words.ensures in
    run_on c.args.d.now c.args.at (X1 ++ X2 ++ X3) X4 (run_on c.args.d.now c.args.at (X1 ++ X2) X3 (run_on c.args.d.now c.args.at X1 X2 e1 e2) e3) e4
