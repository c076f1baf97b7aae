-- Each turn puts the wish of one entry behind those that are there, until a POC lies outside.
use mathlib.Core.Path.{◌≡◌, ◌∙◌}
use Prim.Native.Nat.{◌+◌, ◌*◌, ◌^◌, min}
use native.Mathlib.Omega.{arith}
use lib.ListN.{length-set}
use mir.Syntax.{w32}
use mir.Val.{to_z, of_z}
use mir.Facts.{to_z-of_z}
use Rattle.std.proofs.lemmas.Result.{err_from_is_err_and}
use Rattle.paper.specs.Records.{long_at}
use Rattle.paper.specs.Sets.{long_wish}
use Rattle.derivation.specs.Answers.{wanted_of}
use Rattle.session.proofs.Wishing.{wants_none, wants_more, wants_out}
use Rattle.session.proofs.records.want_longs.Goals as goal

pub loop-i-init : goal.loop-i-init
loop-i-init c =
    (wants_none (long_wish (2 ^ (min c.args.k 16)) (to_z w32 (of_z w32 c.args.poc))) (long_at c.args.msg.now (16 + 5 * c.args.from)) c.args.from c.args.wishes.now, omega arith)

pub loop-i-preserved : goal.loop-i-preserved
loop-i-preserved c =
    let g = long_wish (2 ^ (min c.args.k 16)) (to_z w32 (of_z w32 c.args.poc)) in
    let f = long_at c.args.msg.now (16 + 5 * c.args.from) in
    let is : c.long_wish.result ≡ wanted_of (g (f c.loop-i.i)) = c.long_wish.ensures.answer ∙ rw c.long_entry.ensures in
    (wants_more g f c.args.from c.loop-i.i is c.loop-i.invariant.0 c.in_ok-wishes.field-0 (c.args.from + c.loop-i.i) (omega arith) c.in_ok-wishes.was (omega arith), length-set c.loop-i.wishes (c.args.from + c.loop-i.i) c.in_ok-wishes.field-0 ∙ c.loop-i.invariant.1)

pub returns-in_err-wishes : goal.returns-in_err-wishes
returns-in_err-wishes c =
    let g = long_wish (2 ^ (min c.args.k 16)) (to_z w32 (of_z w32 c.args.poc)) in
    let f = long_at c.args.msg.now (16 + 5 * c.args.from) in
    let is : c.long_wish.result ≡ wanted_of (g (f c.loop-i.i)) = c.long_wish.ensures.answer ∙ rw c.long_entry.ensures in
    let e = err_from_is_err_and c.from_residual.result c.from_residual.ensures.1 in
    let poc : to_z w32 (of_z w32 c.args.poc) ≡ c.args.poc = to_z-of_z c.ranges.poc in
    rw (← poc, e.1) (wants_out g f c.args.from c.loop-i.i is c.loop-i.invariant.0 e.0 c.args.n c.in_err-wishes.was (omega arith))
