-- Each way out, in the order of the parts.
use lib.ListN.{drop}
use Rattle.paper.specs.Kinds.{rest_place}
use Rattle.paper.specs.Ledger.{read_tail}
use native.Mathlib.Omega.{arith}
use mathlib.Core.Path.{◌≡◌, ◌∙◌}
use Rattle.std.proofs.lemmas.Result.{err_from_is_err_and}
use Rattle.derivation.proofs.Pad.{is_good, is_view}
use Rattle.watch.proofs.Walks.{idle}
use Rattle.watch.proofs.Ways.{abandons_13, abandons_tail, abandons_15, abandons_0}
use Rattle.watch.proofs.parts.abandoned.Goals as goal

pub returns-then-is_none : goal.returns-then-is_none
returns-then-is_none c = abandons_13 c.args.b (read_tail c.args.b.reading (drop rest_place c.args.reply.now)) (idle c.args.b.current c.is_none.ensures ∙ c.if-is_none.true)

pub joined-alone-requires : goal.joined-alone-requires
joined-alone-requires c = (is_good c.none.ensures, omega (arith, c.none.ensures.long))

pub tail-requires : goal.tail-requires
tail-requires c = (is_good c.joined-alone.ensures, omega arith)

pub returns-in_err-left : goal.returns-in_err-left
returns-in_err-left c =
    let p = err_from_is_err_and c.from_residual.result c.from_residual.ensures.1 in
    let g = rw (is_view c.joined-alone.ensures, is_view c.none.ensures) at c.in_err-left.ensures in
    rw (p.1, p.2) (abandons_tail c.args.b (read_tail c.args.b.reading (drop rest_place c.args.reply.now)) (idle c.args.b.current c.is_none.ensures ∙ c.if-is_none.false) c.in_err-left.field-0.0 g)

pub returns-then-left-ne0 : goal.returns-then-left-ne0
returns-then-left-ne0 c =
    let g = rw (is_view c.joined-alone.ensures, is_view c.none.ensures) at c.in_ok-left.ensures in
    let n : c.in_ok-left.left.len ≡ 0 → ⊥ = omega (arith, c.if-left-ne0.true) in
    abandons_15 c.args.b (read_tail c.args.b.reading (drop rest_place c.args.reply.now)) (idle c.args.b.current c.is_none.ensures ∙ c.if-is_none.false) c.in_ok-left.left g n

pub returns : goal.returns
returns c =
    let g = rw (is_view c.joined-alone.ensures, is_view c.none.ensures) at c.in_ok-left.ensures in
    let n : c.in_ok-left.left.len ≡ 0 = omega (arith, c.if-left-ne0.false) in
    abandons_0 c.args.b (read_tail c.args.b.reading (drop rest_place c.args.reply.now)) (idle c.args.b.current c.is_none.ensures ∙ c.if-is_none.false) c.in_ok-left.left g c.requires n
