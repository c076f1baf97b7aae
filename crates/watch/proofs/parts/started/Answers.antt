-- Each way out, in the order of the parts.
use native.Mathlib.Omega.{arith}
use mathlib.Core.Bool.{not}
use mathlib.Core.Path.{◌≡◌, ◌∙◌, sym, ap}
use Rattle.std.proofs.lemmas.Result.{err_from_is_err_and}
use Rattle.derivation.proofs.Pad.{is_good}
use Rattle.watch.proofs.Walks.{busy}
use Rattle.watch.proofs.Ways.{begins_3, begins_4, begins_5, begins_tail, begins_left, begins_0}
use Rattle.watch.proofs.parts.started.Goals as goal

pub returns-then-is_some : goal.returns-then-is_some
returns-then-is_some c =
    begins_3 c.args.b c.args.msg.now c.args.reply.now (busy c.args.b.current c.is_some.ensures ∙ ap not c.if-is_some.true)

pub returns-then-from-b : goal.returns-then-from-b
returns-then-from-b c =
    let n : c.line_begun-e.result.serial.0 ≡ c.args.b.begun → ⊥ = omega (arith, c.if-from-b.true) in
    begins_4 c.args.b c.args.msg.now c.args.reply.now (busy c.args.b.current c.is_some.ensures ∙ ap not c.if-is_some.false) c.line_begun-e.result c.line_begun-e.ensures n

pub returns-then-has_any : goal.returns-then-has_any
returns-then-has_any c =
    let s : c.line_begun-e.result.serial.0 ≡ c.args.b.begun = omega (arith, c.if-from-b.false) in
    begins_5 c.args.b c.args.msg.now c.args.reply.now (busy c.args.b.current c.is_some.ensures ∙ ap not c.if-is_some.false) c.line_begun-e.result c.line_begun-e.ensures s (sym c.has_any.ensures ∙ c.if-has_any.true)

pub returns-in_err-held : goal.returns-in_err-held
returns-in_err-held c =
    let s : c.line_begun-e.result.serial.0 ≡ c.args.b.begun = omega (arith, c.if-from-b.false) in
    let p = err_from_is_err_and c.from_residual.result c.from_residual.ensures.1 in
    rw (p.1, p.2) (begins_tail c.args.b c.args.msg.now c.args.reply.now (busy c.args.b.current c.is_some.ensures ∙ ap not c.if-is_some.false) c.line_begun-e.result c.line_begun-e.ensures s (sym c.has_any.ensures ∙ c.if-has_any.false) c.members-n.result c.members-n.ensures.0 c.in_err-held.field-0.0 c.in_err-held.ensures)

pub may_leave-requires : goal.may_leave-requires
may_leave-requires c = (is_good c.in_ok-held.ensures.lines, c.members-n.ensures.1)

pub returns-in_err-may_leave : goal.returns-in_err-may_leave
returns-in_err-may_leave c =
    let s : c.line_begun-e.result.serial.0 ≡ c.args.b.begun = omega (arith, c.if-from-b.false) in
    let p = err_from_is_err_and c.from_residual-in_err-may_leave.result c.from_residual-in_err-may_leave.ensures.1 in
    rw (p.1, p.2) (begins_left c.args.b c.args.msg.now c.args.reply.now (busy c.args.b.current c.is_some.ensures ∙ ap not c.if-is_some.false) c.line_begun-e.result c.line_begun-e.ensures s (sym c.has_any.ensures ∙ c.if-has_any.false) c.members-n.result c.members-n.ensures.0 c.in_ok-held.held c.in_ok-held.ensures c.in_err-may_leave.field-0.0 c.in_err-may_leave.ensures)

pub returns : goal.returns
returns c =
    let s : c.line_begun-e.result.serial.0 ≡ c.args.b.begun = omega (arith, c.if-from-b.false) in
    begins_0 c.args.b c.args.msg.now c.args.reply.now (busy c.args.b.current c.is_some.ensures ∙ ap not c.if-is_some.false) c.line_begun-e.result c.line_begun-e.ensures s (sym c.has_any.ensures ∙ c.if-has_any.false) c.members-n.result c.members-n.ensures.0 c.in_ok-held.held c.in_ok-held.ensures c.requires (sym c.in_ok-may_leave.ensures)
