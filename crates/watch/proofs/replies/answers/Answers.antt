-- `answers`: a refusal and an accepted reply have a test each, and the refusal number tells which it is.
use native.Mathlib.Omega.{arith}
use mathlib.Core.Path.{◌≡◌, ◌∙◌, sym}
use Rattle.paper.specs.Numbers.{u16}
use Rattle.paper.specs.Kinds.{number_place}
use Rattle.watch.proofs.ReplyLaws.{heard_refused, heard_else}
use Rattle.watch.proofs.replies.answers.Goals as goal

pub returns-then-u16_at-ne0 : goal.returns-then-u16_at-ne0
returns-then-u16_at-ne0 c =
    let n : u16 c.args.reply.now number_place ≡ 0 → ⊥ = omega arith in
    λ st. c.refusal_answers.ensures ∙ sym (heard_refused st c.args.msg.now c.args.reply.now n)

pub returns : goal.returns
returns c =
    let z : u16 c.args.reply.now number_place ≡ 0 = omega arith in
    λ st. rw (c.saturating_sub-k.ensures, c.u16_at-2.ensures, c.u16_at-3.ensures) (sym (heard_else st c.args.msg.now c.args.reply.now z))
