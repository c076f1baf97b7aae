-- `put_reply`: the code asks the definition's own tests in its order, and each way writes that way's text.
use mathlib.Core.Path.{sym, ◌∙◌}
use native.Mathlib.Omega.{arith}
use Rattle.stream.proofs.Spelling.{retold, roomier}
use Rattle.show.proofs.Wording.{said_damaged, said_refused, said_begun, said_listed, said_done}
use Rattle.show.proofs.replies.put_reply.Goals as goal

pub returns-then-not-is_whole : goal.returns-then-not-is_whole
returns-then-not-is_whole c =
    roomier (omega arith) (retold (sym (said_damaged c.args.reply.now c.args.st (sym c.is_whole.ensures ∙ c.if-not-is_whole.true))) c.put_damaged.ensures)

pub returns-then-u16_at-ne0 : goal.returns-then-u16_at-ne0
returns-then-u16_at-ne0 c =
    roomier (omega arith) (retold (sym (said_refused c.args.reply.now c.args.st (sym c.is_whole.ensures ∙ c.if-not-is_whole.false) (λ q. c.if-u16_at-ne0.true (c.u16_at.ensures ∙ q)))) c.put_refused.ensures)

pub returns-then-kind-reply : goal.returns-then-kind-reply
returns-then-kind-reply c =
    let w = sym c.is_whole.ensures ∙ c.if-not-is_whole.false in
    let z = sym c.u16_at.ensures ∙ c.if-u16_at-ne0.false in
    roomier (omega arith) (retold (sym (said_begun c.args.reply.now c.args.st w z (sym c.u16_at-kind.ensures ∙ c.if-kind-reply.true ∙ c.reply.ensures))) c.put_begun.ensures)

pub returns-then-kind-reply-2 : goal.returns-then-kind-reply-2
returns-then-kind-reply-2 c =
    let w = sym c.is_whole.ensures ∙ c.if-not-is_whole.false in
    let z = sym c.u16_at.ensures ∙ c.if-u16_at-ne0.false in
    roomier (omega arith) (retold (sym (said_listed c.args.reply.now c.args.st w z (λ q. c.if-kind-reply.false (c.u16_at-kind.ensures ∙ q ∙ sym c.reply.ensures)) (sym c.u16_at-kind.ensures ∙ c.if-kind-reply-2.true ∙ c.reply-2.ensures))) c.put_lists.ensures)

pub returns : goal.returns
returns c =
    let w = sym c.is_whole.ensures ∙ c.if-not-is_whole.false in
    let z = sym c.u16_at.ensures ∙ c.if-u16_at-ne0.false in
    roomier (omega arith) (retold (sym (said_done c.args.reply.now c.args.st w z (λ q. c.if-kind-reply.false (c.u16_at-kind.ensures ∙ q ∙ sym c.reply.ensures)) (λ q. c.if-kind-reply-2.false (c.u16_at-kind.ensures ∙ q ∙ sym c.reply-2.ensures)))) c.put_done.ensures)
