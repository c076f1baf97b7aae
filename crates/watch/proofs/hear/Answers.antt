-- Each way out, in the order of the parts.
use mathlib.Core.Path.{◌∙◌, sym}
use Rattle.std.proofs.lemmas.Result.{err_from_is_err_and}
use Rattle.watch.proofs.Hearing.{hears_1, hears_2, tidied, hears_part, hears_0}
use Rattle.watch.proofs.hear.Goals as goal

pub returns-then-not-is_whole : goal.returns-then-not-is_whole
returns-then-not-is_whole c = hears_1 c.args.b c.args.msg.now c.args.reply.now (sym c.is_whole.ensures ∙ c.if-not-is_whole.true)

pub returns-then-not-answers : goal.returns-then-not-answers
returns-then-not-answers c =
    hears_2 c.args.b c.args.msg.now c.args.reply.now (sym c.is_whole.ensures ∙ c.if-not-is_whole.false) (sym (c.answers.ensures c.args.b.reading) ∙ c.if-not-answers.true)

pub judge-requires : goal.judge-requires
judge-requires c = tidied c.args.b c.tidy.result c.tidy.ensures

pub returns-in_err-k : goal.returns-in_err-k
returns-in_err-k c =
    let p = err_from_is_err_and c.from_residual.result c.from_residual.ensures.1 in
    rw (p.1, p.2) (hears_part c.args.b c.args.msg.now c.args.reply.now (sym c.is_whole.ensures ∙ c.if-not-is_whole.false) (sym (c.answers.ensures c.args.b.reading) ∙ c.if-not-answers.false) c.tidy.result c.tidy.ensures c.in_err-k.field-0.0 c.in_err-k.ensures)

pub returns : goal.returns
returns c =
    hears_0 c.args.b c.args.msg.now c.args.reply.now (sym c.is_whole.ensures ∙ c.if-not-is_whole.false) (sym (c.answers.ensures c.args.b.reading) ∙ c.if-not-answers.false) c.tidy.result c.tidy.ensures c.in_ok-k.k c.counted.result c.in_ok-k.ensures c.counted.ensures
