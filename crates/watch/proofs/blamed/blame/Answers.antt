-- The part is the one that is heard; where the reply tells something, it is asked in normal form.
use native.Mathlib.Omega.{arith}
use mathlib.Core.Path.{◌∙◌}
use borrow.Author.Tests.{lt-ltb}
use Rattle.paper.specs.Watch.{part_of}
use Rattle.paper.specs.Blame.{blamed}
use Prim.Native.Nat.{◌<◌}
use Rattle.watch.specs.Book.{book_in}
use Rattle.watch.specs.Parts.{number_of}
use Rattle.watch.proofs.Hearing.{tidied}
use Rattle.watch.proofs.Blames.{blames}
use Rattle.watch.proofs.blamed.blame.Goals as goal

pub returns-in_default : goal.returns-in_default
unfolding blamed
returns-in_default c =
    let k : part_of c.args.b.reading (book_in c.args.b) c.args.msg.now c.args.reply.now < 3 = omega (arith, c.in_default.ensures.part) in
    rw (lt-ltb (part_of c.args.b.reading (book_in c.args.b) c.args.msg.now c.args.reply.now) 3 k)

pub returns-then-number-lt3 : goal.returns-then-number-lt3
unfolding blamed
returns-then-number-lt3 c =
    let h = rw c.in-Err.is at c.hear.ensures in
    let k : part_of c.args.b.reading (book_in c.args.b) c.args.msg.now c.args.reply.now < 3 = omega (arith, h.part, c.number.ensures, c.if-number-lt3.true) in
    rw (lt-ltb (part_of c.args.b.reading (book_in c.args.b) c.args.msg.now c.args.reply.now) 3 k)

pub reply_blame-requires : goal.reply_blame-requires
reply_blame-requires c = tidied c.args.b c.tidy.result c.tidy.ensures

pub returns : goal.returns
returns c =
    let h = rw c.in-Err.is at c.hear.ensures in
    c.reply_blame.ensures
    ∙ blames c.args.b c.args.msg.now c.args.reply.now (number_of c.in-Err.part) h.part (omega (arith, c.number.ensures, c.if-number-lt3.false)) c.tidy.result c.tidy.ensures
