-- A refusal, a begun picture, lists and any other call are asked each by its function; number and kind tell which it
-- is.
use native.Mathlib.Omega.{arith}
use borrow.Author.Rules.{rules}
use Rattle.std.specs.Prelude.{Some}
use mathlib.Core.Path.{◌≡◌, ap, ◌∙◌}
use Rattle.paper.specs.Numbers.{u16}
use Rattle.paper.specs.Kinds.{begin_kind, lists_kind, reply_to, number_place}
use Rattle.paper.specs.Records.{kind_of}
use Rattle.paper.specs.Blame.{reply_blame}
use Rattle.format.specs.declared.kinds.Kind.TheVariants.{Begin, Lists}
use Rattle.watch.proofs.ReplyKinds.{number_at, kind_at}
use Rattle.watch.proofs.ReplyLaws.{read_refused, read_started, read_listed, read_done, lists_read}
use Rattle.watch.proofs.blamed.reply_blame.Goals as goal

pub returns-then-u16_at-ne0 : goal.returns-then-u16_at-ne0
unfolding reply_blame
returns-then-u16_at-ne0 c =
    let n : u16 c.args.reply.now number_place ≡ 0 → ⊥ = omega arith in
    rw (read_refused c.args.b.reading c.args.reply.now n)

pub returns-in-Some-Begin : goal.returns-in-Some-Begin
returns-in-Some-Begin c =
    let z : u16 c.args.reply.now number_place ≡ 0 = omega arith in
    let k : kind_of c.args.reply.now ≡ reply_to begin_kind = number_at Begin c.kind_answered.result (kind_of c.args.reply.now) c.kind_answered.ensures (c.in-Some-Begin.is ∙ ap Some c.in-Some-Begin.field-0-is) in
    rw (read_started c.args.b.reading c.args.reply.now z k) c.started_blame.ensures

pub returns-in-Some-Lists : goal.returns-in-Some-Lists
unfolding reply_blame
returns-in-Some-Lists c =
    let z : u16 c.args.reply.now number_place ≡ 0 = omega arith in
    let k : kind_of c.args.reply.now ≡ reply_to lists_kind = number_at Lists c.kind_answered.result (kind_of c.args.reply.now) c.kind_answered.ensures (c.in-Some-Lists.is ∙ ap Some c.in-Some-Lists.field-0-is) in
    rw (read_listed c.args.b.reading c.args.reply.now z k) (rw (lists_read c.args.reply.now) c.listed_blame.ensures)

pub returns-in_default : goal.returns-in_default
unfolding reply_blame
returns-in_default c =
    let z : u16 c.args.reply.now number_place ≡ 0 = omega arith in
    let n : kind_of c.args.reply.now ≡ reply_to begin_kind → ⊥ = λ e. let k = kind_at Begin c.kind_answered.result (kind_of c.args.reply.now) c.kind_answered.ensures e in search rules in
    let m : kind_of c.args.reply.now ≡ reply_to lists_kind → ⊥ = λ e. let k = kind_at Lists c.kind_answered.result (kind_of c.args.reply.now) c.kind_answered.ensures e in search rules in
    rw (read_done c.args.b.reading c.args.reply.now z n m) c.done_blame.ensures
