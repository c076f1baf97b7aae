-- `judge`: a refusal, a begun picture, lists and a closing call are judged each by its function; number and kind tell
-- which it is.
use native.Mathlib.Omega.{arith}
use mathlib.Core.Path.{◌≡◌, ap, ◌∙◌}
use Prim.Native.Nat.{◌-◌}
use Rattle.paper.specs.Numbers.{u16}
use Rattle.paper.specs.Kinds.{begin_kind, lists_kind, reply_to, reply_offset, number_place}
use Rattle.paper.specs.Records.{kind_of}
use Rattle.watch.proofs.Ways.{judged_refused, judged_listed, done_7, done_8, done_else}
use borrow.Author.Rules.{rules}
use Rattle.std.specs.Prelude.{Some}
use Rattle.watch.proofs.ReplyKinds.{number_at, kind_at}
use Rattle.format.specs.declared.kinds.Kind.TheVariants.{Begin, Lists, End, Abandon}
use Rattle.watch.proofs.ReplyLaws.{read_refused, read_started, read_listed, read_done, lists_read}
use Rattle.watch.proofs.parts.judge.Goals as goal

pub returns-then-u16_at-ne0 : goal.returns-then-u16_at-ne0
returns-then-u16_at-ne0 c =
    let n : u16 c.args.reply.now number_place ≡ 0 → ⊥ = omega arith in
    rw (read_refused c.args.b.reading c.args.reply.now n) (judged_refused c.args.b c.args.msg.now _ _ c.requires)

pub returns-in-Some-Begin : goal.returns-in-Some-Begin
returns-in-Some-Begin c =
    let z : u16 c.args.reply.now number_place ≡ 0 = omega arith in
    let k : kind_of c.args.reply.now ≡ reply_to begin_kind = number_at Begin c.kind_answered.result (kind_of c.args.reply.now) c.kind_answered.ensures (c.in-Some-Begin.is ∙ ap Some c.in-Some-Begin.field-0-is) in
    rw (read_started c.args.b.reading c.args.reply.now z k) c.started.ensures

pub returns-in-Some-Lists : goal.returns-in-Some-Lists
returns-in-Some-Lists c =
    let z : u16 c.args.reply.now number_place ≡ 0 = omega arith in
    let k : kind_of c.args.reply.now ≡ reply_to lists_kind = number_at Lists c.kind_answered.result (kind_of c.args.reply.now) c.kind_answered.ensures (c.in-Some-Lists.is ∙ ap Some c.in-Some-Lists.field-0-is) in
    rw (read_listed c.args.b.reading c.args.reply.now z k) (judged_listed c.args.b c.args.msg.now _ _ _ (rw (lists_read c.args.reply.now) c.listed.ensures))

pub returns-in-Some-End : goal.returns-in-Some-End
returns-in-Some-End c =
    let z : u16 c.args.reply.now number_place ≡ 0 = omega arith in
    let k : kind_of c.args.reply.now ≡ reply_to 7 = number_at End c.kind_answered.result (kind_of c.args.reply.now) c.kind_answered.ensures (c.in-Some-End.is ∙ ap Some c.in-Some-End.field-0-is) in
    rw (read_done c.args.b.reading c.args.reply.now z (omega arith) (omega arith)) (done_7 c.args.b c.args.msg.now _ _ _ (omega arith) c.ended.ensures)

pub returns-in-Some-Abandon : goal.returns-in-Some-Abandon
returns-in-Some-Abandon c =
    let z : u16 c.args.reply.now number_place ≡ 0 = omega arith in
    let k : kind_of c.args.reply.now ≡ reply_to 8 = number_at Abandon c.kind_answered.result (kind_of c.args.reply.now) c.kind_answered.ensures (c.in-Some-Abandon.is ∙ ap Some c.in-Some-Abandon.field-0-is) in
    rw (read_done c.args.b.reading c.args.reply.now z (omega arith) (omega arith)) (done_8 c.args.b c.args.msg.now _ _ _ (omega arith) c.abandoned.ensures)

pub returns-in_default : goal.returns-in_default
returns-in_default c =
    let z : u16 c.args.reply.now number_place ≡ 0 = omega arith in
    let n : kind_of c.args.reply.now ≡ reply_to begin_kind → ⊥ = λ e. let k = kind_at Begin c.kind_answered.result (kind_of c.args.reply.now) c.kind_answered.ensures e in search rules in
    let m : kind_of c.args.reply.now ≡ reply_to lists_kind → ⊥ = λ e. let k = kind_at Lists c.kind_answered.result (kind_of c.args.reply.now) c.kind_answered.ensures e in search rules in
    let o : kind_of c.args.reply.now - reply_offset ≡ 7 → ⊥ = λ e. let k = kind_at End c.kind_answered.result (kind_of c.args.reply.now) c.kind_answered.ensures (omega arith) in search rules in
    let q : kind_of c.args.reply.now - reply_offset ≡ 8 → ⊥ = λ e. let k = kind_at Abandon c.kind_answered.result (kind_of c.args.reply.now) c.kind_answered.ensures (omega arith) in search rules in
    rw (read_done c.args.b.reading c.args.reply.now z n m) (done_else c.args.b c.args.msg.now _ _ _ o q c.landed.ensures)
