-- `tally_of`: only an accepted reply tells something, a lists reply one list, another its tail; number and kind tell
-- which it is.
use native.Mathlib.Omega.{arith}
use mathlib.Core.Path.{◌≡◌, ◌∙◌}
use Rattle.paper.specs.Numbers.{u16}
use Rattle.paper.specs.Kinds.{lists_kind, reply_to, number_place, shown_width}
use Rattle.paper.specs.Records.{kind_of}
use Prim.Native.Nat.{◌≤◌}
use Rattle.format.proofs.Ends.{past_count_lem}
use Rattle.watch.specs.Book.{most}
use Rattle.watch.proofs.ReplyLaws.{tally_refused, tally_listed, tally_tail}
use borrow.Author.Rules.{rules}
use Rattle.watch.proofs.replies.tally_of.Goals as goal

pub returns-then-u16_at-ne0 : goal.returns-then-u16_at-ne0
returns-then-u16_at-ne0 c =
    let n : u16 c.args.reply.now number_place ≡ 0 → ⊥ = omega arith in
    let x : c.args.t.handed ≤ most = search rules in
    let y : c.args.t.thrown ≤ most = search rules in
    let z : c.args.t.lists ≤ most = search rules in
    rw c.plus.ensures (tally_refused c.args.st c.args.t c.args.reply.now n x y z)

pub returns-then-u16_at-reply : goal.returns-then-u16_at-reply
returns-then-u16_at-reply c =
    let w : u16 c.args.reply.now number_place ≡ 0 = omega arith in
    let k : kind_of c.args.reply.now ≡ reply_to lists_kind = omega arith in
    let x : c.args.t.handed ≤ most = search rules in
    let y : c.args.t.thrown ≤ most = search rules in
    let z : c.args.t.refused ≤ most = search rules in
    rw c.plus-then-u16_at-reply.ensures (tally_listed c.args.st c.args.t c.args.reply.now w k x y z)

pub returns : goal.returns
returns c =
    let w : u16 c.args.reply.now number_place ≡ 0 = omega (arith, c.if-u16_at-ne0.false, c.u16_at.ensures) in
    let k : kind_of c.args.reply.now ≡ reply_to lists_kind → ⊥ = omega (arith, c.if-u16_at-reply.false, c.u16_at-2.ensures) in
    let z : c.args.t.lists ≤ most = search (rules, c.well_formed) in
    let f : c.args.t.refused ≤ most = search (rules, c.well_formed) in
    rw (c.plus-2.ensures, c.plus-3.ensures, c.byte.ensures, c.byte-2.ensures, c.behind_shown-second.ensures.0 ∙ past_count_lem shown_width c.args.reply.now c.tail_place-at.result (omega (arith, c.tail_place-at.ensures.1)), c.tail_place-at.ensures.0) (tally_tail c.args.st c.args.t c.args.reply.now w k z f)
