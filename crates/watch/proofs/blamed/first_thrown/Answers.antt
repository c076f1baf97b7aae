-- The second count of the tail tells whether there is one, and the first stands behind it.
use native.Mathlib.Omega.{arith}
use mathlib.Core.Path.{◌≡◌, ◌∙◌, sym, ap}
use Rattle.paper.specs.Numbers.{u8}
use Rattle.paper.specs.Kinds.{shown_width}
use Rattle.paper.specs.WholeReply.{thrown_at}
use Rattle.format.proofs.Ends.{past_count_lem}
use Rattle.watch.proofs.Blames.{thrown_none, thrown_first}
use Rattle.watch.proofs.blamed.first_thrown.Goals as goal

pub returns-then-byte-eq0 : goal.returns-then-byte-eq0
returns-then-byte-eq0 c =
    let e = c.behind_shown-second.ensures.0 ∙ past_count_lem shown_width c.args.reply.now c.args.at (omega (arith, c.requires)) in
    thrown_none c.args.st c.args.at c.args.reply.now (ap (u8 c.args.reply.now) (sym e) ∙ sym c.byte.ensures ∙ c.if-byte-eq0.true)

pub returns : goal.returns
returns c =
    let e = c.behind_shown-second.ensures.0 ∙ past_count_lem shown_width c.args.reply.now c.args.at (omega (arith, c.requires)) in
    let n : u8 c.args.reply.now (thrown_at shown_width c.args.reply.now c.args.at) ≡ 0 → ⊥ = λ q. c.if-byte-eq0.false (c.byte.ensures ∙ ap (u8 c.args.reply.now) e ∙ q) in
    rw (c.u32_at.ensures, e) (thrown_first c.args.st c.args.at c.args.reply.now n)
