-- The three parts stand behind their counts.
use mathlib.Core.Path.{◌≡◌, ap, ◌∙◌}
use Prim.Native.Nat.{ℕ}
use native.Mathlib.Omega.{arith}
use Rattle.paper.specs.Kinds.{word_width}
use Rattle.paper.specs.Reading.{shown_width_in}
use Rattle.paper.specs.WholeReply.{past_items, released_at}
use Rattle.format.proofs.Ends.{past_count_lem}
use Rattle.pool.proofs.TailLaws.{tells_tail}
use Rattle.pool.proofs.tails.tail_at.Goals as goal

pub returns : goal.returns
returns c =
    let w = shown_width_in c.args.st in
    let second = c.behind_shown-second.ensures.0 ∙ past_count_lem w c.args.reply.now c.args.at (omega (arith, c.requires)) in
    let third : c.behind-third.result ≡ released_at w c.args.reply.now c.args.at =
    c.behind-third.ensures.0 ∙ past_count_lem word_width c.args.reply.now c.behind_shown-second.result (omega (arith, c.behind_shown-second.ensures.1, c.requires)) ∙ ap (λ (k : ℕ). past_items word_width c.args.reply.now k) second in
    tells_tail c.args.n c.args.st c.args.reply.now c.args.at c.named-handed.result c.named-released.result
    (rw (c.shown_width-width.ensures, c.byte-shown.ensures) at c.named-handed.ensures)
    (rw (c.byte-freed.ensures, third) at c.named-released.ensures)
