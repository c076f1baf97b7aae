-- Each part behind the one before it.
use mathlib.Core.Path.{ap, ◌∙◌}
use Prim.Native.Nat.{ℕ, ◌-◌}
use native.Mathlib.Omega.{arith}
use Rattle.stream.specs.Text.{decimal}
use Rattle.show.specs.Lines.{kind_word, refusal_word, refused_text}
use Rattle.stream.proofs.Spelling.{◌then◌, retold, roomier}
use Rattle.show.proofs.replies.put_refused.Goals as goal

pub returns : goal.returns
unfolding refused_text
returns c =
    let kind = retold (c.kind_word.ensures.0 ∙ ap (λ (k : ℕ). kind_word (k - 256)) c.u16_at.ensures) c.put-b.ensures in
    let number = retold (ap decimal c.u16_at-number.ensures) c.put_u32-e.ensures in
    let why = retold (c.refusal_word.ensures.0 ∙ ap refusal_word c.u16_at-number.ensures) c.put.ensures in
    roomier (omega (arith, c.kind_word.ensures.1, c.refusal_word.ensures.1)) (c.put-a.ensures then kind then c.put-c.ensures then number then c.put-f.ensures then why)
