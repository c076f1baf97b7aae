-- The kind, then the tail.
use mathlib.Core.Path.{ap, ◌∙◌}
use Prim.Native.Nat.{ℕ, ◌-◌}
use native.Mathlib.Omega.{arith}
use Rattle.show.specs.Lines.{kind_word, done_text}
use Rattle.stream.proofs.Spelling.{◌then◌, retold, roomier}
use Rattle.show.proofs.replies.put_done.Goals as goal

pub returns : goal.returns
unfolding done_text
returns c =
    let kind = retold (c.kind_word.ensures.0 ∙ ap (λ (k : ℕ). kind_word (k - 256)) c.u16_at.ensures) c.put-b.ensures in
    roomier (omega (arith, c.kind_word.ensures.1)) (c.put-a.ensures then kind then c.put_tail.ensures)
