-- Text laid into a buffer.
use Rattle.std.specs.Prelude.{ℕ, ◌≡◌, List, ◌++◌, length, take, drop}
use Rattle.wire.specs.Bytes.{over}

-- from a place on: what is in front of it and what is behind it stays
abbrev pub laid_at : ℕ → List ℕ → List ℕ → List ℕ
laid_at made text l = take made l ++ over text (drop made l)

-- the first `made` bytes are this text, and behind them the buffer is as it was
pub record Puts (made : ℕ) (text before after : List ℕ) : Type 0 where
  pub long : made ≡ length text
  pub bytes : after ≡ over text before
