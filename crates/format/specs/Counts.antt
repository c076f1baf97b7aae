-- The counts of a reply: each says how many items stand behind it.
use Rattle.std.specs.Prelude.{ℕ, List, cond, ltb}
use Rattle.paper.specs.WholeReply.{past_items}

-- the place behind a count at a place and as many items of that width. "u16 body length, u16 kind, body" is at most
-- 65539 bytes: a place from there on is behind every reply, and stays
abbrev pub past_count : ℕ → List ℕ → ℕ → ℕ
past_count width r at = cond (ltb at 65539) (past_items width r at) at
