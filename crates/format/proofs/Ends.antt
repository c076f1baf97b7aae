-- A place behind a count, and where a tail begins, by cases.
use Prim.Native.Nat.{ℕ, ◌+◌, ◌*◌, ◌<◌}
use mathlib.Core.Path.{◌≡◌}
use mathlib.Core.List.{List}
use borrow.Author.Tests.{ne_eqb, lt-ltb}
use Rattle.paper.specs.Kinds.{begin_kind, reply_to, rest_place, word_width, members_place}
use Rattle.paper.specs.Records.{kind_of}
use Rattle.paper.specs.WholeReply.{past_items, members_of, tail_place}
use Rattle.format.specs.Counts.{past_count}

-- a count at a place that a reply can have
pub past_count_lem : (width : ℕ) (r : List ℕ) (at : ℕ) → at < 65539 → past_count width r at ≡ past_items width r at
past_count_lem width r at h = simp (lt-ltb at 65539 h)

module _ (a : List ℕ) where
  pub tail_begun : kind_of a ≡ reply_to begin_kind → tail_place a ≡ members_place + word_width * members_of a
  tail_begun k = simp k

  pub tail_other : (kind_of a ≡ reply_to begin_kind → ⊥) → tail_place a ≡ rest_place
  tail_other n = simp (ne_eqb (kind_of a) (reply_to begin_kind) n)
