-- When the bytes of a reply are whole: exactly the length that its kind and its counts call for ("Accepted replies").
use Rattle.std.specs.Prelude.{ℕ, ◌+◌, ◌*◌, List, Bool, cond, not, ◌&&◌, ◌||◌, length, leb, eqb}
use Rattle.paper.specs.Numbers.{u8, u16}
use Rattle.paper.specs.Records.{length_of, kind_of}
use Rattle.paper.specs.Kinds.{configure_kind, begin_kind, lists_kind, abandon_kind, reply_to, malformed_reply}
use Rattle.paper.specs.Kinds.{body_place, number_place, rest_place, counts_place, members_place, five_counts}
use Rattle.paper.specs.Kinds.{lists_place, word_width}
use Rattle.paper.specs.declared.Reading.{Reading}
use Rattle.paper.specs.Reading.{shown_width_in}

-- "A tail is: u8 count and (serial u32, surface u32, POC i32) of each picture handed out; u8 count and serials thrown
-- away; u8 count and surfaces released." The place behind a count at a place and as many items of a width:
abbrev pub past_items : ℕ → List ℕ → ℕ → ℕ
past_items width r at = at + 1 + width * u8 r at

-- of the tail that begins at a place and names each picture handed out in so many bytes: the places of the second and
-- of the third count, and its end
abbrev pub thrown_at : ℕ → List ℕ → ℕ → ℕ
thrown_at width r at = past_items width r at

abbrev pub released_at : ℕ → List ℕ → ℕ → ℕ
released_at width r at = past_items word_width r (thrown_at width r at)

abbrev pub tail_end : ℕ → List ℕ → ℕ → ℕ
tail_end width r at = past_items word_width r (released_at width r at)

-- Begin: the members of its five sets
abbrev pub members_of : List ℕ → ℕ
members_of r = five_counts r counts_place

-- where the tail of an accepted reply begins, if it has one
abbrev pub tail_place : List ℕ → ℕ
tail_place r = cond (eqb (kind_of r) (reply_to begin_kind)) (members_place + word_width * members_of r) rest_place

-- "kinds 1 and 4 to 8 hold the refusal number 0 and a tail. Begin holds 0, POC i32, flags u8, serial u32, five u8
-- counts, their members as u32 serials, the tail. Lists holds 0, two u8 lengths, the u32 serials." A refusal holds its
-- number alone.
unfoldable pub reply_end : Reading → List ℕ → ℕ
reply_end st r =
    cond (not (eqb (u16 r number_place) 0)) rest_place
    (cond (eqb (kind_of r) (reply_to lists_kind)) (lists_place + word_width * (u8 r rest_place + u8 r (rest_place + 1)))
    (tail_end (shown_width_in st) r (tail_place r)))

-- "kind 256 + record kind", or that of number 13, which is always a refusal
abbrev pub reply_kind : List ℕ → Bool
reply_kind r =
    (leb (reply_to configure_kind) (kind_of r) && leb (kind_of r) (reply_to abandon_kind))
    || (eqb (kind_of r) malformed_reply && not (eqb (u16 r number_place) 0))

unfoldable pub whole_reply : Reading → List ℕ → Bool
whole_reply st r =
    leb rest_place (length r)
    && (eqb (length r) (body_place + length_of r) && (reply_kind r && eqb (length r) (reply_end st r)))
