-- Records and replies in bytes: their kinds, the places of their parts and the widths of these. Each number is written
-- once, here.
use Rattle.std.specs.Prelude.{ℕ, ◌+◌, ◌*◌, List}
use Rattle.paper.specs.Numbers.{u8}

-- "1 configure", "2 begin", "3 lists", "4 finish, 5 drain, 6 discard, 7 end of sequence, 8 abandon"
abbrev pub configure_kind : ℕ
configure_kind = 1

abbrev pub begin_kind : ℕ
begin_kind = 2

abbrev pub lists_kind : ℕ
lists_kind = 3

abbrev pub finish_kind : ℕ
finish_kind = 4

abbrev pub drain_kind : ℕ
drain_kind = 5

abbrev pub discard_kind : ℕ
discard_kind = 6

abbrev pub end_kind : ℕ
end_kind = 7

abbrev pub abandon_kind : ℕ
abandon_kind = 8

-- "A reply has the same head with kind 256 + record kind"
abbrev pub reply_offset : ℕ
reply_offset = 256

abbrev pub reply_to : ℕ → ℕ
reply_to kind = reply_offset + kind

-- number 13: "its reply kind is 511"
abbrev pub malformed_reply : ℕ
malformed_reply = 511

-- "A record is u16 body length, u16 kind, body.": the places of kind and body
abbrev pub kind_place : ℕ
kind_place = 2

abbrev pub body_place : ℕ
body_place = 4

-- of a reply: "its body starts with a u16 refusal number". A refusal ends behind it; the rest of an accepted reply
-- begins there.
abbrev pub number_place : ℕ
number_place = body_place

abbrev pub rest_place : ℕ
rest_place = number_place + 2

-- the width of a serial, of a surface and of a POC
abbrev pub word_width : ℕ
word_width = 4

-- "(serial u32, surface u32, POC i32) of each picture handed out"
abbrev pub shown_width : ℕ
shown_width = 3 * word_width

-- configure: "k u8, capacity u8, buffering u8, reorder u8, latency u16"
abbrev pub k_place : ℕ
k_place = body_place

abbrev pub capacity_place : ℕ
capacity_place = k_place + 1

abbrev pub buffering_place : ℕ
buffering_place = capacity_place + 1

abbrev pub reorder_place : ℕ
reorder_place = buffering_place + 1

abbrev pub latency_place : ℕ
latency_place = reorder_place + 1

abbrev pub configure_length : ℕ
configure_length = 6

-- begin: "NAL type u8, temporal id u8, flags u8, lsb u16, surface u32, counts neg, pos, lt u8 each": twelve bytes, and
-- the entries behind them
abbrev pub nal_place : ℕ
nal_place = body_place

abbrev pub tid_place : ℕ
tid_place = nal_place + 1

abbrev pub begin_flags_place : ℕ
begin_flags_place = tid_place + 1

abbrev pub lsb_place : ℕ
lsb_place = begin_flags_place + 1

abbrev pub surface_place : ℕ
surface_place = lsb_place + 2

abbrev pub neg_place : ℕ
neg_place = surface_place + word_width

abbrev pub pos_place : ℕ
pos_place = neg_place + 1

abbrev pub lt_place : ℕ
lt_place = pos_place + 1

abbrev pub entries_place : ℕ
entries_place = lt_place + 1

abbrev pub begin_length : ℕ
begin_length = 12

-- "then per neg, then per pos: delta i32, used u8; per lt: lsb u16, flags u8, cycle u32": where each part of an entry
-- stands in it, and its width
abbrev pub entry_used : ℕ
entry_used = word_width

abbrev pub short_width : ℕ
short_width = entry_used + 1

abbrev pub entry_flags : ℕ
entry_flags = 2

abbrev pub entry_cycle : ℕ
entry_cycle = entry_flags + 1

abbrev pub long_width : ℕ
long_width = entry_cycle + word_width

-- lists: "slice type u8, flags u8, a0 u8, a1 u8": four bytes, and the entry bytes behind them
abbrev pub slice_place : ℕ
slice_place = body_place

abbrev pub slice_flags_place : ℕ
slice_flags_place = slice_place + 1

abbrev pub active0_place : ℕ
active0_place = slice_flags_place + 1

abbrev pub active1_place : ℕ
active1_place = active0_place + 1

abbrev pub entry_bytes_place : ℕ
entry_bytes_place = active1_place + 1

abbrev pub slice_length : ℕ
slice_length = 4

-- what an accepted begin says behind its number, from there on: "POC i32, flags u8, .. serial u32, five u8 counts, ..
-- their members in that order as u32 serials, the tail"
abbrev pub begun_flags : ℕ
begun_flags = word_width

abbrev pub begun_serial : ℕ
begun_serial = begun_flags + 1

abbrev pub begun_counts : ℕ
begun_counts = begun_serial + word_width

abbrev pub begun_members : ℕ
begun_members = begun_counts + 5

-- the sum of five counts, from a place on
abbrev pub five_counts : List ℕ → ℕ → ℕ
five_counts bs at = u8 bs at + u8 bs (at + 1) + u8 bs (at + 2) + u8 bs (at + 3) + u8 bs (at + 4)

-- these places in the whole reply
abbrev pub poc_place : ℕ
poc_place = rest_place

abbrev pub flags_place : ℕ
flags_place = rest_place + begun_flags

abbrev pub serial_place : ℕ
serial_place = rest_place + begun_serial

abbrev pub counts_place : ℕ
counts_place = rest_place + begun_counts

abbrev pub members_place : ℕ
members_place = rest_place + begun_members

-- "Lists holds 0, two u8 lengths, the u32 serials.": the place of the serials
abbrev pub lists_place : ℕ
lists_place = rest_place + 2
