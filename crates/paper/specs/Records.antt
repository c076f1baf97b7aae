-- Records: kinds, bodies and the fields of a body.
use Rattle.std.specs.Prelude.{ℕ, ◌+◌, ◌*◌, List, Bool, cond, ◌&&◌, length, ltb, leb, eqb}
use Rattle.paper.specs.declared.Surface.{Surface}
use Rattle.paper.specs.declared.Limits.{Limits}
use Rattle.paper.specs.declared.ShortEntry.{ShortEntry}
use Rattle.paper.specs.declared.LongEntry.{LongEntry}
use Rattle.paper.specs.Words.{table}
use Rattle.paper.specs.Numbers.{u8, u16, u32, i32, bit, a_surface, body_limit}
use Rattle.paper.specs.Kinds.{configure_kind, begin_kind, lists_kind, finish_kind, abandon_kind, kind_place, body_place}
use Rattle.paper.specs.Kinds.{k_place, capacity_place, buffering_place, reorder_place, latency_place, configure_length}
use Rattle.paper.specs.Kinds.{nal_place, tid_place, begin_flags_place, lsb_place, surface_place, neg_place, pos_place}
use Rattle.paper.specs.Kinds.{lt_place, entries_place, begin_length}
use Rattle.paper.specs.Kinds.{entry_used, short_width, entry_flags, entry_cycle, long_width}
use Rattle.paper.specs.Kinds.{slice_place, slice_flags_place, active0_place, active1_place, entry_bytes_place}
use Rattle.paper.specs.Kinds.{slice_length}

-- "A record is u16 body length, u16 kind, body."
abbrev pub length_of : List ℕ → ℕ
length_of r = u16 r 0

abbrev pub kind_of : List ℕ → ℕ
kind_of r = u16 r kind_place

-- "1 configure: k u8, capacity u8, buffering u8, reorder u8, latency u16"
abbrev pub limits_of : List ℕ → Limits
limits_of r =
    record {
      k = u8 r k_place;
      capacity = u8 r capacity_place;
      buffering = u8 r buffering_place;
      reorder = u8 r reorder_place;
      latency = u16 r latency_place;
    }

-- "2 begin: NAL type u8, temporal id u8, flags u8, lsb u16, surface u32, counts neg, pos, lt u8 each; then per neg,
-- then per pos: delta i32, used u8; per lt: lsb u16, flags u8, cycle u32"
pub record Fields : Type 0 where
  pub nal : ℕ
  pub tid : ℕ
  pub flags : ℕ
  pub lsb : ℕ
  pub surface : Surface
  pub neg : List ShortEntry
  pub pos : List ShortEntry
  pub lt : List LongEntry

abbrev pub short_at : List ℕ → ℕ → ℕ → ShortEntry
short_at r at i = record { delta = i32 r (at + short_width * i); used = u8 r (at + short_width * i + entry_used) }

abbrev pub long_at : List ℕ → ℕ → ℕ → LongEntry
long_at r at i =
    record {
      lsb = u16 r (at + long_width * i);
      flags = u8 r (at + long_width * i + entry_flags);
      cycle = u32 r (at + long_width * i + entry_cycle);
    }

unfoldable pub fields_of : List ℕ → Fields
fields_of r =
    record {
      nal = u8 r nal_place;
      tid = u8 r tid_place;
      flags = u8 r begin_flags_place;
      lsb = u16 r lsb_place;
      surface = a_surface (u32 r surface_place);
      neg = table (short_at r entries_place) (u8 r neg_place);
      pos = table (short_at r (entries_place + short_width * u8 r neg_place)) (u8 r pos_place);
      lt = table (long_at r (entries_place + short_width * (u8 r neg_place + u8 r pos_place))) (u8 r lt_place);
    }

-- "3 lists: slice type u8 (0 B, 1 P, 2 I), flags u8 (bit 0 modify list 0, bit 1 modify list 1, bit 2 current picture is
-- a candidate), a0 u8, a1 u8; a0 entry bytes if bit 0; a1 if bit 1". What it says of one list:
pub record ListAsk : Type 0 where
  pub uses : Bool
  pub active : ℕ
  pub modify : Bool
  pub entries : List ℕ

pub record Slice : Type 0 where
  pub slice_type : ℕ
  pub flags : ℕ
  pub own : Bool
  pub ask0 : ListAsk
  pub ask1 : ListAsk

-- how many entry bytes stand for list 0 and for list 1: the modify bits alone decide
abbrev pub entries0 : List ℕ → ℕ
entries0 r = cond (bit 0 (u8 r slice_flags_place)) (u8 r active0_place) 0

abbrev pub entries1 : List ℕ → ℕ
entries1 r = cond (bit 1 (u8 r slice_flags_place)) (u8 r active1_place) 0

-- a B slice uses both lists, a P slice list 0 alone, an I slice none
unfoldable pub slice_of : List ℕ → Slice
slice_of r =
    record {
      slice_type = u8 r slice_place;
      flags = u8 r slice_flags_place;
      own = bit 2 (u8 r slice_flags_place);
      ask0 =
          record {
            uses = ltb (u8 r slice_place) 2;
            active = u8 r active0_place;
            modify = bit 0 (u8 r slice_flags_place);
            entries = table (λ (i : ℕ). u8 r (entry_bytes_place + i)) (entries0 r);
          };
      ask1 =
          record {
            uses = eqb (u8 r slice_place) 0;
            active = u8 r active1_place;
            modify = bit 1 (u8 r slice_flags_place);
            entries = table (λ (i : ℕ). u8 r (entry_bytes_place + entries0 r + i)) (entries1 r);
          };
    }

-- the body length that kind and counts call for; "4 finish, 5 drain, 6 discard, 7 end of sequence, 8 abandon: empty"
abbrev pub body_ok : List ℕ → Bool
body_ok r =
    cond (eqb (kind_of r) configure_kind) (eqb (length_of r) configure_length)
    (cond (eqb (kind_of r) begin_kind)
    (eqb (length_of r) (begin_length + short_width * (u8 r neg_place + u8 r pos_place) + long_width * u8 r lt_place))
    (cond (eqb (kind_of r) lists_kind) (eqb (length_of r) (slice_length + entries0 r + entries1 r))
    (leb finish_kind (kind_of r) && leb (kind_of r) abandon_kind && eqb (length_of r) 0)))

-- number 13: "slice not exactly head plus body, body over 512 bytes, unknown kind, or body length not what kind and
-- counts call for"
unfoldable pub well_formed : List ℕ → Bool
well_formed r =
    leb body_place (length r) && eqb (length r) (body_place + length_of r) && leb (length_of r) body_limit && body_ok r
