-- A record as the readers answer it.
use Rattle.std.specs.Prelude.{ℕ, ◌≡◌, List}
use Rattle.paper.specs.Numbers.{u8, u16, u32, a_surface}
use Rattle.paper.specs.Kinds.{nal_place, tid_place, begin_flags_place, lsb_place, surface_place, neg_place, pos_place, lt_place}
use Rattle.paper.specs.Records.{ListAsk, Slice}
use Rattle.format.specs.declared.records.BeginFields.{BeginFields}
use Rattle.format.specs.declared.records.Ask.{Ask}
use Rattle.format.specs.declared.records.SliceFields.{SliceFields}

-- the fields of a begin before its entries
abbrev pub begin_fields : List ℕ → BeginFields
begin_fields r =
    record {
      nal = u8 r nal_place;
      tid = u8 r tid_place;
      flags = u8 r begin_flags_place;
      lsb = u16 r lsb_place;
      surface = a_surface (u32 r surface_place);
      neg = u8 r neg_place;
      pos = u8 r pos_place;
      lt = u8 r lt_place;
    }

-- what was read of a lists record is what it says: of one list, but for its entry bytes, and before the entry bytes of
-- both
pub record AsksAs (a : Ask) (x : ListAsk) : Type 0 where
  pub uses : a.uses ≡ x.uses
  pub active : a.active ≡ x.active
  pub modify : a.modify ≡ x.modify

pub record ReadsAs (h : SliceFields) (f : Slice) : Type 0 where
  pub slice : h.slice ≡ f.slice_type
  pub flags : h.flags ≡ f.flags
  pub own : h.own ≡ f.own
  pub ask0 : AsksAs h.ask0 f.ask0
  pub ask1 : AsksAs h.ask1 f.ask1
