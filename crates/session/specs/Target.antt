-- The surface that the caller chose for a begin, if one. A begin for which one is chosen is taken as the record with that
-- surface in its field; every other record is taken as it is.
use Rattle.std.specs.Prelude.{ℕ, List, ◌++◌, Bool, cond, ◌&&◌, take, drop, eqb, Option, None, Some}
use Rattle.paper.specs.declared.Surface.{Surface}
use Rattle.paper.specs.Numbers.{bytes32}
use Rattle.paper.specs.Kinds.{begin_kind, surface_place, neg_place}
use Rattle.paper.specs.Records.{Fields, kind_of, well_formed, fields_of}
use Rattle.format.specs.declared.records.BeginFields.{BeginFields}
use Rattle.format.specs.Reads.{begin_fields}

-- a well-formed begin
abbrev pub is_begin : List ℕ → Bool
is_begin r = well_formed r && eqb (kind_of r) begin_kind

-- the record with that surface in its field, where it is a well-formed begin; any other as it is
unfoldable pub with_surface : ℕ → List ℕ → List ℕ
with_surface x r = cond (is_begin r) (take surface_place r ++ bytes32 x ++ drop neg_place r) r

-- the record that is answered
abbrev pub taken_as : Option Surface → List ℕ → List ℕ
taken_as None r = r
taken_as (Some x) r = with_surface x.0 r

-- the fields of a begin with that surface in place of its own, and those that a begin is decided by
unfoldable pub fields_with : Surface → List ℕ → Fields
fields_with x r =
    record {
      nal = (fields_of r).nal;
      tid = (fields_of r).tid;
      flags = (fields_of r).flags;
      lsb = (fields_of r).lsb;
      surface = x;
      neg = (fields_of r).neg;
      pos = (fields_of r).pos;
      lt = (fields_of r).lt;
    }

abbrev pub fields_at : Option Surface → List ℕ → Fields
fields_at None r = fields_of r
fields_at (Some x) r = fields_with x r

-- likewise the fields before its entries, as they are read
abbrev pub begin_with : Surface → List ℕ → BeginFields
begin_with x r =
    record {
      nal = (begin_fields r).nal;
      tid = (begin_fields r).tid;
      flags = (begin_fields r).flags;
      lsb = (begin_fields r).lsb;
      surface = x;
      neg = (begin_fields r).neg;
      pos = (begin_fields r).pos;
      lt = (begin_fields r).lt;
    }

abbrev pub begin_at : Option Surface → List ℕ → BeginFields
begin_at None r = begin_fields r
begin_at (Some x) r = begin_with x r
