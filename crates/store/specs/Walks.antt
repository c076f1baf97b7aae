-- What a walk over the stored pictures looks for or does, as tests and changes of one picture.
use Rattle.std.specs.Prelude.{Bool, false, cond, ◌&&◌, List, [], ◌∷◌, ℕ, ◌^◌, min, leb, ℤ, pos}
use Rattle.paper.specs.Poc.{mod_z, eq_z}
use Rattle.paper.specs.State.{is_marked, is_short_term}
use Rattle.paper.specs.Numbers.{missing}
use Rattle.paper.specs.Sets.{marked}
use Rattle.paper.specs.Calls.{raised}
use Rattle.paper.specs.Step.{held_by}
use Rattle.paper.specs.declared.Serial.{Serial}
use Rattle.paper.specs.declared.Surface.{Surface}
use Rattle.paper.specs.declared.Mark.TheVariants.{Unmarked}
use Rattle.paper.specs.declared.Picture.{Picture}
use Rattle.paper.specs.declared.Wish.{Wish}
use Rattle.store.specs.declared.pictures.Sought.{Sought}
use Rattle.store.specs.declared.pictures.Sought.TheVariants.{AnyAt, LowAt, ShortAt, HeldBy}
use Rattle.store.specs.declared.pictures.Change.{Change}
use Rattle.std.specs.Prelude.{Option, None, Some}

-- "any mark and equal POC", "or equal POC mod M", "short-term .. of equal POC"
abbrev pub any_at : ℤ → Picture → Bool
any_at z p = is_marked p.mark && eq_z p.poc z

abbrev pub low_at : ℕ → ℤ → Picture → Bool
low_at M z p = is_marked p.mark && eq_z (pos (mod_z p.poc M)) z

abbrev pub short_at : ℤ → Picture → Bool
short_at z p = is_short_term p.mark && eq_z p.poc z

-- "a waiting picture's count ≥ latency"
abbrev pub late_by : ℕ → Picture → Bool
late_by n p = p.waiting && leb n p.count

abbrev pub passing : Sought → Picture → Bool
passing (AnyAt z) = any_at z
passing (LowAt k z) = low_at (2 ^ (min k 16)) z
passing (ShortAt z) = short_at z
passing (HeldBy x) = held_by x

-- what an entry asks for: a long-term one by its whole POC or by its low bits, a short-term one
abbrev pub sought_for : Bool → ℕ → Wish → Sought
sought_for long k w = cond long (cond w.whole (AnyAt w.poc) (LowAt k w.poc)) (ShortAt w.poc)

-- "first stored picture with ..", and what it is in a set: its serial, or `missing`
unfoldable pub found_of : (Picture → Bool) → List Picture → Option Picture
found_of t [] = None
found_of t (p ∷ ps) = cond (t p) (Some p) (found_of t ps)

abbrev pub member_of : Option Picture → Serial
member_of None = missing
member_of (Some p) = p.serial

abbrev pub serial_of : Picture → Serial
serial_of p = p.serial

abbrev pub surface_of : Picture → Surface
surface_of p = p.surface

-- a picture where there is none
abbrev pub blank : Picture
blank =
    record {
      serial = record { 0 = 0 };
      surface = record { 0 = 0 };
      poc = pos 0;
      mark = Unmarked;
      waiting = false;
      count = 0;
    }

-- what is done to a picture that is read: nothing, "every stored count rises by 1", "IRAP with NoRaslOutputFlag unmarks
-- all"
abbrev pub change_by : Change → Picture → Picture
change_by Change.Nothing p = p
change_by Change.Raise p = raised p
change_by Change.Unmark p = marked Unmarked p

abbrev pub unmark_if : Bool → Change
unmark_if over = cond over Change.Unmark Change.Nothing
