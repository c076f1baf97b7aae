-- The parts of demand 3 by their numbers.
use Rattle.std.specs.Prelude.{ℕ, Option, None, Some, Result, Ok, Err}
use Rattle.paper.specs.declared.Blamed.{Blamed}
use Rattle.paper.specs.declared.Blamed.TheVariants.{Nothing}
use Rattle.watch.specs.declared.demand.Part.{Part}
use Rattle.watch.specs.declared.demand.Part.TheVariants.{NotWhole, OtherReply, BegunWhileCurrent, NotNextSerial, BegunOnHeld, HandedNotWaiting}
use Rattle.watch.specs.declared.demand.Part.TheVariants.{HandedElsewhere, ThrownNotWaiting, ThrownByCall, ReleasedNothing, ReleasedWaiting, NamesNotHeld}
use Rattle.watch.specs.declared.demand.Part.TheVariants.{NoCurrent, EndMoves, LeavesSome, StoresTooMany, RecordAlone, ReplyAlone}
use Rattle.watch.specs.declared.demand.Part.TheVariants.{ThrownByBegin}
use Rattle.watch.specs.declared.demand.Broken.{Broken}

abbrev pub number_of : Part → ℕ
number_of NotWhole = 1
number_of OtherReply = 2
number_of BegunWhileCurrent = 3
number_of NotNextSerial = 4
number_of BegunOnHeld = 5
number_of HandedNotWaiting = 6
number_of HandedElsewhere = 7
number_of ThrownNotWaiting = 8
number_of ThrownByCall = 9
number_of ReleasedNothing = 10
number_of ReleasedWaiting = 11
number_of NamesNotHeld = 12
number_of NoCurrent = 13
number_of EndMoves = 14
number_of LeavesSome = 15
number_of StoresTooMany = 16
number_of RecordAlone = 17
number_of ReplyAlone = 18
number_of ThrownByBegin = 19

-- the part that an answer says is broken, or 0
abbrev pub part_in : {A : Type 0} → Result A Part → ℕ
part_in (Ok x) = 0
part_in (Err p) = number_of p

abbrev pub part_told : {A : Type 0} → Result A Broken → ℕ
part_told (Ok x) = 0
part_told (Err y) = number_of y.part

abbrev pub part_at : Option Broken → ℕ
part_at None = 0
part_at (Some y) = number_of y.part

-- and what it is broken with
abbrev pub blamed_at : Option Broken → Blamed
blamed_at None = Nothing
blamed_at (Some y) = y.blamed
