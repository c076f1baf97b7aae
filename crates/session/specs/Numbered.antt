-- The refusals, with the paper's number for each.
use Rattle.std.specs.Prelude.{ℕ}
use Rattle.session.specs.declared.Refusal.{Refusal}
use Rattle.session.specs.declared.Refusal.TheVariants.{Unconfigured, BadLimits, Busy, NoCurrent, OutOfRange}
use Rattle.session.specs.declared.Refusal.TheVariants.{Outside, SurfaceHeld, SerialsSpent, StoreFull}
use Rattle.session.specs.declared.Refusal.TheVariants.{NoCandidate, TooMany, BadEntry, Malformed, NoRoom}

abbrev pub number_of : Refusal → ℕ
number_of Unconfigured = 1
number_of BadLimits = 2
number_of Busy = 3
number_of NoCurrent = 4
number_of OutOfRange = 5
number_of Outside = 6
number_of SurfaceHeld = 7
number_of SerialsSpent = 8
number_of StoreFull = 9
number_of NoCandidate = 10
number_of TooMany = 11
number_of BadEntry = 12
number_of Malformed = 13
number_of NoRoom = 14
