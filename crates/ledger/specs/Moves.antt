-- What is done where no whole record or no whole reply is left.
use Rattle.std.specs.Prelude.{Bool, cond, not, ◌&&◌, Option, None, Some}
use Rattle.paper.specs.declared.Blamed.TheVariants.{Nothing}
use Rattle.watch.specs.declared.demand.Part.{Part}
use Rattle.watch.specs.declared.demand.Part.TheVariants.{NotWhole, RecordAlone, ReplyAlone}
use Rattle.watch.specs.declared.demand.Broken.{Broken}
use Rattle.ledger.specs.declared.Move.{Move}
use Rattle.ledger.specs.declared.Move.TheVariants.{Records, Replies, Stop}

-- the part, with nothing named
abbrev pub alone : Part → Option Broken
alone p = Some (record { part = p; blamed = Nothing })

-- said, answered: a whole record, a whole reply is left; all_records_said, allAnswered: its file has ended; rest: bytes of the
-- replies are left. "an incomplete last record ends the run without a reply"
abbrev pub move_of : Bool → Bool → Bool → Bool → Bool → Move
move_of said all_records_said answered allAnswered rest =
    cond (not said && not all_records_said) Records
    (cond (not said && answered) (Stop (alone ReplyAlone))
    (cond (not allAnswered) Replies
    (cond rest (Stop (alone NotWhole))
    (cond said (Stop (alone RecordAlone)) (Stop None)))))
