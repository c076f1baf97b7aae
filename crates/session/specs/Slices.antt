-- The order of the refusals of lists over the sets alone.
use Rattle.std.specs.Prelude.{ℕ, [], ◌∷◌, not, Result, Ok, Err}
use Rattle.paper.specs.declared.Serial.{Serial}
use Rattle.paper.specs.Words.{first, ◌gives◌}
use Rattle.paper.specs.Records.{Slice}
use Rattle.paper.specs.Ranges.{lists_ranges}
use Rattle.paper.specs.State.{Refs}
use Rattle.paper.specs.RefLists.{candidates0, candidates1, no_candidate, too_many, bad_entry}
use Rattle.session.specs.declared.Refusal.{Refusal}
use Rattle.session.specs.Numbered.{number_of}

-- 0: not refused
abbrev pub number_in : Result (Unit {0}) Refusal → ℕ
number_in (Ok _) = 0
number_in (Err r) = number_of r

-- "lists 4, 5, 10, 11 for list 0 then 1, 12 likewise", from 5 on
unfoldable pub lists_number : Refs → Serial → Slice → ℕ
lists_number x c f =
    first (not (lists_ranges f) gives 5
    ∷ no_candidate x c f gives 10
    ∷ too_many f.ask0 (candidates0 x f.own c) gives 11
    ∷ too_many f.ask1 (candidates1 x f.own c) gives 11
    ∷ bad_entry f.ask0 (candidates0 x f.own c) gives 12
    ∷ bad_entry f.ask1 (candidates1 x f.own c) gives 12
    ∷ [])
