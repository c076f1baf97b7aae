-- The parts of a reply as the code writes them.
use Rattle.std.specs.Prelude.{ℕ, ◌+◌, ◌≤◌, List, [], ◌∷◌, ◌++◌, get_or}
use Rattle.paper.specs.declared.Serial.{Serial}
use Rattle.paper.specs.Words.{table}
use Rattle.paper.specs.Numbers.{bytes32, signed32}
use Rattle.paper.specs.Replies.{words}
use Rattle.derivation.specs.Pad.{used}
use Rattle.derivation.specs.declared.ref_lists.RefList.{RefList}
use Rattle.derivation.specs.Lists.{HoldsList, blank_serial}
use Rattle.store.specs.declared.Sizes.{Sizes}
use Rattle.session.specs.declared.replies.Told.{Told}

-- the members of all five sets are sixteen at most
pub record FewMembers (x : Sizes) : Type 0 where
  pub all : x.before + x.after + x.long + x.foll + x.lt_foll ≤ 16

abbrev pub told_bytes : Told → List ℕ
told_bytes t = signed32 t.poc ++ (t.flags ∷ []) ++ bytes32 t.serial.0

abbrev pub sizes_bytes : Sizes → List ℕ
sizes_bytes x = x.before ∷ x.after ∷ x.foll ∷ x.long ∷ x.lt_foll ∷ []

-- n numbers of a run, from a place on
abbrev pub numbers_from : List Serial → ℕ → ℕ → List ℕ
numbers_from xs from n = table (λ (i : ℕ). (get_or xs (from + i) blank_serial).0) n

abbrev pub member_bytes : Sizes → List Serial → List Serial → List ℕ
member_bytes x first second =
    words (numbers_from first 0 (x.before + x.after))
    ++ words (numbers_from second 0 x.foll)
    ++ words (numbers_from first (x.before + x.after) x.long)
    ++ words (numbers_from second x.foll x.lt_foll)

abbrev pub begun_part : Told → Sizes → List Serial → List Serial → List ℕ
begun_part t x first second = told_bytes t ++ sizes_bytes x ++ member_bytes x first second

-- the serials of a list
abbrev pub list_in : RefList → List Serial
list_in l = used l.len l.items

-- a list that holds what it holds
pub record Listable (l : RefList) : Type 0 where
  pub holds : HoldsList l (list_in l)
