-- Reference lists (8.3.4): the run of members that is lent, the list that the paper's two lists are instances of, and
-- the list that is built from any input.
use Rattle.std.specs.Prelude.{ℕ, ◌+◌, ◌-◌, ◌%◌, ◌≤◌, ◌<◌, ◌≡◌, List, [], map, Bool, true, false, cond, not, ◌&&◌, ◌||◌, length, take, drop, get_or, set, replicate, ltb, leb}
use Rattle.paper.specs.declared.Serial.{Serial}
use Rattle.paper.specs.Words.{any_b, table}
use Rattle.paper.specs.Numbers.{a_serial}
use Rattle.paper.specs.State as State
use Rattle.paper.specs.Records.{ListAsk}
use Rattle.paper.specs.RefLists.{candidates0, candidates1, placed}
use Rattle.derivation.specs.Pad.{Padded}
use Rattle.derivation.specs.declared.ref_lists.Refs.{Refs}
use Rattle.derivation.specs.declared.ref_lists.RefList.{RefList}

abbrev pub blank_serial : Serial
blank_serial = record { 0 = 0 }

-- the serials in the first n of lent words
abbrev pub serial_at : List ℕ → ℕ → Serial
serial_at xs i = a_serial (get_or xs i 0)

abbrev pub serials_in : List ℕ → ℕ → List Serial
serials_in xs n = table (serial_at xs) n

-- the first n of serials in places
abbrev pub member_at : List Serial → ℕ → Serial
member_at xs i = get_or xs i blank_serial

abbrev pub members_of : List Serial → ℕ → List Serial
members_of xs n = table (member_at xs) n

-- one run: Before, After, LtCurr one behind the other; a count past the end of the run counts what is there
unfoldable pub refs_in : List ℕ → Refs → State.Refs
refs_in xs r =
    record {
      before = map a_serial (take r.before xs);
      after = map a_serial (take r.after (drop r.before xs));
      lt_curr = map a_serial (take r.long (drop (r.before + r.after) xs));
    }

-- a list in its sixteen places
abbrev pub HoldsList : RefList → List Serial → Type 0
HoldsList l xs = Padded 16 blank_serial l.items l.len xs

abbrev pub no_list : RefList
no_list = record { items = replicate 16 blank_serial; len = 0 }

-- the candidates of list 0, or of list 1 (`second`)
unfoldable pub candidates_of : State.Refs → Bool → Bool → Serial → List Serial
candidates_of x own second c = cond second (candidates1 x own c) (candidates0 x own c)

abbrev pub ask_of : ℕ → Bool → List ℕ → ListAsk
ask_of active modify es = record { uses = true; active = active; modify = modify; entries = es }

-- `last`: the current picture goes into the last active place
abbrev pub with_last : Bool → ℕ → Serial → List Serial → List Serial
with_last last active c xs = cond last (set xs (active - 1) c) xs

unfoldable pub list_of : State.Refs → Serial → Bool → Bool → Bool → ℕ → Bool → List ℕ → List Serial
list_of x c own second last active modify es =
    with_last last active c (placed (candidates_of x own second c) (ask_of active modify es))

-- whether n candidates fill a list: one at least, 1 to 16 places, and with the modify bit an entry byte for each place
abbrev pub can_fill : ℕ → ℕ → Bool → ℕ → Bool
can_fill n active modify bytes = ltb 0 n && leb 1 active && leb active 16 && (not modify || leb active bytes)

-- what stands at place j: "With n candidates, place j is candidate j mod n; with the modify bit it is the candidate at
-- the entry byte", where behind all candidates stands the current picture
abbrev pub place_of : List Serial → Serial → Bool → List ℕ → ℕ → ℕ → Serial
place_of cs c modify es n j = get_or cs (cond modify (get_or es j 0) (j % n)) c

-- the list that is built from any input: no place where the candidates cannot fill it, else the active places; entry
-- bytes behind the first `active` do not count
unfoldable pub built_of : State.Refs → Serial → Bool → Bool → Bool → ℕ → Bool → List ℕ → List Serial
built_of x c own second last active modify es =
    let cs = candidates_of x own second c in
    cond (can_fill (length cs) active modify (length es))
    (with_last last active c (table (place_of cs c modify es (length cs)) active))
    []

-- how many candidates there are, for either list
pub record CandidateCount (x : State.Refs) (own : Bool) (n : ℕ) : Type 0 where
  pub first : (c : Serial) → n ≡ length (candidates0 x own c)
  pub other : (c : Serial) → n ≡ length (candidates1 x own c)
  pub most : n ≤ 17

-- where the list that is built is the paper's: a candidate at least, 1 to 16 places, and with the modify bit an entry
-- byte for each place and no other, each below the number of candidates
pub record Ready (x : State.Refs) (c : Serial) (own second : Bool) (active : ℕ) (modify : Bool)
    (es : List ℕ) : Type 0 where
  pub some : 0 < length (candidates_of x own second c)
  pub least : 1 ≤ active
  pub most : active ≤ 16
  pub bytes : modify ≡ true → length es ≡ active
  pub below : modify ≡ true → any_b (λ (e : ℕ). leb (length (candidates_of x own second c)) e) es ≡ false

-- where the candidate at i of list 1 stands in the run, with b members of Before and a of After
unfoldable pub swapped_at : ℕ → ℕ → ℕ → ℕ
swapped_at b a i = cond (ltb i a) (b + i) (cond (ltb i (a + b)) (i - a) i)

-- the same for list 0, which is the run itself, or list 1 (`second`)
abbrev pub place_in : ℕ → ℕ → Bool → ℕ → ℕ
place_in b a second i = cond second (swapped_at b a i) i
