-- A ledger that says what is wrong: the first part of demand 3 that an exchange breaks, by number.
use Rattle.std.specs.Prelude.{ℕ, ◌+◌, List, [], ◌∷◌, ◌++◌, cond, not, ◌&&◌, length, ltb, eqb}
use Rattle.paper.specs.declared.Serial.{Serial}
use Rattle.paper.specs.declared.Line.{Line}
use Rattle.paper.specs.Words.{Test, ◌gives◌, first, all_b, any_b}
use Rattle.paper.specs.Numbers.{u32, capacity_limit}
use Rattle.paper.specs.Kinds.{finish_kind, discard_kind, end_kind, abandon_kind, surface_place}
use Rattle.paper.specs.Sets.{in_order}
use Rattle.paper.specs.Output.{Tail}
use Rattle.paper.specs.Replies.{Begun, Reply}
use Rattle.paper.specs.declared.Reading.{Reading}
use Rattle.paper.specs.Reading.{further}
use Rattle.paper.specs.WholeReply.{whole_reply}
use Rattle.paper.specs.Ledger.{Ledger, Event, Hand, Throw, Free, Exchange, waits_as, waits, lies, quiet_at, upon}
use Rattle.paper.specs.Ledger.{upon_all, events, none, names, clearing, heard, hear, read_reply}

-- 6: handed out, and no picture of that serial waits; 7: one waits, on another surface or with another POC
-- 8: thrown away, and no picture of that serial waits
-- 10: released, and nothing lies there; 11: what lies there still waits
unfoldable pub event_part : Event → List Line → ℕ
event_part (Hand x) H = first (not (any_b (waits x.serial.0) H) gives 6 ∷ not (any_b (waits_as x) H) gives 7 ∷ [])
event_part (Throw n) H = first (not (any_b (waits n.0) H) gives 8 ∷ [])
event_part (Free x) H = first (not (any_b (lies x.0) H) gives 10 ∷ not (all_b (quiet_at x.0) H) gives 11 ∷ [])

-- the first event that is wrong
unfoldable pub tail_part : List Event → List Line → ℕ
tail_part [] H = 0
tail_part (e ∷ es) H = cond (eqb (event_part e H) 0) (tail_part es (upon e H)) (event_part e H)

-- unless it is 0
infix 70 ◌told
abbrev pub ◌told : ℕ → Test
n told = not (eqb n 0) gives n

-- 3: begun while a picture is current; 4: not the next serial; 5: on a surface that is held
-- 12: a set or list names a picture that is not held
-- 19: thrown away by a begin that says nothing of no output of prior pictures, that hands out too, or that leaves a
-- stored picture
abbrev pub started_part : Ledger → List ℕ → Begun → Tail → ℕ
started_part L r b t =
    first (not (none L.current) gives 3
    ∷ not (eqb b.serial.0 L.begun) gives 4
    ∷ any_b (lies (u32 r surface_place)) L.held gives 5
    ∷ tail_part (events t) L.held told
    ∷ not (clearing b t (upon_all (events t) L.held)) gives 19
    ∷ not (names (in_order b.sets) (upon_all (events t) L.held)) gives 12
    ∷ [])

-- 13: no picture is current
abbrev pub listed_part : Ledger → List Serial → ℕ
listed_part L ns = first (none L.current gives 13 ∷ not (names ns (L.held ++ L.current)) gives 12 ∷ [])

-- 14: an end of sequence moves something
abbrev pub end_part : Tail → ℕ
end_part t = first (not (none (events t)) gives 14 ∷ [])

-- 15: something is left
abbrev pub abandon_part : Ledger → Tail → ℕ
abandon_part L t =
    first (none L.current gives 13
    ∷ tail_part (events t) L.current told
    ∷ not (none (upon_all (events t) L.current)) gives 15
    ∷ [])

-- finish, drain, configure, discard. 9: thrown away by a call that throws nothing away; 16: more stored than a store
-- holds
abbrev pub landed_part : ℕ → Ledger → Tail → ℕ
landed_part kind L t =
    first ((eqb kind finish_kind && none L.current) gives 13
    ∷ (not (eqb kind discard_kind) && not (none t.thrown)) gives 9
    ∷ tail_part (events t) (L.held ++ L.current) told
    ∷ (not (eqb kind finish_kind) && not (none (upon_all (events t) (L.held ++ L.current)))) gives 15
    ∷ ltb capacity_limit (length (upon_all (events t) (L.held ++ L.current))) gives 16
    ∷ [])

unfoldable pub reply_part : Ledger → List ℕ → Reply → ℕ
reply_part L r (Reply.Refused kind n) = 0
reply_part L r (Reply.Done kind t) =
    cond (eqb kind end_kind) (end_part t) (cond (eqb kind abandon_kind) (abandon_part L t) (landed_part kind L t))
reply_part L r (Reply.Started b t) = started_part L r b t
reply_part L r (Reply.Listed l0 l1) = listed_part L (l0 ++ l1)

-- 1: the bytes are no whole reply; 2: it is no reply to that record
unfoldable pub part_of : Reading → Ledger → List ℕ → List ℕ → ℕ
part_of st L r a =
    first (not (whole_reply st a) gives 1
    ∷ not (heard r (read_reply st a)) gives 2
    ∷ reply_part L r (read_reply st a) told
    ∷ [])

-- Some records and some replies, from exchange n on, with what the reader of the replies carries there: the number of
-- the first that breaks and its part, or 0, and the ledger up to there.
-- 17: a record without its reply; 18: a reply without its record
pub record Verdict : Type 0 where
  pub at : ℕ
  pub part : ℕ
  pub ledger : Ledger

unfoldable pub watched : Reading → ℕ → Ledger → List (List ℕ) → List (List ℕ) → Verdict
watched st n L [] [] = record { at = n; part = 0; ledger = L }
watched st n L (r ∷ rs) [] = record { at = n; part = 17; ledger = L }
watched st n L [] (a ∷ answers) = record { at = n; part = 18; ledger = L }
watched st n L (r ∷ rs) (a ∷ answers) =
    cond (eqb (part_of st L r a) 0) (watched (further st a) (n + 1) (hear L r (read_reply st a)) rs answers)
    (record { at = n; part = part_of st L r a; ledger = L })

-- records and replies as exchanges, as far as both go: each reply hands on what the reader carries
unfoldable pub pairs : Reading → List (List ℕ) → List (List ℕ) → List Exchange
pairs st [] answers = []
pairs st (r ∷ rs) [] = []
pairs st (r ∷ rs) (a ∷ answers) = record { said = r; answered = a; reading = st } ∷ pairs (further st a) rs answers
