-- The picture and the surface that an exchange breaks a part with, where the part has one: what to look for in the
-- recording.
use Rattle.std.specs.Prelude.{ℕ, List, [], ◌∷◌, ◌++◌, cond, not, ◌&&◌, ◌||◌, ltb, eqb}
use Rattle.paper.specs.declared.Serial.{Serial}
use Rattle.paper.specs.declared.Line.{Line}
use Rattle.paper.specs.declared.Reading.{Reading}
use Rattle.paper.specs.declared.Blamed.{Blamed}
use Rattle.paper.specs.declared.Blamed.TheVariants.{Nothing, Picture, Surface, Both}
use Rattle.paper.specs.Words.{keep, any_b}
use Rattle.paper.specs.Numbers.{u32, missing, a_surface, same_serial}
use Rattle.paper.specs.Kinds.{end_kind, abandon_kind, surface_place}
use Rattle.paper.specs.Sets.{in_order}
use Rattle.paper.specs.Output.{Tail}
use Rattle.paper.specs.Replies.{Begun, Reply}
use Rattle.paper.specs.Ledger.{Ledger, Event, Hand, Throw, Free, lies, upon, upon_all, events, read_reply}
use Rattle.paper.specs.Watch.{event_part, tail_part, part_of}

-- the first of some lines: its picture and its surface; where there is none, d
unfoldable pub first_line : Blamed → List Line → Blamed
first_line d [] = d
first_line d (e ∷ H) = Both e.serial e.surface

unfoldable pub first_serial : List Serial → Blamed
first_serial [] = Nothing
first_serial (n ∷ ns) = Picture n

-- 6, 7: the picture handed out and its surface, as the reply names them
-- 8: the picture thrown away, and its surface where a line has that serial
-- 10: the surface released; 11: the picture that waits there, and the surface
unfoldable pub event_blame : Event → List Line → Blamed
event_blame (Hand x) H = Both x.serial x.surface
event_blame (Throw n) H = first_line (Picture n) (keep (λ (e : Line). eqb n.0 e.serial.0) H)
event_blame (Free x) H = first_line (Surface x) (keep (λ (e : Line). e.wants && lies x.0 e) H)

-- that of the first event that is wrong
unfoldable pub tail_blame : List Event → List Line → Blamed
tail_blame [] H = Nothing
tail_blame (e ∷ es) H = cond (eqb (event_part e H) 0) (tail_blame es (upon e H)) (event_blame e H)

-- 12: of those that a set or list names, the ones that are neither missing nor held
unfoldable pub strangers : List Serial → List Line → List Serial
strangers ns H =
    keep (λ (n : Serial). not (same_serial n missing || any_b (λ (e : Line). eqb n.0 e.serial.0) H)) ns

-- the part p of a begin. 3: the current picture; 4: the serial begun with, and the record's surface; 5: the picture
-- that lies on that surface; the tail's; 19: the first picture thrown away; 12: the first stranger
abbrev pub started_blame : ℕ → Ledger → List ℕ → Begun → Tail → Blamed
started_blame p L r b t =
    cond (eqb p 3) (first_line Nothing L.current)
    (cond (eqb p 4) (Both b.serial (a_surface (u32 r surface_place)))
    (cond (eqb p 5) (first_line Nothing (keep (lies (u32 r surface_place)) L.held))
    (cond (not (eqb (tail_part (events t) L.held) 0)) (tail_blame (events t) L.held)
    (cond (eqb p 19) (first_serial t.thrown)
    (first_serial (strangers (in_order b.sets) (upon_all (events t) L.held)))))))

-- of lists. 12: the first stranger; 13: none
abbrev pub listed_blame : ℕ → Ledger → List Serial → Blamed
listed_blame p L ns = cond (eqb p 12) (first_serial (strangers ns (L.held ++ L.current))) Nothing

-- the lines that a call may move: an end of sequence none, abandon the current picture's
abbrev pub movable : ℕ → Ledger → List Line
movable kind L = cond (eqb kind end_kind) [] (cond (eqb kind abandon_kind) L.current (L.held ++ L.current))

-- of the tail of a call; 15: the first picture that is left. 14 too: where no line may be moved, the first thing that
-- the tail moves is wrong
abbrev pub moved_blame : Tail → List Line → Blamed
moved_blame t H =
    cond (not (eqb (tail_part (events t) H) 0)) (tail_blame (events t) H) (first_line Nothing (upon_all (events t) H))

-- of any other call. 13: none; 9: the first picture thrown away; 16: the one that the finish stores, for which there is
-- no room
abbrev pub done_blame : ℕ → ℕ → Ledger → Tail → Blamed
done_blame p kind L t =
    cond (eqb p 13) Nothing
    (cond (eqb p 9) (first_serial t.thrown)
    (cond (eqb p 16) (first_line Nothing L.current)
    (moved_blame t (movable kind L))))

unfoldable pub reply_blame : ℕ → Ledger → List ℕ → Reply → Blamed
reply_blame p L r (Reply.Refused kind n) = Nothing
reply_blame p L r (Reply.Done kind t) = done_blame p kind L t
reply_blame p L r (Reply.Started b t) = started_blame p L r b t
reply_blame p L r (Reply.Listed l0 l1) = listed_blame p L (l0 ++ l1)

-- THE PICTURE AND THE SURFACE that the exchange of the record r and the reply a breaks its part with. 1, 2: none, since
-- the reply tells nothing; 0: none is broken
unfoldable pub blamed : Reading → Ledger → List ℕ → List ℕ → Blamed
blamed st L r a = cond (ltb (part_of st L r a) 3) Nothing (reply_blame (part_of st L r a) L r (read_reply st a))
