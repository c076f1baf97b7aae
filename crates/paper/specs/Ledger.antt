-- Demand 3: a ledger kept by somebody who sees only the records and the replies.
use Rattle.std.specs.Prelude.{ℕ, zero, suc, ◌+◌, ◌-◌, ◌*◌, List, [], ◌∷◌, ◌++◌, map, Bool, true, false, cond, not, ◌&&◌, ◌||◌, drop, eqb}
use Rattle.paper.specs.declared.Serial.{Serial}
use Rattle.paper.specs.declared.Surface.{Surface}
use Rattle.paper.specs.declared.Shown.{Shown}
use Rattle.paper.specs.declared.Line.{Line}
use Rattle.paper.specs.Words.{keep, all_b, any_b}
use Rattle.paper.specs.Numbers.{u8, u16, u32, i32, bit, missing, a_serial, a_surface, same_serial}
use Rattle.paper.specs.Kinds.{begin_kind, lists_kind, finish_kind, discard_kind, end_kind, abandon_kind, reply_offset}
use Rattle.paper.specs.Kinds.{reply_to, malformed_reply, number_place, rest_place, lists_place, surface_place}
use Rattle.paper.specs.Kinds.{begun_flags, begun_serial, begun_counts, begun_members, five_counts, word_width}
use Rattle.paper.specs.Records.{kind_of}
use Rattle.paper.specs.Poc.{eq_z}
use Rattle.paper.specs.Sets.{Sets, in_order}
use Rattle.paper.specs.Output.{Tail}
use Rattle.paper.specs.Replies.{Begun, Reply}
use Rattle.paper.specs.declared.Reading.{Reading}
use Rattle.paper.specs.Reading.{shown_width_in}

-- Reading a reply's bytes, with what the reader carries in front of it.

unfoldable pub read_words : ℕ → List ℕ → List ℕ
read_words zero bs = []
read_words (suc n) bs = u32 bs 0 ∷ read_words n (drop word_width bs)

abbrev pub read_serials : ℕ → List ℕ → List Serial
read_serials n bs = map a_serial (read_words n bs)

unfoldable pub read_shown : Reading → ℕ → List ℕ → List Shown
read_shown st zero bs = []
read_shown st (suc n) bs =
    record { serial = a_serial (u32 bs 0); surface = a_surface (u32 bs word_width); poc = i32 bs (2 * word_width) }
    ∷ read_shown st n (drop (shown_width_in st) bs)

-- a count, and as many serials or surfaces; behind it another
unfoldable pub read_released : List ℕ → List ℕ
read_released bs = read_words (u8 bs 0) (drop 1 bs)

unfoldable pub read_tail : Reading → List ℕ → Tail
read_tail st bs =
    record {
      handed = read_shown st (u8 bs 0) (drop 1 bs);
      thrown = map a_serial (read_released (drop (shown_width_in st * u8 bs 0) (drop 1 bs)));
      released =
          map a_surface (read_released (drop (word_width * u8 (drop (shown_width_in st * u8 bs 0) (drop 1 bs)) 0)
          (drop 1 (drop (shown_width_in st * u8 bs 0) (drop 1 bs)))));
    }

-- five counts and the words behind them
unfoldable pub read_sets : ℕ → ℕ → ℕ → ℕ → ℕ → List ℕ → Sets
read_sets a b c d e ws =
    record {
      before = read_serials a ws;
      after = read_serials b (drop (word_width * a) ws);
      foll = read_serials c (drop (word_width * b) (drop (word_width * a) ws));
      lt_curr = read_serials d (drop (word_width * c) (drop (word_width * b) (drop (word_width * a) ws)));
      lt_foll =
          read_serials e (drop (word_width * d) (drop (word_width * c) (drop (word_width * b) (drop (word_width * a) ws))));
    }

unfoldable pub read_begun : List ℕ → Begun
read_begun bs =
    record {
      poc = i32 bs 0;
      no_rasl_pics = bit 0 (u8 bs begun_flags);
      output = bit 1 (u8 bs begun_flags);
      valid = bit 2 (u8 bs begun_flags);
      no_prior_pics = bit 3 (u8 bs begun_flags);
      serial = a_serial (u32 bs begun_serial);
      sets =
          read_sets (u8 bs begun_counts) (u8 bs (begun_counts + 1)) (u8 bs (begun_counts + 2)) (u8 bs (begun_counts + 3))
          (u8 bs (begun_counts + 4)) (drop begun_members bs);
    }

abbrev pub set_words : List ℕ → ℕ
set_words bs = five_counts bs begun_counts

unfoldable pub read_reply : Reading → List ℕ → Reply
read_reply st bs =
    cond (not (eqb (u16 bs number_place) 0)) (Reply.Refused (kind_of bs) (u16 bs number_place))
    (cond (eqb (kind_of bs) (reply_to begin_kind))
    (Reply.Started (read_begun (drop rest_place bs))
    (read_tail st (drop (word_width * set_words (drop rest_place bs)) (drop begun_members (drop rest_place bs)))))
    (cond (eqb (kind_of bs) (reply_to lists_kind))
    (Reply.Listed (read_serials (u8 bs rest_place) (drop lists_place bs))
    (read_serials (u8 bs (rest_place + 1)) (drop (word_width * u8 bs rest_place) (drop lists_place bs))))
    (Reply.Done (kind_of bs - reply_offset) (read_tail st (drop rest_place bs)))))

-- The ledger: a line for each picture whose surface is unreleased since its begin.
-- `wants`: it was begun with output flag 1, and was neither handed out nor thrown away.

-- the pictures stored; the current one, or none; how many were begun; whether all was in order so far
pub record Ledger : Type 0 where
  pub held : List Line
  pub current : List Line
  pub begun : ℕ
  pub ok : Bool

abbrev pub lines_of : Ledger → List Line
lines_of L = L.held ++ L.current

-- One thing that a tail tells, whether it may happen, and the lines after it
pub data Event : Type 0 where
  Hand : Shown → Event
  Throw : Serial → Event
  Free : Surface → Event

abbrev pub waits_as : Shown → Line → Bool
waits_as x e =
    e.wants && (eqb x.serial.0 e.serial.0 && (eqb x.surface.0 e.surface.0 && eq_z x.poc e.poc))

abbrev pub waits : ℕ → Line → Bool
waits n e = e.wants && eqb n e.serial.0

abbrev pub lies : ℕ → Line → Bool
lies x e = eqb x e.surface.0

abbrev pub quiet_at : ℕ → Line → Bool
quiet_at x e = not e.wants || not (lies x e)

-- handed out: a picture that waits, with its surface and POC; thrown away: one that waits; released: a surface that is
-- held, and by none that waits
unfoldable pub may : Event → List Line → Bool
may (Hand x) H = any_b (waits_as x) H
may (Throw n) H = any_b (waits n.0) H
may (Free x) H = any_b (lies x.0) H && all_b (quiet_at x.0) H

abbrev pub off : ℕ → Line → Line
off n e =
    record {
      serial = e.serial;
      surface = e.surface;
      poc = e.poc;
      wants = e.wants && not (eqb n e.serial.0);
    }

unfoldable pub free : ℕ → List Line → List Line
free x H = keep (λ (e : Line). not (lies x e)) H

unfoldable pub upon : Event → List Line → List Line
upon (Hand x) H = map (off x.serial.0) H
upon (Throw n) H = map (off n.0) H
upon (Free x) H = free x.0 H

unfoldable pub may_all : List Event → List Line → Bool
may_all [] H = true
may_all (e ∷ es) H = may e H && may_all es (upon e H)

unfoldable pub upon_all : List Event → List Line → List Line
upon_all [] H = H
upon_all (e ∷ es) H = upon_all es (upon e H)

abbrev pub events : Tail → List Event
events t = map Hand t.handed ++ (map Throw t.thrown ++ map Free t.released)

unfoldable pub none : {A : Type 0} → List A → Bool
none [] = true
none (x ∷ xs) = false

-- a set or list names only missing entries and pictures of these lines
unfoldable pub names : List Serial → List Line → Bool
names ns H = all_b (λ (n : Serial). same_serial n missing || any_b (λ (e : Line). eqb n.0 e.serial.0) H) ns

-- "clear if no output of prior pictures (those waiting are thrown away)": a begin throws away only where its reply says
-- so; then it hands nothing out and leaves none of the stored pictures, H
abbrev pub clearing : Begun → Tail → List Line → Bool
clearing b t H = none t.thrown || (b.no_prior_pics && (none t.handed && none H))

abbrev pub line_of : List ℕ → Begun → Line
line_of r b = record { serial = b.serial; surface = a_surface (u32 r surface_place); poc = b.poc; wants = b.output }

-- finish, drain, configure, discard: the current picture goes to the stored ones, then the tail.
-- Drain, configure and discard leave nothing; finish has a current picture. Only begin, discard and abandon throw away.
abbrev pub landed : ℕ → Ledger → Tail → Ledger
landed kind L t =
    record {
      held = upon_all (events t) (L.held ++ L.current);
      current = [];
      begun = L.begun;
      ok =
          L.ok && (may_all (events t) (L.held ++ L.current)
          && ((none t.thrown || eqb kind discard_kind)
          && ((none (upon_all (events t) (L.held ++ L.current)) || eqb kind finish_kind)
          && (not (none L.current) || not (eqb kind finish_kind)))));
    }

-- abandon: the tail is all of the current picture
abbrev pub abandoned : Ledger → Tail → Ledger
abandoned L t =
    record {
      held = L.held;
      current = [];
      begun = L.begun;
      ok =
          L.ok && (not (none L.current)
          && (may_all (events t) L.current && none (upon_all (events t) L.current)));
    }

-- end of sequence: nothing
abbrev pub unchanged : Ledger → Tail → Ledger
unchanged L t = record { held = L.held; current = L.current; begun = L.begun; ok = L.ok && none (events t) }

unfoldable pub tell : Ledger → List ℕ → Reply → Ledger
tell L r (Reply.Refused kind n) = L
tell L r (Reply.Done kind t) =
    cond (eqb kind end_kind) (unchanged L t) (cond (eqb kind abandon_kind) (abandoned L t) (landed kind L t))
tell L r (Reply.Started b t) =
    record {
      held = upon_all (events t) L.held;
      current = line_of r b ∷ [];
      begun = L.begun + 1;
      ok =
          L.ok && (none L.current && (eqb b.serial.0 L.begun
          && (not (any_b (lies (u32 r surface_place)) L.held)
          && (may_all (events t) L.held && (clearing b t (upon_all (events t) L.held)
          && names (in_order b.sets) (upon_all (events t) L.held))))));
    }
tell L r (Reply.Listed l0 l1) =
    record {
      held = L.held;
      current = L.current;
      begun = L.begun;
      ok = L.ok && (not (none L.current) && names (l0 ++ l1) (L.held ++ L.current));
    }

-- the reply is one to that record: its kind is the one for the record's kind, or that of number 13
unfoldable pub heard : List ℕ → Reply → Bool
heard r (Reply.Refused kind n) = cond (eqb n 13) (eqb kind malformed_reply) (eqb kind (reply_to (kind_of r)))
heard r (Reply.Done kind t) = eqb kind (kind_of r)
heard r (Reply.Started b t) = eqb begin_kind (kind_of r)
heard r (Reply.Listed l0 l1) = eqb lists_kind (kind_of r)

abbrev pub hear : Ledger → List ℕ → Reply → Ledger
hear L r x =
    record {
      held = (tell L r x).held;
      current = (tell L r x).current;
      begun = (tell L r x).begun;
      ok = heard r x && (tell L r x).ok;
    }

-- a record and the bytes of its reply, and what the reader of the replies carries in front of that one
pub record Exchange : Type 0 where
  pub said : List ℕ
  pub answered : List ℕ
  pub reading : Reading

-- what its reply says
abbrev pub reply_in : Exchange → Reply
reply_in x = read_reply x.reading x.answered

abbrev pub blank : Ledger
blank = record { held = []; current = []; begun = 0; ok = true }

unfoldable pub told : Ledger → List Exchange → Ledger
told L [] = L
told L (x ∷ xs) = told (hear L x.said (reply_in x)) xs
