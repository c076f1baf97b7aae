-- After begin: finish (C.5.2.3), drain, configure, discard, abandon, end of sequence.
use Rattle.std.specs.Prelude.{◌+◌, List, [], ◌∷◌, ◌++◌, map, Bool, true, false, cond, length, ltb, leb}
use Rattle.paper.specs.declared.Mark.TheVariants as Mark
use Rattle.paper.specs.declared.Picture.{Picture}
use Rattle.paper.specs.declared.Limits.{Limits}
use Rattle.paper.specs.declared.Current.{Current}
use Rattle.paper.specs.State.{Session, no_refs, on_now, taken16, count_limit}
use Rattle.paper.specs.Output.{Tail, Moved, quiet, joined, still, and_then, cleared, emptied, hand_while, due}
use Rattle.std.specs.Prelude.{Option, None}
use Rattle.paper.specs.declared.Tid0.{Tid0}
use Rattle.paper.specs.Poc.{tid0}

-- Finish: "every stored count rises by 1, stopping at 2,147,483,647"
abbrev pub raised : Picture → Picture
raised p =
    record {
      serial = p.serial;
      surface = p.surface;
      poc = p.poc;
      mark = p.mark;
      waiting = p.waiting;
      count = cond (ltb p.count count_limit) (p.count + 1) count_limit;
    }

-- "the picture is stored short-term, count 0, waiting if its output flag is 1"
abbrev pub stored : Current → Picture
stored c =
    record {
      serial = c.serial;
      surface = c.surface;
      poc = c.poc;
      mark = Mark.ShortTerm;
      waiting = c.output;
      count = 0;
    }

-- "Then hand out while due, without the buffering test."
unfoldable pub finished : Limits → List Picture → Current → Moved
finished l ps c = hand_while (due false l) (map raised ps ++ (stored c ∷ []))

-- "If valid .. it becomes the previous Tid0 picture."
abbrev pub prev_after : Option Tid0 → Current → Option Tid0
prev_after q c = cond c.valid (tid0 c.lsb c.msb) q

-- number 9: "the current picture must be stored and stored = capacity"
abbrev pub full : Session → Bool
full s = leb (taken16 s.limits).capacity (length s.store)

-- "Drain finishes a current picture, then empties."
unfoldable pub drained : Limits → List Picture → Option Current → Moved
drained l ps x = and_then (on_now x (still ps) (finished l ps)) emptied

-- "Discard throws away and releases the current picture first, then clears." "Thrown away are only a current picture
-- with output flag 1 and stored pictures still waiting; others are merely released."
abbrev pub dropped : Current → Tail
dropped c = record { handed = []; thrown = cond c.output (c.serial ∷ []) []; released = c.surface ∷ [] }

unfoldable pub discarded : List Picture → Option Current → Moved
discarded ps x = record { pics = []; tail = joined (on_now x quiet dropped) (cleared ps).tail }

-- The sessions after: with no picture current, these stored and this previous Tid0 picture
abbrev pub idle_with : Session → List Picture → Option Tid0 → Session
idle_with s ps q =
    record {
      configured = s.configured;
      limits = s.limits;
      store = ps;
      current = None;
      refs = no_refs;
      prev = q;
      at_start = s.at_start;
      ended = s.ended;
      next = s.next;
    }

abbrev pub finished_session : Session → Current → Session
finished_session s c = idle_with s (finished s.limits s.store c).pics (prev_after s.prev c)

abbrev pub prev_now : Session → Option Tid0
prev_now s = on_now s.current s.prev (prev_after s.prev)

abbrev pub drained_now : Session → Moved
drained_now s = drained s.limits s.store s.current

abbrev pub drained_session : Session → Session
drained_session s = idle_with s (drained_now s).pics (prev_now s)

-- "Configure drains under the old limits, then takes the new and forgets the previous Tid0 picture."
abbrev pub configured_session : Session → Limits → Session
configured_session s l =
    record {
      configured = true;
      limits = taken16 l;
      store = (drained_now s).pics;
      current = None;
      refs = no_refs;
      prev = None;
      at_start = s.at_start;
      ended = s.ended;
      next = s.next;
    }

abbrev pub discarded_session : Session → Session
discarded_session s = idle_with s (discarded s.store s.current).pics s.prev

-- "Abandon throws away and releases the current picture; marks and outputs of its begin stay."
abbrev pub abandoned_session : Session → Session
abandoned_session s = idle_with s s.store s.prev

-- ""after end of sequence" .. which kind 7 sets"
abbrev pub ended_session : Session → Session
ended_session s =
    record {
      configured = s.configured;
      limits = s.limits;
      store = s.store;
      current = s.current;
      refs = s.refs;
      prev = s.prev;
      at_start = s.at_start;
      ended = true;
      next = s.next;
    }
