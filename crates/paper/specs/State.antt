-- What a session knows.
use Rattle.std.specs.Prelude.{ℕ, ◌^◌, min, List, [], ◌++◌, map, Bool, true, false, take}
use Rattle.paper.specs.declared.Serial.{Serial}
use Rattle.paper.specs.declared.Mark.{Mark}
use Rattle.paper.specs.declared.Mark.TheVariants.{Unmarked, ShortTerm, LongTerm}
use Rattle.paper.specs.declared.Picture.{Picture}
use Rattle.paper.specs.declared.Limits.{Limits}
use Rattle.paper.specs.declared.Current.{Current}
use Rattle.paper.specs.Numbers.{capacity_limit}
use Rattle.std.specs.Prelude.{Option, None, Some}
use Rattle.paper.specs.declared.Tid0.{Tid0}

-- the sets of the current picture that its lists draw on: StCurrBefore, StCurrAfter, LtCurr
pub record Refs : Type 0 where
  pub before : List Serial
  pub after : List Serial
  pub lt_curr : List Serial

abbrev pub no_refs : Refs
no_refs = record { before = []; after = []; lt_curr = [] }

abbrev pub all_refs : Refs → List Serial
all_refs x = x.before ++ x.after ++ x.lt_curr

-- `at_start`: the next begin is first in the bitstream; `ended`: it is first after end of sequence; `next`: its serial
pub record Session : Type 0 where
  pub configured : Bool
  pub limits : Limits
  pub store : List Picture
  pub current : Option Current
  pub refs : Refs
  pub prev : Option Tid0
  pub at_start : Bool
  pub ended : Bool
  pub next : ℕ

abbrev pub no_limits : Limits
no_limits = record { k = 0; capacity = 0; buffering = 0; reorder = 0; latency = 0 }

abbrev pub fresh : Session
fresh =
    record {
      configured = false;
      limits = no_limits;
      store = [];
      current = None;
      refs = no_refs;
      prev = None;
      at_start = true;
      ended = false;
      next = 0;
    }

abbrev pub is_marked : Mark → Bool
is_marked Unmarked = false
is_marked ShortTerm = true
is_marked LongTerm = true

abbrev pub is_short_term : Mark → Bool
is_short_term Unmarked = false
is_short_term ShortTerm = true
is_short_term LongTerm = false

abbrev pub is_current : Option Current → Bool
is_current None = false
is_current (Some c) = true

-- one thing where none is current, another of the current picture
abbrev pub on_now : {A : Type 0} → Option Current → A → (Current → A) → A
on_now None x g = x
on_now (Some c) x g = g c

-- The normal form. Every definition takes any session value, also one that no record reaches: a k or a capacity over 16
-- is taken as 16, and a count past 2,147,483,647 as that. A session reached from fresh is its own normal form.
abbrev pub taken16 : Limits → Limits
taken16 l =
    record {
      k = min l.k 16;
      capacity = min l.capacity capacity_limit;
      buffering = l.buffering;
      reorder = l.reorder;
      latency = l.latency;
    }

abbrev pub count_limit : ℕ
count_limit = 2147483647

abbrev pub counted : Picture → Picture
counted p =
    record {
      serial = p.serial;
      surface = p.surface;
      poc = p.poc;
      mark = p.mark;
      waiting = p.waiting;
      count = min p.count count_limit;
    }

abbrev pub normal : Session → Session
normal s =
    record {
      configured = s.configured;
      limits = taken16 s.limits;
      store = map counted (take capacity_limit s.store);
      current = s.current;
      refs = s.refs;
      prev = s.prev;
      at_start = s.at_start;
      ended = s.ended;
      next = s.next;
    }

-- "M = 2^k"
abbrev pub modulus : Limits → ℕ
modulus l = 2 ^ (taken16 l).k
