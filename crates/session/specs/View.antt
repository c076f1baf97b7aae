-- The memory that a session lies in, and the paper's session that it is: every memory is some session. A flag is on
-- unless its word is 0, a number with less than 32 bits is the low bits of its word.
use Rattle.std.specs.Prelude.{ℕ, ◌%◌, Bool, true, false, cond, List}
use Rattle.std.specs.Int.{w32}
use Rattle.std.proofs.Common.{to_z}
use Rattle.paper.specs.Numbers.{a_serial, a_surface}
use Rattle.paper.specs.State as P
use Rattle.paper.specs.declared.Limits.{Limits}
use Rattle.paper.specs.declared.Current.{Current}
use Rattle.derivation.specs.declared.ref_lists.Refs.{Refs}
use Rattle.derivation.specs.Lists.{refs_in}
use Rattle.store.specs.StoreWords.{word, flag_of, stored}
use Rattle.session.specs.FrontPlaces.{CONFIGURED, FIRST, ENDED, NEXT, K, CAPACITY, BUFFERING, REORDER, LATENCY}
use Rattle.session.specs.FrontPlaces.{PREV, PREV-LSB, PREV-MSB}
use Rattle.session.specs.FrontPlaces.{CURRENT, SERIAL, SURFACE, POC, LSB, MSB, OUTPUT, VALID, BEFORE, AFTER, LONG}
use Rattle.std.specs.Prelude.{Option, None, Some}
use Rattle.paper.specs.declared.Tid0.{Tid0}
use Rattle.paper.specs.Poc.{tid0}

-- the words beside the store and the run of the sets, that run, and the store's words
pub record Memory : Type 0 where
  pub front : List ℕ
  pub sets : List ℕ
  pub store : List ℕ

abbrev pub memory : List ℕ → List ℕ → List ℕ → Memory
memory h xs t = record { front = h; sets = xs; store = t }

-- what the words beside the store say, part by part

abbrev pub limits_at : List ℕ → Limits
limits_at h =
    record {
      k = word h K % 256;
      capacity = word h CAPACITY % 256;
      buffering = word h BUFFERING % 256;
      reorder = word h REORDER % 256;
      latency = word h LATENCY % 65536;
    }

abbrev pub prev_at : List ℕ → Option Tid0
prev_at h = cond (flag_of (word h PREV)) (tid0 (word h PREV-LSB % 65536) (to_z w32 (word h PREV-MSB))) None

abbrev pub current_at : List ℕ → Current
current_at h =
    record {
      serial = a_serial (word h SERIAL);
      surface = a_surface (word h SURFACE);
      poc = to_z w32 (word h POC);
      lsb = word h LSB % 65536;
      msb = to_z w32 (word h MSB);
      output = flag_of (word h OUTPUT);
      valid = flag_of (word h VALID);
    }

abbrev pub now_at : List ℕ → Option Current
now_at h = cond (flag_of (word h CURRENT)) (Some (current_at h)) None

abbrev pub refs_at : List ℕ → Refs
refs_at h = record { before = word h BEFORE % 256; after = word h AFTER % 256; long = word h LONG % 256 }

-- all of it
pub record Front : Type 0 where
  pub configured : Bool
  pub limits : Limits
  pub current : Option Current
  pub refs : Refs
  pub prev : Option Tid0
  pub start : Bool
  pub ended : Bool
  pub next : ℕ

unfoldable pub front_in : List ℕ → Front
front_in h =
    record {
      configured = flag_of (word h CONFIGURED);
      limits = limits_at h;
      current = now_at h;
      refs = refs_at h;
      prev = prev_at h;
      start = flag_of (word h FIRST);
      ended = flag_of (word h ENDED);
      next = word h NEXT;
    }

-- the paper's session
abbrev pub session_of : Front → List ℕ → List ℕ → P.Session
session_of f xs t =
    record {
      configured = f.configured;
      limits = f.limits;
      store = stored t;
      current = f.current;
      refs = refs_in xs f.refs;
      prev = f.prev;
      at_start = f.start;
      ended = f.ended;
      next = f.next;
    }

abbrev pub session_in : Memory → P.Session
session_in m = session_of (front_in m.front) m.sets m.store

-- how a call changes the words beside the store: with no picture current and this previous Tid0 picture; with these
-- limits; with this picture current; after end of sequence

abbrev pub no_sizes : Refs
no_sizes = record { before = 0; after = 0; long = 0 }

abbrev pub idle_front : Front → Option Tid0 → Front
idle_front f q =
    record {
      configured = f.configured;
      limits = f.limits;
      current = None;
      refs = no_sizes;
      prev = q;
      start = f.start;
      ended = f.ended;
      next = f.next;
    }

abbrev pub configured_front : Front → Limits → Front
configured_front f l =
    record {
      configured = true;
      limits = l;
      current = f.current;
      refs = f.refs;
      prev = f.prev;
      start = f.start;
      ended = f.ended;
      next = f.next;
    }

abbrev pub begun_front : Front → Current → Refs → ℕ → Front
begun_front f c x n =
    record {
      configured = f.configured;
      limits = f.limits;
      current = Some c;
      refs = x;
      prev = f.prev;
      start = false;
      ended = false;
      next = n;
    }

abbrev pub ended_front : Front → Front
ended_front f =
    record {
      configured = f.configured;
      limits = f.limits;
      current = f.current;
      refs = f.refs;
      prev = f.prev;
      start = f.start;
      ended = true;
      next = f.next;
    }
