-- Document 02, Item 10: a call of the pool, which is a record or a return, and what it answers and leaves.
use Rattle.std.specs.Prelude.{ℕ, ◌+◌, ◌-◌, List, [], map, Bool, cond, ◌&&◌, ◌||◌, ltb, eqb}
use Rattle.paper.specs.declared.Surface.{Surface}
use Rattle.paper.specs.declared.Shown.{Shown}
use Rattle.paper.specs.Numbers.{surface_nos, reply_limit}
use Rattle.paper.specs.Kinds.{begin_kind, reply_to}
use Rattle.paper.specs.State.{Session}
use Rattle.paper.specs.Output.{Tail}
use Rattle.paper.specs.Replies.{Reply, bytes_of}
use Rattle.paper.specs.Step.{Result, step_of}
use Rattle.paper.specs.Reading.{further}
use Rattle.paper.specs.Ledger.{read_reply}
use Rattle.paper.specs.Accounts.{count, tail_in}
use Rattle.session.specs.Target.{is_begin, with_surface}
use Rattle.pool.specs.Pool.{Pool, no_surface, lowest_free}

-- how often some surfaces name the pool's surface i; they count only where it has that surface
abbrev pub named : ℕ → List Surface → ℕ → ℕ
named n xs i = cond (ltb i n) (count i (surface_nos xs)) 0

-- the surfaces that pictures were handed out on
abbrev pub shown_on : List Shown → List Surface
shown_on ps = map (λ (p : Shown). p.surface) ps

-- The pool once its session has accepted a record and answered with these bytes. What the reply releases is held no
-- more, and an accepted begin holds its surface x (which is none of the pool's for any other record). "Each handing out
-- adds one pending return".
unfoldable pub told : Pool → Session → ℕ → Tail → List ℕ → Pool
told p s x t bytes =
    record {
      session = s;
      surfaces = p.surfaces;
      held = λ i. (p.held i && eqb (named p.surfaces t.released i) 0) || (ltb i p.surfaces && eqb i x);
      pending = λ i. p.pending i + named p.surfaces (shown_on t.handed) i;
      reading = further p.reading bytes;
    }

abbrev pub accounted : Pool → Session → ℕ → List ℕ → Pool
accounted p s x bytes = told p s x (tail_in (read_reply p.reading bytes)) bytes

-- what a record's call answers, writes and leaves: "the call answers that number beside the reply, or 64 if no begin
-- was accepted"
pub record Given : Type 0 where
  pub number : ℕ
  pub bytes : List ℕ
  pub surface : ℕ
  pub next : Pool

-- "None of them changes the pool or the session"; "A begin refused by the session leaves the pool as before"
abbrev pub declined : Pool → ℕ → List ℕ → Given
declined p number bytes = record { number = number; bytes = bytes; surface = no_surface; next = p }

-- what the session answered, with surface x for a begin
abbrev pub passed : Pool → ℕ → Result → Given
passed p x d =
    cond (eqb d.number 0)
    (record { number = 0; bytes = d.bytes; surface = x; next = accounted p d.next x d.bytes })
    (declined p d.number d.bytes)

-- "Begin through the pool takes the lowest free surface"; "18, given exactly if no surface is free, after 14 and 13 and
-- before begin's other checks". A begin that is malformed is no begin here: the session answers it with 13
unfoldable pub begin_on : Pool → ℕ → List ℕ → ℕ → Given
begin_on p x r room =
    cond (ltb room reply_limit) (declined p 14 [])
    (cond (eqb x no_surface) (declined p 18 (bytes_of (Reply.Refused (reply_to begin_kind) 18)))
    (passed p x (step_of p.session (with_surface x r) room)))

-- "Every record of such a session goes through it, and begin's own surface field is ignored."
unfoldable pub pool_step : Pool → List ℕ → ℕ → Given
pool_step p r room = cond (is_begin r) (begin_on p (lowest_free p) r room) (passed p no_surface (step_of p.session r room))

-- "each return, a call and no record, takes one away and answers 0"; "19, a return for a surface with none pending or
-- not in the pool"
pub record Returned : Type 0 where
  pub number : ℕ
  pub next : Pool

abbrev pub is_pending : Pool → ℕ → Bool
is_pending p x = ltb x p.surfaces && ltb 0 (p.pending x)

abbrev pub one_less : Pool → ℕ → Pool
one_less p x =
    record {
      session = p.session;
      surfaces = p.surfaces;
      held = p.held;
      pending = λ i. cond (eqb i x) (p.pending i - 1) (p.pending i);
      reading = p.reading;
    }

unfoldable pub pool_return : Pool → ℕ → Returned
pool_return p x = cond (is_pending p x) (record { number = 0; next = one_less p x }) (record { number = 19; next = p })
