-- The numbers a session says no with, their order, and one call.
use Rattle.std.specs.Prelude.{ℕ, List, [], ◌∷◌, Bool, cond, not, ◌&&◌, ltb, eqb}
use Rattle.paper.specs.declared.Surface.{Surface}
use Rattle.paper.specs.declared.Picture.{Picture}
use Rattle.paper.specs.declared.Limits.{Limits}
use Rattle.paper.specs.declared.Current.{Current}
use Rattle.paper.specs.Words.{◌gives◌, first, any_b}
use Rattle.paper.specs.Numbers.{a_serial, missing, same_surface, reply_limit}
use Rattle.paper.specs.Kinds.{configure_kind, begin_kind, lists_kind, finish_kind, drain_kind, discard_kind, end_kind}
use Rattle.paper.specs.Kinds.{abandon_kind, reply_to, malformed_reply}
use Rattle.paper.specs.State.{Session, is_current, on_now, modulus}
use Rattle.paper.specs.Records.{Fields, Slice, kind_of, limits_of, fields_of, slice_of, well_formed}
use Rattle.paper.specs.Ranges.{configure_ranges, begin_ranges, lists_ranges}
use Rattle.paper.specs.Flags.{valid_prev}
use Rattle.paper.specs.Begin.{no_rasl_pics, output_flag, no_prior_pics, poc, within, sets, room_made, begun_session}
use Rattle.paper.specs.RefLists.{candidates0, candidates1, list0, list1, no_candidate, too_many, bad_entry}
use Rattle.paper.specs.Output.{Tail, quiet}
use Rattle.paper.specs.Calls.{full, finished, drained_now, dropped, discarded, finished_session, drained_session}
use Rattle.paper.specs.Calls.{configured_session, discarded_session, abandoned_session, ended_session}
use Rattle.paper.specs.Replies.{Begun, Reply, bytes_of}

-- what is decided of a record: its number, the reply and the session after
pub record Decided : Type 0 where
  pub number : ℕ
  pub reply : Reply
  pub next : Session

-- "A refused record leaves the session as before"
abbrev pub refused : Session → ℕ → ℕ → Decided
refused s kind number = record { number = number; reply = Reply.Refused kind number; next = s }

abbrev pub accepted : Session → ℕ → Tail → Decided
accepted s kind t = record { number = 0; reply = Reply.Done kind t; next = s }

-- refused with the number, unless that is 0
abbrev pub unless : Session → ℕ → ℕ → Decided → Decided
unless s kind number d = cond (eqb number 0) d (refused s (reply_to kind) number)

-- "in configure 2, 9"
unfoldable pub configure_refusal : Session → Limits → ℕ
configure_refusal s l =
    first (not (configure_ranges l) gives 2
    ∷ (is_current s.current && full s) gives 9
    ∷ [])

unfoldable pub configure_of : Session → Limits → Decided
configure_of s l =
    unless s configure_kind (configure_refusal s l) (accepted (configured_session s l) configure_kind (drained_now s).tail)

-- "begin 1, 3, 5, 8, 7, 6"; number 7: "the surface is held by a stored picture at the time of the call"
abbrev pub held_by : Surface → Picture → Bool
held_by x p = same_surface x p.surface

unfoldable pub begin_refusal : Session → Fields → ℕ
begin_refusal s f =
    first (not s.configured gives 1
    ∷ is_current s.current gives 3
    ∷ not (begin_ranges (modulus s.limits) f) gives 5
    ∷ eqb s.next missing.0 gives 8
    ∷ any_b (held_by f.surface) s.store gives 7
    ∷ not (within s f) gives 6
    ∷ [])

abbrev pub begun_of : Session → Fields → Begun
begun_of s f =
    record {
      poc = poc s f;
      no_rasl_pics = no_rasl_pics s f;
      output = output_flag s f;
      valid = valid_prev f.nal f.tid;
      no_prior_pics = no_prior_pics s f;
      serial = a_serial s.next;
      sets = sets s f;
    }

unfoldable pub begin_of : Session → Fields → Decided
begin_of s f =
    unless s begin_kind (begin_refusal s f)
    (record { number = 0; reply = Reply.Started (begun_of s f) (room_made s f).tail; next = begun_session s f })

-- "lists 4, 5, 10, 11 for list 0 then 1, 12 likewise"
unfoldable pub lists_refusal : Session → Current → Slice → ℕ
lists_refusal s c f =
    first (not (lists_ranges f) gives 5
    ∷ no_candidate s.refs c.serial f gives 10
    ∷ too_many f.ask0 (candidates0 s.refs f.own c.serial) gives 11
    ∷ too_many f.ask1 (candidates1 s.refs f.own c.serial) gives 11
    ∷ bad_entry f.ask0 (candidates0 s.refs f.own c.serial) gives 12
    ∷ bad_entry f.ask1 (candidates1 s.refs f.own c.serial) gives 12
    ∷ [])

abbrev pub lists_at : Session → Slice → Current → Decided
lists_at s f c =
    unless s lists_kind (lists_refusal s c f)
    (record {
      number = 0;
      reply = Reply.Listed (list0 s.refs c.serial f) (list1 s.refs c.serial f);
      next = s;
    })

unfoldable pub lists_of : Session → Slice → Decided
lists_of s f = on_now s.current (refused s (reply_to lists_kind) 4) (lists_at s f)

-- "finish 4, 9"
abbrev pub finish_at : Session → Current → Decided
finish_at s c =
    unless s finish_kind (first (full s gives 9 ∷ []))
    (accepted (finished_session s c) finish_kind (finished s.limits s.store c).tail)

unfoldable pub finish_of : Session → Decided
finish_of s = on_now s.current (refused s (reply_to finish_kind) 4) (finish_at s)

-- "drain 9"
unfoldable pub drain_of : Session → Decided
drain_of s =
    unless s drain_kind (first ((is_current s.current && full s) gives 9 ∷ []))
    (accepted (drained_session s) drain_kind (drained_now s).tail)

unfoldable pub discard_of : Session → Decided
discard_of s = accepted (discarded_session s) discard_kind (discarded s.store s.current).tail

unfoldable pub end_of : Session → Decided
end_of s = accepted (ended_session s) end_kind quiet

-- "abandon 4"
unfoldable pub abandon_of : Session → Decided
abandon_of s =
    on_now s.current (refused s (reply_to abandon_kind) 4)
    (λ (c : Current). accepted (abandoned_session s) abandon_kind (dropped c))

-- what a well-formed record does, by its kind
unfoldable pub by_kind : Session → List ℕ → Decided
by_kind s r =
    cond (eqb (kind_of r) configure_kind) (configure_of s (limits_of r))
    (cond (eqb (kind_of r) begin_kind) (begin_of s (fields_of r))
    (cond (eqb (kind_of r) lists_kind) (lists_of s (slice_of r))
    (cond (eqb (kind_of r) finish_kind) (finish_of s)
    (cond (eqb (kind_of r) drain_kind) (drain_of s)
    (cond (eqb (kind_of r) discard_kind) (discard_of s)
    (cond (eqb (kind_of r) end_kind) (end_of s)
    (abandon_of s)))))))

-- number 13: "its reply kind is 511"
unfoldable pub decide_of : Session → List ℕ → Decided
decide_of s r = cond (well_formed r) (by_kind s r) (refused s malformed_reply 13)

-- One call: "14, 13, then ..". "The call answers the refusal number, 0 when accepted, and the reply's length in bytes."
-- number 14: "reply buffer under 512 bytes; nothing written, the call answers 14 and length 0"
pub record Result : Type 0 where
  pub number : ℕ
  pub bytes : List ℕ
  pub next : Session

unfoldable pub step_of : Session → List ℕ → ℕ → Result
step_of s r room =
    cond (ltb room reply_limit) (record { number = 14; bytes = []; next = s })
    (record { number = (decide_of s r).number; bytes = bytes_of (decide_of s r).reply; next = (decide_of s r).next })

-- Some records, one after the other, each with room enough: the bytes written, and the session after
unfoldable pub replies : Session → List (List ℕ) → List (List ℕ)
replies s [] = []
replies s (r ∷ rs) = (step_of s r reply_limit).bytes ∷ replies (step_of s r reply_limit).next rs

unfoldable pub session_after : Session → List (List ℕ) → Session
session_after s [] = s
session_after s (r ∷ rs) = session_after (step_of s r reply_limit).next rs

-- Some calls with any room: the session after them, and the records of those that were not answered 14
pub record Call : Type 0 where
  pub said : List ℕ
  pub room : ℕ

unfoldable pub after_calls : Session → List Call → Session
after_calls s [] = s
after_calls s (c ∷ cs) = after_calls (step_of s c.said c.room).next cs

unfoldable pub answered_of : List Call → List (List ℕ)
answered_of [] = []
answered_of (c ∷ cs) = cond (ltb c.room reply_limit) (answered_of cs) (c.said ∷ answered_of cs)
