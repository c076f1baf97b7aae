-- A begin as the code goes through it: what has been read and tested at each stage.
use Rattle.std.specs.Prelude.{ℕ, ◌+◌, ◌≤◌, ◌≡◌, List, ◌++◌, Bool, true, false, cond, not, ◌&&◌, eqb}
use Rattle.paper.specs.declared.Limits.{Limits}
use Rattle.paper.specs.declared.Current.{Current}
use Rattle.paper.specs.declared.Serial.{Serial}
use Rattle.paper.specs.declared.Picture.{Picture}
use Rattle.paper.specs.declared.Wish.{Wish}
use Rattle.paper.specs.Words.{any_b}
use Rattle.paper.specs.Numbers.{bit, flag_at, missing, a_serial}
use Rattle.paper.specs.Kinds.{begin_kind, reply_to}
use Rattle.paper.specs.State.{is_current, modulus}
use Rattle.paper.specs.Nal.{irap}
use Rattle.paper.specs.Ranges.{begin_ranges}
use Rattle.paper.specs.Flags.{no_rasl_output, pic_output, no_prior_output, valid_prev}
use Rattle.paper.specs.Poc.{in32}
use Rattle.paper.specs.Begin.{msb, poc, wishes, within}
use Rattle.paper.specs.Begin as Begin
use Rattle.paper.specs.Step.{held_by}
use Rattle.paper.specs.State.{Session}
use Rattle.paper.specs.Output.{before_decoding}
use Rattle.paper.specs.Replies.{framed, tail_bytes}
use Rattle.derivation.specs.declared.ref_lists.Refs.{Refs}
use Rattle.store.specs.declared.Sizes.{Sizes}
use Rattle.store.specs.StoreWords.{word, flag_of, stored, NormalForm}
use Rattle.store.specs.Runs.{wishes_in}
use Rattle.format.specs.declared.records.BeginFields.{BeginFields}
use Rattle.session.specs.declared.replies.Told.{Told}
use Rattle.session.specs.declared.begin.Flags.{Flags}
use Rattle.session.specs.declared.begin.Start.{Start}
use Rattle.session.specs.FrontPlaces.{ENDED, NEXT}
use Rattle.session.specs.View.{limits_at}
use Rattle.session.specs.Said.{Says}
use Rattle.session.specs.Target.{fields_with, begin_with}
use Rattle.session.specs.Written.{begun_part}
use Rattle.std.specs.Prelude.{Option, None}
use Rattle.paper.specs.declared.Tid0.{Tid0}

abbrev pub flags_from : Bool → Bool → BeginFields → Flags
flags_from start ended h =
    record {
      rasl = no_rasl_output h.nal start ended;
      output = pic_output h.nal (no_rasl_output h.nal start ended) (bit 0 h.flags);
      valid = valid_prev h.nal h.tid;
      prior = no_prior_output h.nal (no_rasl_output h.nal start ended) start (bit 1 h.flags);
      over = irap h.nal && no_rasl_output h.nal start ended;
    }

abbrev pub flags_number : Flags → ℕ
flags_number f = flag_at 0 f.rasl + flag_at 1 f.output + flag_at 2 f.valid + flag_at 3 f.prior

abbrev pub prev_from : Bool → Option Tid0 → Option Tid0
prev_from over q = cond over None q

abbrev pub current_from : ℕ → BeginFields → Start → Current
current_from next h t =
    record {
      serial = a_serial next;
      surface = h.surface;
      poc = t.poc;
      lsb = h.lsb;
      msb = t.msb;
      output = t.flags.output;
      valid = t.flags.valid;
    }

abbrev pub told_from : ℕ → Start → Told
told_from next t = record { poc = t.poc; flags = flags_number t.flags; serial = a_serial next }

abbrev pub refs_from : Sizes → Refs
refs_from x = record { before = x.before; after = x.after; long = x.long }

-- none of 1, 3, 5, 8 and 7, where l are the limits and h the fields of the begin before its entries, with the surface
-- that it is to have
pub record Passed (s : Session) (r : List ℕ) (l : Limits) (h : BeginFields) : Type 0 where
  pub limits : l ≡ s.limits
  pub fields : h ≡ begin_with h.surface r
  pub configured : s.configured ≡ true
  pub idle : is_current s.current ≡ false
  pub ranges : begin_ranges (modulus s.limits) (fields_with h.surface r) ≡ true
  pub roomy : eqb s.next missing.0 ≡ false
  pub free : any_b (held_by h.surface) s.store ≡ false

-- and the flags, the MSB and the POC, which lie in i32
pub record Placed (s : Session) (r : List ℕ) (l : Limits) (h : BeginFields) (t : Start) : Type 0 where
  pub passed : Passed s r l h
  pub flags : t.flags ≡ flags_from s.at_start s.ended h
  pub msb : t.msb ≡ Begin.msb s (fields_with h.surface r)
  pub poc : t.poc ≡ Begin.poc s (fields_with h.surface r)
  pub inside : (in32 t.msb && in32 t.poc) ≡ true

-- and the wishes, all of which do
pub record Wished (s : Session) (r : List ℕ) (l : Limits) (h : BeginFields) (t : Start)
    (ws : List Wish) : Type 0 where
  pub placed : Placed s r l h t
  pub within : within s (fields_with h.surface r) ≡ true
  pub few : h.neg + h.pos + h.lt ≤ 16
  pub wishes : wishes_in ws h.neg h.pos h.lt ≡ wishes s (fields_with h.surface r)

-- step 5 of the pictures that step 4 marked, and the reply, where the two runs of the sets are first and second
pub record Tells (h : List ℕ) (first second : List Serial) (ps : List Picture) (p : List ℕ) (t : Start) (x : Sizes)
    (before : List ℕ) (len : ℕ) (p' after : List ℕ) : Type 0 where
  pub pics : stored p' ≡ (before_decoding (t.flags.over && not (flag_of (word h ENDED))) t.flags.prior
      (limits_at h) ps).pics
  pub normal : NormalForm p → NormalForm p'
  pub says : Says (framed (reply_to begin_kind) 0 (begun_part (told_from (word h NEXT) t) x first second
      ++ tail_bytes (before_decoding (t.flags.over && not (flag_of (word h ENDED))) t.flags.prior
      (limits_at h) ps).tail)) before len after
