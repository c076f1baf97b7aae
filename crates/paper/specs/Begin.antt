-- Begin: its five steps in a session.
use Rattle.std.specs.Prelude.{◌+◌, List, Bool, false, cond, not, ◌&&◌, ℤ}
use Rattle.paper.specs.declared.Picture.{Picture}
use Rattle.paper.specs.declared.Current.{Current}
use Rattle.paper.specs.Numbers.{bit, a_serial}
use Rattle.paper.specs.Nal.{irap}
use Rattle.paper.specs.State.{Session, modulus}
use Rattle.paper.specs.Records.{Fields}
use Rattle.paper.specs.Flags.{no_rasl_output, pic_output, no_prior_output, valid_prev}
use Rattle.paper.specs.Poc.{msb_of, poc_of, in32}
use Rattle.paper.specs.Sets.{Sets, Wishes, wishes_of, wishes_in32, unmarked_if, sets_of, marks_of, refs_of}
use Rattle.paper.specs.Output.{Moved, before_decoding}
use Rattle.std.specs.Prelude.{Option, None, Some}
use Rattle.paper.specs.declared.Tid0.{Tid0}

-- Step 1
unfoldable pub no_rasl_pics : Session → Fields → Bool
no_rasl_pics s f = no_rasl_output f.nal s.at_start s.ended

unfoldable pub output_flag : Session → Fields → Bool
output_flag s f = pic_output f.nal (no_rasl_pics s f) (bit 0 f.flags)

unfoldable pub no_prior_pics : Session → Fields → Bool
no_prior_pics s f = no_prior_output f.nal (no_rasl_pics s f) s.at_start (bit 1 f.flags)

-- "IRAP with NoRaslOutputFlag"
abbrev pub starts_over : Session → Fields → Bool
starts_over s f = irap f.nal && no_rasl_pics s f

-- Step 2: "MSB 0 for IRAP with NoRaslOutputFlag or no previous Tid0 picture"
abbrev pub prev_for : Session → Fields → Option Tid0
prev_for s f = cond (starts_over s f) None s.prev

unfoldable pub msb : Session → Fields → ℤ
msb s f = msb_of (modulus s.limits) (prev_for s f) f.lsb

unfoldable pub poc : Session → Fields → ℤ
poc s f = poc_of (modulus s.limits) (prev_for s f) f.lsb

-- Step 3
abbrev pub wishes : Session → Fields → Wishes
wishes s f = wishes_of (modulus s.limits) (poc s f) f

-- not number 6: "the exact MSB, POC or a set's POC lies outside i32"
unfoldable pub within : Session → Fields → Bool
within s f = in32 (msb s f) && in32 (poc s f) && wishes_in32 (wishes s f)

-- Step 4
abbrev pub unmarked_store : Session → Fields → List Picture
unmarked_store s f = unmarked_if (starts_over s f) s.store

abbrev pub sets : Session → Fields → Sets
sets s f = sets_of (modulus s.limits) (unmarked_store s f) (wishes s f)

unfoldable pub marked_store : Session → Fields → List Picture
marked_store s f = marks_of (modulus s.limits) (unmarked_store s f) (wishes s f)

-- Step 5: "both as step 1 read them"
unfoldable pub room_made : Session → Fields → Moved
room_made s f = before_decoding (starts_over s f && not s.ended) (no_prior_pics s f) s.limits (marked_store s f)

-- the picture that is current now
unfoldable pub begun_current : Session → Fields → Current
begun_current s f =
    record {
      serial = a_serial s.next;
      surface = f.surface;
      poc = poc s f;
      lsb = f.lsb;
      msb = msb s f;
      output = output_flag s f;
      valid = valid_prev f.nal f.tid;
    }

-- "The first accepted begin ends "first in the bitstream"; an accepted begin ends "after end of sequence"".
-- "Serials count accepted begins from 0."
abbrev pub begun_session : Session → Fields → Session
begun_session s f =
    record {
      configured = s.configured;
      limits = s.limits;
      store = (room_made s f).pics;
      current = Some (begun_current s f);
      refs = refs_of (sets s f);
      prev = s.prev;
      at_start = false;
      ended = false;
      next = s.next + 1;
    }
