-- Replies: what is answered, and its bytes.
use Rattle.std.specs.Prelude.{ℕ, ◌+◌, List, [], ◌∷◌, ◌++◌, Bool, length, ℤ}
use Rattle.paper.specs.declared.Serial.{Serial}
use Rattle.paper.specs.declared.Shown.{Shown}
use Rattle.paper.specs.Words.{flat}
use Rattle.paper.specs.Numbers.{bytes16, bytes32, signed32, flag_at, serial_nos, surface_nos}
use Rattle.paper.specs.Kinds.{begin_kind, lists_kind, reply_to}
use Rattle.paper.specs.Sets.{Sets, in_order}
use Rattle.paper.specs.Output.{Tail}

-- what begin says of its picture
pub record Begun : Type 0 where
  pub poc : ℤ
  pub no_rasl_pics : Bool
  pub output : Bool
  pub valid : Bool
  pub no_prior_pics : Bool
  pub serial : Serial
  pub sets : Sets

-- a refusal with its reply kind and number; an accepted record, by its kind
pub data Reply : Type 0 where
  Refused : ℕ → ℕ → Reply
  Done : ℕ → Tail → Reply
  Started : Begun → Tail → Reply
  Listed : List Serial → List Serial → Reply

-- "u8 count and (serial u32, surface u32, POC i32) of each picture handed out; u8 count and serials thrown away; u8
-- count and surfaces released"
abbrev pub shown_bytes : Shown → List ℕ
shown_bytes p = bytes32 p.serial.0 ++ bytes32 p.surface.0 ++ signed32 p.poc

unfoldable pub words : List ℕ → List ℕ
words ns = flat bytes32 ns

unfoldable pub tail_bytes : Tail → List ℕ
tail_bytes t =
    length t.handed ∷ flat shown_bytes t.handed
    ++ (length t.thrown ∷ words (serial_nos t.thrown))
    ++ (length t.released ∷ words (surface_nos t.released))

-- "POC i32, flags u8 (bit 0 NoRaslOutputFlag, 1 output flag, 2 valid for prevTid0Pic, 3 no output of prior pictures),
-- serial u32, five u8 counts (StCurrBefore, StCurrAfter, StFoll, LtCurr, LtFoll), their members in that order as u32
-- serials"
abbrev pub flags_byte : Begun → ℕ
flags_byte b = flag_at 0 b.no_rasl_pics + flag_at 1 b.output + flag_at 2 b.valid + flag_at 3 b.no_prior_pics

unfoldable pub begun_bytes : Begun → List ℕ
begun_bytes b =
    signed32 b.poc ++ (flags_byte b ∷ []) ++ bytes32 b.serial.0
    ++ (length b.sets.before
    ∷ length b.sets.after
    ∷ length b.sets.foll
    ∷ length b.sets.lt_curr
    ∷ length b.sets.lt_foll
    ∷ [])
    ++ words (serial_nos (in_order b.sets))

-- "A reply has the same head with kind 256 + record kind; its body starts with a u16 refusal number."
abbrev pub framed : ℕ → ℕ → List ℕ → List ℕ
framed kind number rest = bytes16 (2 + length rest) ++ bytes16 kind ++ bytes16 number ++ rest

-- "Accepted replies: kinds 1 and 4 to 8 hold the refusal number 0 and a tail. Begin holds 0, .. the tail. Lists holds
-- 0, two u8 lengths, the u32 serials."
unfoldable pub bytes_of : Reply → List ℕ
bytes_of (Refused kind number) = framed kind number []
bytes_of (Done kind t) = framed (reply_to kind) 0 (tail_bytes t)
bytes_of (Started b t) = framed (reply_to begin_kind) 0 (begun_bytes b ++ tail_bytes t)
bytes_of (Listed l0 l1) = framed (reply_to lists_kind) 0 (length l0 ∷ length l1 ∷ words (serial_nos (l0 ++ l1)))
