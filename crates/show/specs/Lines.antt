-- The line of a reply.
use Rattle.std.specs.Prelude.{ℕ, ◌+◌, ◌-◌, ◌*◌, List, [], ◌∷◌, ◌++◌, Bool, cond, length, get_or, drop, ltb, eqb}
use Rattle.paper.specs.declared.Reading.{Reading}
use Rattle.paper.specs.declared.Serial.{Serial}
use Rattle.paper.specs.Numbers.{u8, serial_nos}
use Rattle.paper.specs.Kinds.{reply_offset, rest_place, word_width, begun_members, flags_place}
use Rattle.paper.specs.Records.{kind_of}
use Rattle.paper.specs.Output.{Tail}
use Rattle.paper.specs.Replies.{Begun, Reply}
use Rattle.paper.specs.Ledger.{read_reply, read_begun, read_tail, set_words}
use Rattle.paper.specs.WholeReply.{whole_reply}
use Rattle.stream.specs.Text.{ascii, decimal, integer}
use Rattle.show.specs.Text.{serial_text}
use Rattle.show.specs.Lists.{named, tail_text, sets_text}

-- the record kinds, by number; a question mark for any other, as the reply to a 13 has
abbrev pub kind_words : List (List ℕ)
kind_words =
    ascii "?" ∷ ascii "configure" ∷ ascii "begin" ∷ ascii "lists" ∷ ascii "finish" ∷ ascii "drain" ∷ ascii "discard"
    ∷ ascii "end" ∷ ascii "abandon" ∷ []

unfoldable pub kind_word : ℕ → List ℕ
kind_word k = get_or kind_words k (ascii "?")

-- "Numbers a session says no with", a word for each
abbrev pub refusal_words : List (List ℕ)
refusal_words =
    ascii "unknown"
    ∷ ascii "not-configured"
    ∷ ascii "bad-limits"
    ∷ ascii "picture-current"
    ∷ ascii "no-current"
    ∷ ascii "out-of-range"
    ∷ ascii "outside-i32"
    ∷ ascii "surface-held"
    ∷ ascii "serials-spent"
    ∷ ascii "store-full"
    ∷ ascii "no-candidate"
    ∷ ascii "too-many"
    ∷ ascii "bad-entry"
    ∷ ascii "malformed"
    ∷ ascii "no-room"
    ∷ []

-- and for document 02, Item 10: "18, given exactly if no surface is free"
unfoldable pub refusal_word : ℕ → List ℕ
refusal_word n = cond (eqb n 18) (ascii "none-free") (get_or refusal_words n (ascii "unknown"))

-- "flags u8 (bit 0 NoRaslOutputFlag, 1 output flag, 2 valid for prevTid0Pic, 3 no output of prior pictures)": the words
-- of those that are set; where a spare bit is, the byte
abbrev pub flag_text : Bool → List ℕ → List ℕ
flag_text b word = cond b word []

unfoldable pub flags_text : ℕ → Bool → Bool → Bool → Bool → List ℕ
flags_text flags no_rasl_pics output valid no_prior_pics =
    cond (ltb flags 16)
    (flag_text no_rasl_pics (ascii " norasl")
    ++ flag_text output (ascii " output")
    ++ flag_text valid (ascii " valid")
    ++ flag_text no_prior_pics (ascii " noprior"))
    (ascii " flags=" ++ decimal flags)

-- a refusal: the kind of the record, the number and its word
unfoldable pub refused_text : ℕ → ℕ → List ℕ
refused_text kind n =
    ascii "refused " ++ kind_word (kind - reply_offset) ++ ascii " " ++ decimal n ++ ascii " " ++ refusal_word n

unfoldable pub done_text : ℕ → Tail → List ℕ
done_text kind t = ascii "done " ++ kind_word kind ++ tail_text t

-- what begin says of its picture, but for its sets
unfoldable pub told_text : ℕ → Begun → List ℕ
told_text flags b =
    ascii "begun poc=" ++ integer b.poc ++ flags_text flags b.no_rasl_pics b.output b.valid b.no_prior_pics
    ++ ascii " serial=" ++ decimal b.serial.0

unfoldable pub listed_text : List Serial → List Serial → List ℕ
listed_text l0 l1 =
    ascii "lists" ++ named (ascii " l0=") serial_text (serial_nos l0) ++ named (ascii " l1=") serial_text (serial_nos l1)

-- A reply as text; `flags` is the flags byte that a begun picture has
unfoldable pub reply_text : ℕ → Reply → List ℕ
reply_text flags (Reply.Refused kind n) = refused_text kind n
reply_text flags (Reply.Done kind t) = done_text kind t
reply_text flags (Reply.Started b t) = told_text flags b ++ sets_text b.sets ++ tail_text t
reply_text flags (Reply.Listed l0 l1) = listed_text l0 l1

-- an accepted begin, by its bytes
abbrev pub begun_at : Reading → List ℕ → List ℕ
begun_at st bs =
    told_text (u8 bs flags_place) (read_begun (drop rest_place bs)) ++ sets_text (read_begun (drop rest_place bs)).sets
    ++ tail_text (read_tail st (drop (word_width * set_words (drop rest_place bs)) (drop begun_members (drop rest_place bs))))

unfoldable pub damaged_text : List ℕ → List ℕ
damaged_text bs = ascii "damaged reply of " ++ decimal (length bs) ++ ascii " bytes, kind " ++ decimal (kind_of bs)

unfoldable pub said_text : Reading → List ℕ → List ℕ
said_text st bs = cond (whole_reply st bs) (reply_text (u8 bs flags_place) (read_reply st bs)) (damaged_text bs)

-- The line of the reply that has this number in its stream, behind those that left this to its reader
unfoldable pub line_of : Reading → ℕ → List ℕ → List ℕ
line_of st number bs = decimal number ++ ascii " " ++ said_text st bs ++ ascii "\n"

-- The line of n bytes at the end of a stream that are no whole reply
unfoldable pub rest_of : ℕ → ℕ → List ℕ
rest_of number n = decimal number ++ ascii " damaged: " ++ decimal n ++ ascii " bytes at the end are no whole reply\n"

-- the number of the next reply; the largest of 64 bits, which no stream reaches, stays
abbrev pub following : ℕ → ℕ
following n = cond (ltb n 18446744073709551615) (n + 1) n
