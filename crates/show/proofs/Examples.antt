-- Lines that the definition computes: the replies of document 01's whole exchange, a refusal, a tail, lists, and two
-- that are damaged.
use mathlib.Core.Path.{◌≡◌, refl}
use mathlib.Core.List.{[], ◌∷◌}
use Rattle.paper.specs.Words.{flat}
use Rattle.paper.specs.Numbers.{bit}
use Rattle.paper.specs.Reading.{opening}
use Rattle.paper.specs.Ledger.{read_words, read_shown, read_released, read_tail, read_sets, read_begun, read_reply}
use Rattle.paper.specs.WholeReply.{reply_end, whole_reply}
use Rattle.stream.specs.Text.{ascii, digits, decimal, integer}
use Rattle.show.specs.Text.{serial_text}
use Rattle.show.specs.Lists.{named, shown_text, tail_text, short_text, long_text}
use Rattle.show.specs.Lines.{kind_word, refusal_word, flags_text, refused_text, done_text, told_text, listed_text, reply_text, damaged_text, said_text, line_of, rest_of}

configured : line_of opening 1 (5 ∷ 0 ∷ 1 ∷ 1 ∷ 0 ∷ 0 ∷ 0 ∷ 0 ∷ 0 ∷ []) ≡ ascii "1 done configure\n"
unfolding line_of said_text whole_reply reply_end read_reply reply_text done_text kind_word tail_text read_tail read_shown read_released read_words named decimal digits
configured = refl

begun : line_of opening 2 (19 ∷ 0 ∷ 2 ∷ 1 ∷ 0 ∷ 0 ∷ 0 ∷ 0 ∷ 0 ∷ 0 ∷ 7 ∷ 0 ∷ 0 ∷ 0 ∷ 0 ∷ 0 ∷ 0 ∷ 0 ∷ 0 ∷ 0 ∷ 0 ∷ 0 ∷ 0 ∷ []) ≡ ascii "2 begun poc=0 norasl output valid serial=0\n"
unfolding line_of said_text whole_reply reply_end read_reply reply_text read_begun read_sets bit told_text flags_text short_text long_text tail_text read_tail read_shown read_released read_words named integer decimal digits
begun = refl

refused : line_of opening 3 (2 ∷ 0 ∷ 3 ∷ 1 ∷ 10 ∷ 0 ∷ []) ≡ ascii "3 refused lists 10 no-candidate\n"
unfolding line_of said_text whole_reply reply_end read_reply reply_text refused_text kind_word refusal_word decimal digits
refused = refl

drained : line_of opening 8 (25 ∷ 0 ∷ 5 ∷ 1 ∷ 0 ∷ 0 ∷ 1 ∷ 1 ∷ 0 ∷ 0 ∷ 0 ∷ 8 ∷ 0 ∷ 0 ∷ 0 ∷ 253 ∷ 255 ∷ 255 ∷ 255 ∷ 0 ∷ 2 ∷ 8 ∷ 0 ∷ 0 ∷ 0 ∷ 7 ∷ 0 ∷ 0 ∷ 0 ∷ []) ≡ ascii "8 done drain handed=1:8:-3 released=8,7\n"
unfolding line_of said_text whole_reply reply_end read_reply reply_text done_text kind_word tail_text shown_text read_tail read_shown read_released read_words flat named integer decimal digits
drained = refl

listed : line_of opening 100 (12 ∷ 0 ∷ 3 ∷ 1 ∷ 0 ∷ 0 ∷ 1 ∷ 1 ∷ 255 ∷ 255 ∷ 255 ∷ 255 ∷ 16 ∷ 39 ∷ 0 ∷ 0 ∷ []) ≡ ascii "100 lists l0=missing l1=10000\n"
unfolding line_of said_text whole_reply reply_end read_reply reply_text listed_text read_words flat named serial_text decimal digits
listed = refl

longer : line_of opening 9 (6 ∷ 0 ∷ 1 ∷ 1 ∷ 0 ∷ 0 ∷ 0 ∷ 0 ∷ 0 ∷ 0 ∷ []) ≡ ascii "9 damaged reply of 10 bytes, kind 257\n"
unfolding line_of said_text whole_reply reply_end damaged_text decimal digits
longer = refl

ended : rest_of 10 3 ≡ ascii "10 damaged: 3 bytes at the end are no whole reply\n"
unfolding rest_of decimal digits
ended = refl
