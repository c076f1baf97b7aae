-- "Numbers to try": the twelve cases, one statement over one list, through the whole decision where a record can ask.
-- The definitions compute them. Then numbers 8 and 14 and large counts, which no short recording shows, and what an
-- error near at hand would change.
use mathlib.Core.Path.{◌≡◌, refl}
use mathlib.Core.List.{List, [], ◌∷◌, map}
use mathlib.Core.Bool.{Bool, true, false}
use Prim.Native.Nat.{ℕ, ◌/◌, ◌%◌, ◌^◌}
use lib.IntN.{ℤ, pos, negsuc}
use Rattle.paper.specs.declared.Mark.TheVariants.{Unmarked, ShortTerm}
use Rattle.paper.specs.declared.Picture.{Picture}
use Rattle.paper.specs.declared.Wish.{Wish}
use Rattle.paper.specs.Numbers.{a_serial, a_surface, serial_nos}
use Rattle.paper.specs.State.{Session, Refs, no_refs}
use Rattle.paper.specs.Replies.{Reply}
use Rattle.paper.specs.Words.{keep, all_b, any_b, table, first}
use Rattle.paper.specs.Numbers.{bit}
use Rattle.paper.specs.Records.{limits_of, fields_of, slice_of, well_formed}
use Rattle.paper.specs.Ranges.{falling, rising, begin_ranges, lists_ranges}
use Rattle.paper.specs.Poc.{msb_of}
use Rattle.paper.specs.Sets.{Sets, Wishes, long_poc, wishes_of, wishes_in32, first_of, long_set, short_set, mark_all, mark_only, sets_of, marks_of}
use Rattle.paper.specs.Output.{due_late, before_decoding}
use Rattle.paper.specs.Begin.{no_rasl_pics, output_flag, no_prior_pics, msb, poc, within, marked_store, room_made, begun_current}
use Rattle.paper.specs.RefLists.{list0, list1, no_candidate, too_many, bad_entry}
use Rattle.paper.specs.Calls.{raised}
use Rattle.paper.specs.Step.{begin_refusal, begin_of, lists_refusal, lists_of, by_kind, decide_of, step_of}
use Rattle.std.proofs.Common.{Option, None, Some}
use Rattle.paper.specs.declared.Tid0.{Tid0}
use Rattle.paper.specs.Poc.{tid0}
use Rattle.paper.specs.declared.Current.{Current}

-- POC of a begin with this k and lsb after the previous Tid0 picture q, Q; the POC that a long-term entry asks for, of
-- k, POC, lsb and cycle; the reply to a lists record of this body
pub data Question : Type 0 where
  PocAfter : ℕ → ℕ → ℤ → ℕ → Question
  LongTerm : ℕ → ℤ → ℕ → ℕ → Question
  ListsOf : List ℕ → Question

pub data Answer : Type 0 where
  number : ℤ → Answer
  refusal : ℕ → Answer
  rows : List ℕ → List ℕ → Answer

-- a session of this k, with these stored, this previous Tid0 picture, current picture, its sets and next serial
abbrev asked : ℕ → List Picture → Option Tid0 → Option Current → Refs → ℕ → Session
asked k ps q c x n =
    record {
      configured = true;
      limits = record { k = k; capacity = 4; buffering = 4; reorder = 1; latency = 0 };
      store = ps;
      current = c;
      refs = x;
      prev = q;
      at_start = false;
      ended = false;
      next = n;
    }

-- the current picture 7; A is picture 1 and B is picture 2
abbrev seven : Option Current
seven = Some (record { serial = a_serial 7; surface = a_surface 0; poc = pos 0; lsb = 0; msb = pos 0; output = true; valid = true })

abbrev before_aAfter_b : Refs
before_aAfter_b = record { before = a_serial 1 ∷ []; after = a_serial 2 ∷ []; lt_curr = [] }

abbrev answer_of : Reply → Answer
answer_of (Reply.Refused kind n) = refusal n
answer_of (Reply.Done kind t) = refusal 0
answer_of (Reply.Started b t) = number b.poc
answer_of (Reply.Listed l0 l1) = rows (serial_nos l0) (serial_nos l1)

-- a begin of a picture of this type and lsb on surface 7, with no entries
abbrev begin_record : ℕ → ℕ → List ℕ
begin_record nal lsb = 12 ∷ 0 ∷ 2 ∷ 0 ∷ nal ∷ 0 ∷ 1 ∷ lsb % 256 ∷ lsb / 256 ∷ 7 ∷ 0 ∷ 0 ∷ 0 ∷ 0 ∷ 0 ∷ 0 ∷ []

abbrev ask : Question → Answer
ask (PocAfter k q Q lsb) = answer_of (decide_of (asked k [] (tid0 q Q) None no_refs 8) (begin_record 1 lsb)).reply
ask (LongTerm k p lsb cycle) = number (long_poc (2 ^ k) p lsb cycle)
ask (ListsOf body) = answer_of (decide_of (asked 4 [] None seven before_aAfter_b 8) (4 ∷ 0 ∷ 3 ∷ 0 ∷ body)).reply

pub record Case : Type 0 where
  pub question : Question
  pub answer : Answer

infix 70 ◌is◌
abbrev ◌is◌ : Question → Answer → Case
q is a = record { question = q; answer = a }

abbrev cases : List Case
cases =
    PocAfter 4 12 (pos 0) 4 is number (pos 20)
    ∷ PocAfter 4 12 (pos 0) 5 is number (pos 5)
    ∷ PocAfter 4 4 (pos 0) 12 is number (pos 12)
    ∷ PocAfter 4 4 (pos 0) 13 is number (negsuc 2)
    ∷ PocAfter 4 12 (pos 0) 12 is number (pos 12)
    ∷ PocAfter 16 65535 (pos 0) 0 is number (pos 65536)
    ∷ LongTerm 4 (pos 20) 3 1 is number (pos 3)
    ∷ LongTerm 4 (negsuc 2) 2 0 is number (negsuc 13)
    ∷ ListsOf (1 ∷ 0 ∷ 4 ∷ 0 ∷ []) is rows (1 ∷ 2 ∷ 1 ∷ 2 ∷ []) []
    ∷ ListsOf (0 ∷ 0 ∷ 1 ∷ 3 ∷ []) is rows (1 ∷ []) (2 ∷ 1 ∷ 2 ∷ [])
    ∷ ListsOf (1 ∷ 4 ∷ 2 ∷ 0 ∷ []) is rows (1 ∷ 7 ∷ []) []
    ∷ PocAfter 4 15 (pos 2147483632) 0 is refusal 6
    ∷ []

pub twelve : map (λ (c : Case). ask c.question) cases ≡ map (λ (c : Case). c.answer) cases
unfolding keep all_b any_b table first bit fields_of slice_of well_formed falling rising begin_ranges lists_ranges msb_of wishes_of wishes_in32 long_set short_set mark_all mark_only sets_of marks_of before_decoding no_rasl_pics output_flag no_prior_pics msb poc within marked_store room_made begun_current list0 list1 no_candidate too_many bad_entry begin_refusal begin_of lists_refusal lists_of by_kind decide_of
twelve = refl

-- number 8: "the next serial would be 4,294,967,295": 4,294,967,294 is the last serial given. "begin 1, 3, 5, 8, 7, 6":
-- 5 before 8, 8 before 7
abbrev on_surface7 : Picture
on_surface7 = record { serial = a_serial 6; surface = a_surface 7; poc = pos 0; mark = ShortTerm; waiting = false; count = 0 }

abbrev number_at : List Picture → ℕ → ℕ → ℕ
number_at ps n nal = (decide_of (asked 4 ps None None no_refs n) (begin_record nal 0)).number

pub eight : number_at [] 4294967294 19 ∷ number_at [] 4294967295 19 ∷ number_at [] 4294967295 10 ∷ number_at (on_surface7 ∷ []) 4294967295 19 ∷ number_at (on_surface7 ∷ []) 8 19 ∷ [] ≡ 0 ∷ 8 ∷ 5 ∷ 8 ∷ 7 ∷ []
unfolding keep all_b any_b table first bit fields_of well_formed falling rising begin_ranges msb_of wishes_of wishes_in32 no_rasl_pics msb poc within begin_refusal begin_of by_kind decide_of
eight = refl

-- number 14: "reply buffer under 512 bytes; nothing written, the call answers 14 and length 0", before 13
pub fourteen : (s : Session) (r : List ℕ) → ((step_of s r 511).number ≡ 14) × ((step_of s r 511).bytes ≡ []) × ((step_of s r 511).next ≡ s)
unfolding step_of
fourteen s r = (refl, refl, refl)

-- a short-term picture that waits, of this serial, POC and count
abbrev short : ℕ → ℕ → ℕ → Picture
short n p c = record { serial = a_serial n; surface = a_surface n; poc = pos p; mark = ShortTerm; waiting = true; count = c }

-- an entry asks for this POC
abbrev wish : ℕ → Bool → Wish
wish p used = record { poc = pos p; used = used; whole = true }

-- four pictures, each asked for by a long-term entry, used or not, and by one of: neg used, neg unused, pos used, pos
-- unused
abbrev four : List Picture
four = short 1 3 0 ∷ short 2 2 0 ∷ short 3 6 0 ∷ short 4 7 0 ∷ []

abbrev asks_twice : Bool → Wishes
asks_twice used = record { neg = wish 3 true ∷ wish 2 false ∷ []; pos = wish 6 true ∷ wish 7 false ∷ []; lt = map (λ (p : ℕ). wish p used) (3 ∷ 2 ∷ 6 ∷ 7 ∷ []) }

-- "4,294,967,295 stands for a missing picture"
abbrev none : ℕ
none = 4294967295

-- the five sets
abbrev numbers : Sets → List (List ℕ)
numbers x = serial_nos x.before ∷ serial_nos x.after ∷ serial_nos x.foll ∷ serial_nos x.lt_curr ∷ serial_nos x.lt_foll ∷ []

-- "LtCurr, then LtFoll: .. Those found become long-term. Then Before, After, Foll: first short-term picture": the error
-- "short-term search before the long-term marks" finds the four
pub long_before_short : map (λ (used : Bool). numbers (sets_of 16 four (asks_twice used))) (true ∷ false ∷ [])
    ≡ ((none ∷ []) ∷ (none ∷ []) ∷ (none ∷ none ∷ []) ∷ (1 ∷ 2 ∷ 3 ∷ 4 ∷ []) ∷ [] ∷ [])
    ∷ ((none ∷ []) ∷ (none ∷ []) ∷ (none ∷ none ∷ []) ∷ [] ∷ (1 ∷ 2 ∷ 3 ∷ 4 ∷ []) ∷ [])
    ∷ []
unfolding keep any_b first_of long_set short_set mark_all sets_of
long_before_short = refl

-- "Every picture in none of the sets loses its mark": of two with one POC the one that no set has; the error
-- "membership by POC" keeps both
pub by_picture : map (λ (p : Picture). p.mark) (marks_of 16 (short 1 2 0 ∷ short 2 2 0 ∷ []) (record { neg = wish 2 true ∷ []; pos = []; lt = [] })) ≡ ShortTerm ∷ Unmarked ∷ []
unfolding keep any_b first_of long_set short_set mark_all mark_only sets_of marks_of
by_picture = refl

-- "latency u16", here 257: "latency ≠ 0 and a waiting picture's count ≥ latency"
pub late_at : map (λ (n : ℕ). due_late (limits_of (6 ∷ 0 ∷ 1 ∷ 0 ∷ 4 ∷ 4 ∷ 4 ∷ 1 ∷ 1 ∷ 1 ∷ [])) (short 1 0 n ∷ [])) (1 ∷ 256 ∷ 257 ∷ 2147483647 ∷ []) ≡ false ∷ false ∷ true ∷ true ∷ []
unfolding keep any_b due_late
late_at = refl

-- "every stored count rises by 1, stopping at 2,147,483,647"
pub counts_stop : map (λ (n : ℕ). (raised (short 1 0 n)).count) (0 ∷ 2147483646 ∷ 2147483647 ∷ []) ≡ 1 ∷ 2147483647 ∷ 2147483647 ∷ []
counts_stop = refl
