-- Demand 3 says something: short exchanges, each under the sentence that it breaks. None of them is kept, and the
-- sample that they differ from is.
use Prim.Native.Nat.{ℕ, ◌*◌, ◌≤◌}
use mathlib.Core.Path.{◌≡◌, refl, ap}
use mathlib.Core.List.{List, [], ◌∷◌, ◌++◌}
use mathlib.Core.Bool.{true, false}
use native.Mathlib.Omega.{arith}
use lib.ListN.{length, drop}
use borrow.Author.Tests.{eqb-false}
use Rattle.paper.specs.Words.{keep, all_b, any_b, flat}
use Rattle.paper.specs.Numbers.{bit, bytes32, a_serial}
use Rattle.paper.specs.Kinds.{begin_kind, lists_kind, finish_kind, drain_kind, reply_to, rest_place, begun_members}
use Rattle.paper.specs.Reading.{opening, further}
use Rattle.paper.specs.Output.{Tail}
use Rattle.paper.specs.Replies.{Begun, framed}
use Rattle.paper.specs.Ledger.{Exchange, set_words, read_words, read_shown, read_released, read_tail, read_sets, read_begun, read_reply, may, free, upon, may_all, upon_all, none, names, tell, heard, told, blank}
use Rattle.paper.specs.Accounts.{Accounts, count, wanting, begun_in, tail_in, begun_all, handed_all, thrown_all, released_all}
use Rattle.paper.specs.Watch.{pairs}
use Rattle.paper.specs.Statement.{InOrder, ExactlyOne, Between, Once, HeldFrom, Free, throws_away, NamedCall, Clears, Lists, Kept}
use Rattle.paper.proofs.Bools.{not_both}
use Rattle.paper.proofs.Every.{All, all_more}
use Rattle.paper.proofs.Between.{in_order_kept}

-- Records and replies in bytes. A picture n handed out from surface x, with POC 0:
abbrev shown : ℕ → ℕ → List ℕ
shown n x = bytes32 n ++ bytes32 x ++ bytes32 0

-- a tail: pictures handed out, serials thrown away, surfaces released
abbrev tail_of : List (List ℕ) → List ℕ → List ℕ → List ℕ
tail_of hs ns xs = length hs ∷ flat (λ (h : List ℕ). h) hs ++ (length ns ∷ flat bytes32 ns) ++ (length xs ∷ flat bytes32 xs)

abbrev quietly : List ℕ
quietly = tail_of [] [] []

-- a record of this kind without a body, and its reply with this tail
abbrev pub call : ℕ → List ℕ → Exchange
call kind t = record { said = 0 ∷ 0 ∷ kind ∷ 0 ∷ []; answered = framed (reply_to kind) 0 t; reading = opening }

-- an IDR picture begun on this surface, and the reply: its flags, serial, the serials of StCurrBefore and the tail
abbrev beginning : ℕ → ℕ → ℕ → List ℕ → List ℕ → Exchange
beginning x flags n ns t =
    record {
      said = 12 ∷ 0 ∷ 2 ∷ 0 ∷ 19 ∷ 0 ∷ 1 ∷ 0 ∷ 0 ∷ x ∷ 0 ∷ 0 ∷ 0 ∷ 0 ∷ 0 ∷ 0 ∷ [];
      answered = framed (reply_to begin_kind) 0 (bytes32 0 ++ (flags ∷ []) ++ bytes32 n ++ (length ns ∷ 0 ∷ 0 ∷ 0 ∷ 0 ∷ []) ++ flat bytes32 ns ++ t);
      reading = opening;
    }

-- a lists record, and the reply: list 0 of these serials
abbrev listing : List ℕ → Exchange
listing ns = record { said = 4 ∷ 0 ∷ 3 ∷ 0 ∷ 1 ∷ 0 ∷ length ns ∷ 0 ∷ []; answered = framed (reply_to lists_kind) 0 (length ns ∷ 0 ∷ flat bytes32 ns); reading = opening }

-- what the reply to a begin says of the picture, and its tail
abbrev picture_in : Exchange → Begun
picture_in x = read_begun (drop rest_place x.answered)

abbrev tail_at : Exchange → Tail
tail_at x = read_tail x.reading (drop (4 * set_words (drop rest_place x.answered)) (drop begun_members (drop rest_place x.answered)))

-- Picture 0 is begun on surface 7 with output flag 1: flags 7, and 15 with "no output of prior pictures"
abbrev first0 : Exchange
first0 = beginning 7 7 0 [] quietly

abbrev finish : List (List ℕ) → List ℕ → List ℕ → Exchange
finish hs ns xs = call 4 (tail_of hs ns xs)

abbrev drain : List (List ℕ) → List ℕ → List ℕ → Exchange
drain hs ns xs = call 5 (tail_of hs ns xs)

-- the sample: picture 0 waits, then a begin that says "no output of prior pictures" throws it away; picture 1 is named,
-- handed out and released
abbrev pub sample : List Exchange
sample = first0 ∷ finish [] [] [] ∷ beginning 8 15 1 [] (tail_of [] (0 ∷ []) (7 ∷ [])) ∷ listing (1 ∷ []) ∷ finish (shown 1 8 ∷ []) [] [] ∷ drain [] [] (8 ∷ []) ∷ []

pub sample_kept : Kept sample
unfolding keep all_b any_b flat bit bytes32 read_words read_shown read_released read_tail read_sets read_begun read_reply may free upon may_all upon_all none names tell heard told pairs further
sample_kept = in_order_kept sample refl refl

pub data Sentence : Type 0 where
  in_order : Sentence
  sums : Sentence
  exactly_one : Sentence
  between : Sentence
  once : Sentence
  held_from : Sentence
  free_there : Sentence
  named_call : Sentence
  clears : Sentence
  lists : Sentence

abbrev pub says : Sentence → List Exchange → Type 0
says in_order xs = InOrder xs
says sums xs = Accounts xs (told blank xs)
says exactly_one xs = ExactlyOne xs
says between xs = Between xs
says once xs = Once xs
says held_from xs = HeldFrom xs
says free_there xs = Free xs
says named_call xs = NamedCall xs
says clears xs = Clears xs
says lists xs = Lists xs

-- what is kept says each of them
kept_says : (s : Sentence) (xs : List Exchange) → Kept xs → says s xs
kept_says in_order xs k = k.in_order
kept_says sums xs k = k.sums
kept_says exactly_one xs k = k.exactly_one
kept_says between xs k = k.between
kept_says once xs k = k.once
kept_says held_from xs k = k.held_from
kept_says free_there xs k = k.free
kept_says named_call xs k = k.named_call
kept_says clears xs k = k.clears
kept_says lists xs k = k.lists

pub record Break : Type 0 where
  pub sentence : Sentence
  pub exchanges : List Exchange

infix 70 ◌is-broken-by◌
abbrev ◌is-broken-by◌ : Sentence → List Exchange → Break
s is-broken-by xs = record { sentence = s; exchanges = xs }

-- picture 0 is handed out and keeps its surface
abbrev stays0 : Exchange
stays0 = finish (shown 0 7 ∷ []) [] []

-- picture 0 is handed out and its surface released
abbrev leaves0 : Exchange
leaves0 = finish (shown 0 7 ∷ []) [] (7 ∷ [])

-- picture 0 waits
abbrev finish0 : Exchange
finish0 = finish [] [] []

-- picture 1 is begun on surface 7 or 8 and nothing else happens
abbrev again1 : Exchange
again1 = beginning 7 7 1 [] quietly

abbrev other1 : Exchange
other1 = beginning 8 7 1 [] quietly

-- picture 1 is begun on surface 7, which its own reply releases
abbrev takes1 : Exchange
takes1 = beginning 7 7 1 [] (tail_of [] [] (7 ∷ []))

-- the begin of picture 1 throws picture 0 away: without bit 3; without releasing it; and hands it out as well
abbrev throws1 : Exchange
throws1 = beginning 8 7 1 [] (tail_of [] (0 ∷ []) (7 ∷ []))

abbrev spares1 : Exchange
spares1 = beginning 8 15 1 [] (tail_of [] (0 ∷ []) [])

abbrev shows1 : Exchange
shows1 = beginning 8 15 1 [] (tail_of (shown 0 7 ∷ []) (0 ∷ []) (7 ∷ []))

-- one record with the reply to another, and a record without a body refused with this reply kind and number
abbrev answering : Exchange → Exchange → Exchange
answering x y = record { said = x.said; answered = y.answered; reading = y.reading }

abbrev refusing : ℕ → ℕ → ℕ → Exchange
refusing kind reply n = record { said = 0 ∷ 0 ∷ kind ∷ 0 ∷ []; answered = framed reply n []; reading = opening }

abbrev pub broken : List Break
broken =
    -- a finish is answered as a drain
    in_order is-broken-by (first0 ∷ answering finish0 (drain [] [] []) ∷ [])
    -- a drain is answered as a begin
    ∷ in_order is-broken-by (answering (drain [] [] []) first0 ∷ [])
    -- a drain is answered as a lists record
    ∷ in_order is-broken-by (first0 ∷ answering (drain [] [] []) (listing (0 ∷ [])) ∷ [])
    -- a drain is refused as a finish, or with number 13 and its own kind
    ∷ in_order is-broken-by (refusing drain_kind (reply_to finish_kind) 9 ∷ [])
    ∷ in_order is-broken-by (refusing drain_kind (reply_to drain_kind) 13 ∷ [])
    -- a begin while a picture is current
    ∷ in_order is-broken-by (first0 ∷ other1 ∷ [])
    -- the first serial is not 0
    ∷ in_order is-broken-by (again1 ∷ [])
    -- a picture is handed out as one on another surface
    ∷ in_order is-broken-by (first0 ∷ finish (shown 0 8 ∷ []) [] [] ∷ [])
    -- a surface is released while its picture waits
    ∷ in_order is-broken-by (first0 ∷ finish [] [] (7 ∷ []) ∷ [])
    -- a finish with no current picture
    ∷ in_order is-broken-by (finish0 ∷ [])
    -- a drain leaves a picture
    ∷ in_order is-broken-by (first0 ∷ drain (shown 0 7 ∷ []) [] [] ∷ [])
    -- an end of sequence releases
    ∷ in_order is-broken-by (first0 ∷ stays0 ∷ call 7 (tail_of [] [] (7 ∷ [])) ∷ [])
    -- an abandon with no current picture; one that leaves its picture
    ∷ in_order is-broken-by (call 8 quietly ∷ [])
    ∷ in_order is-broken-by (first0 ∷ call 8 quietly ∷ [])
    -- lists while no picture is current
    ∷ in_order is-broken-by (listing [] ∷ [])
    -- a begin's set names a picture whose surface was released
    ∷ in_order is-broken-by (first0 ∷ leaves0 ∷ beginning 8 7 1 (0 ∷ []) quietly ∷ [])
    -- a picture begun with output flag 0 is handed out
    ∷ sums is-broken-by (beginning 7 5 0 [] quietly ∷ stays0 ∷ [])
    -- a picture begun with output flag 1 is nowhere
    ∷ sums is-broken-by (first0 ∷ call 8 (tail_of [] [] (7 ∷ [])) ∷ [])
    -- a serial is given twice
    ∷ sums is-broken-by (first0 ∷ finish0 ∷ beginning 8 7 0 [] quietly ∷ [])
    -- a surface is released that was never begun
    ∷ sums is-broken-by (first0 ∷ finish [] [] (9 ∷ []) ∷ [])
    -- a surface is neither held nor released
    ∷ sums is-broken-by (first0 ∷ call 8 (tail_of [] (0 ∷ []) []) ∷ [])
    -- two pictures lie on one surface
    ∷ sums is-broken-by (first0 ∷ finish0 ∷ again1 ∷ [])
    -- a picture is handed out twice
    ∷ exactly_one is-broken-by (first0 ∷ stays0 ∷ drain (shown 0 7 ∷ []) [] (7 ∷ []) ∷ [])
    -- a picture is handed out and thrown away
    ∷ exactly_one is-broken-by (first0 ∷ stays0 ∷ call 6 (tail_of [] (0 ∷ []) (7 ∷ [])) ∷ [])
    -- a picture is thrown away twice
    ∷ exactly_one is-broken-by (first0 ∷ finish [] (0 ∷ []) [] ∷ call 6 (tail_of [] (0 ∷ []) (7 ∷ [])) ∷ [])
    -- a picture is neither handed out nor thrown away, and gone
    ∷ exactly_one is-broken-by (first0 ∷ drain [] [] (7 ∷ []) ∷ [])
    -- a surface is never released before its next begin
    ∷ between is-broken-by (first0 ∷ stays0 ∷ again1 ∷ [])
    -- a surface is released twice before its next begin
    ∷ between is-broken-by (first0 ∷ leaves0 ∷ drain [] [] (7 ∷ []) ∷ again1 ∷ [])
    -- a surface is released by its next begin's own reply
    ∷ between is-broken-by (first0 ∷ stays0 ∷ takes1 ∷ [])
    -- a surface is released twice after its last begin
    ∷ once is-broken-by (first0 ∷ leaves0 ∷ drain [] [] (7 ∷ []) ∷ [])
    -- a surface is neither held nor released after its last begin
    ∷ once is-broken-by (first0 ∷ call 8 (tail_of [] (0 ∷ []) []) ∷ [])
    -- what lies on a surface is from an earlier begin than the last
    ∷ held_from is-broken-by (first0 ∷ stays0 ∷ again1 ∷ [])
    -- a begin is accepted on a surface that is held
    ∷ free_there is-broken-by (first0 ∷ stays0 ∷ again1 ∷ [])
    -- a finish throws away
    ∷ named_call is-broken-by (first0 ∷ finish [] (0 ∷ []) [] ∷ [])
    -- a drain throws away
    ∷ named_call is-broken-by (first0 ∷ drain [] (0 ∷ []) (7 ∷ []) ∷ [])
    -- a begin throws away and does not say "no output of prior pictures"
    ∷ named_call is-broken-by (first0 ∷ finish0 ∷ throws1 ∷ [])
    -- a begin throws a picture away and leaves it in the store
    ∷ clears is-broken-by (first0 ∷ finish0 ∷ spares1 ∷ [])
    -- a begin throws away and hands out
    ∷ clears is-broken-by (first0 ∷ finish0 ∷ shows1 ∷ [])
    -- a list names a picture whose surface was released
    ∷ lists is-broken-by (first0 ∷ leaves0 ∷ other1 ∷ listing (0 ∷ []) ∷ [])
    ∷ []

out : false ≡ true → ⊥
out e = not_both false e refl

is_some : {A : Type 0} (x : A) (xs : List A) → x ∷ xs ≡ [] → ⊥
unfolding none
is_some x xs e = not_both (none (x ∷ xs)) (ap none e) refl

infixr 20 ◌and◌
abbrev pub ◌and◌ : {A B : Type 0} → A → B → A × B
a and b = (a, b)

-- NO SENTENCE HOLDS OF THE EXCHANGES UNDER IT
pub all_broken : All (λ (k : Break). says k.sentence k.exchanges → ⊥) broken
unfolding keep all_b any_b flat bit bytes32 read_words read_shown read_released read_tail read_sets read_begun read_reply may free upon may_all upon_all none names tell heard told count wanting begun_in tail_in begun_all handed_all thrown_all released_all throws_away
all_broken =
    (λ k. out k)
    and (λ k. out k)
    and (λ k. out k)
    and (λ k. out k)
    and (λ k. out k)
    and (λ k. out k)
    and (λ k. out k)
    and (λ k. out k)
    and (λ k. out k)
    and (λ k. out k)
    and (λ k. out k)
    and (λ k. out k)
    and (λ k. out k)
    and (λ k. out k)
    and (λ k. out k)
    and (λ k. out k)
    and (λ k. eqb-false 0 1 refl (k.pictures 0))
    and (λ k. eqb-false 1 0 refl (k.pictures 0))
    and (λ k. let e : 2 ≤ 1 = k.once 0 in omega (arith, e))
    and (λ k. eqb-false 0 1 refl (k.memory 9))
    and (λ k. eqb-false 1 0 refl (k.memory 7))
    and (λ k. let e : 2 ≤ 1 = k.held_once 7 in omega (arith, e))
    and (λ k. eqb-false 2 1 refl (k [] _ first0 (picture_in first0) (tail_at first0) refl refl refl))
    and (λ k. eqb-false 2 1 refl (k [] _ first0 (picture_in first0) (tail_at first0) refl refl refl))
    and (λ k. eqb-false 2 1 refl (k [] _ first0 (picture_in first0) (tail_at first0) refl refl refl))
    and (λ k. eqb-false 0 1 refl (k [] _ first0 (picture_in first0) (tail_at first0) refl refl refl))
    and (λ k. eqb-false 0 1 refl (k [] (stays0 ∷ []) [] first0 again1 (picture_in first0) (picture_in again1) (tail_at first0) (tail_at again1) refl refl refl refl refl))
    and (λ k. eqb-false 2 1 refl (k [] (leaves0 ∷ drain [] [] (7 ∷ []) ∷ []) [] first0 again1 (picture_in first0) (picture_in again1) (tail_at first0) (tail_at again1) refl refl refl refl refl))
    and (λ k. eqb-false 0 1 refl (k [] (stays0 ∷ []) [] first0 takes1 (picture_in first0) (picture_in takes1) (tail_at first0) (tail_at takes1) refl refl refl refl refl))
    and (λ k. eqb-false 2 1 refl (k [] _ first0 (picture_in first0) (tail_at first0) refl refl refl))
    and (λ k. eqb-false 0 1 refl (k [] _ first0 (picture_in first0) (tail_at first0) refl refl refl))
    and (λ k. out (k (first0 ∷ stays0 ∷ []) [] again1 (picture_in again1) (tail_at again1) refl refl refl))
    and (λ k. eqb-false 1 0 refl (k (first0 ∷ stays0 ∷ []) [] again1 (picture_in again1) (tail_at again1) refl refl))
    and (λ k. out (k (first0 ∷ []) [] (finish [] (0 ∷ []) []) refl refl))
    and (λ k. out (k (first0 ∷ []) [] (drain [] (0 ∷ []) (7 ∷ [])) refl refl))
    and (λ k. out (k (first0 ∷ finish0 ∷ []) [] throws1 refl refl))
    and (λ k. is_some _ _ (k (first0 ∷ finish0 ∷ []) [] spares1 (picture_in spares1) (tail_at spares1) refl refl refl).1)
    and (λ k. is_some _ _ (k (first0 ∷ finish0 ∷ []) [] shows1 (picture_in shows1) (tail_at shows1) refl refl refl).0)
    and (λ k. out (k (first0 ∷ leaves0 ∷ other1 ∷ []) [] (listing (0 ∷ [])) (a_serial 0 ∷ []) [] refl refl))
    and tt

-- NONE OF THEM IS KEPT
pub none_kept : All (λ (k : Break). Kept k.exchanges → ⊥) broken
none_kept = all_more (λ (k : Break). says k.sentence k.exchanges → ⊥) (λ (k : Break). Kept k.exchanges → ⊥) (λ k h x. h (kept_says k.sentence k.exchanges x)) broken all_broken
