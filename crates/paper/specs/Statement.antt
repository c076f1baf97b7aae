-- Demand 3 as one statement, of any exchanges and of a session's own.
use Rattle.std.specs.Prelude.{ℕ, ◌+◌, ◌≡◌, List, [], ◌∷◌, ◌++◌, map, Bool, true, false, not, ◌&&◌, ◌||◌, ltb, eqb}
use Rattle.paper.specs.declared.Serial.{Serial}
use Rattle.paper.specs.declared.Current.{Current}
use Rattle.paper.specs.declared.Picture.{Picture}
use Rattle.paper.specs.Words.{all_b}
use Rattle.paper.specs.Numbers.{u32, same_serial, reply_limit}
use Rattle.paper.specs.Kinds.{begin_kind, discard_kind, abandon_kind, surface_place}
use Rattle.paper.specs.Records.{kind_of}
use Rattle.paper.specs.State.{Session, fresh, on_now}
use Rattle.paper.specs.Output.{Tail}
use Rattle.paper.specs.Replies.{Begun, Reply}
use Rattle.paper.specs.Step.{Call, step_of, after_calls, answered_of}
use Rattle.paper.specs.declared.Line.{Line}
use Rattle.paper.specs.Ledger.{Ledger, Exchange, lines_of, lies, upon_all, events, none, names, blank, told}
use Rattle.paper.specs.Ledger.{reply_in}
use Rattle.paper.specs.declared.Reading.{Reading}
use Rattle.paper.specs.Reading.{opening, further}
use Rattle.paper.specs.Watch.{pairs}
use Rattle.paper.specs.Accounts.{Accounts, count, serials, surfaces, wanting, tail_in, begun_all, handed_all}
use Rattle.paper.specs.Accounts.{thrown_all, released_all}

-- the exchanges of a session with some records: each reply hands on what its reader carries
unfoldable pub exchanges : Reading → Session → List (List ℕ) → List Exchange
exchanges st s [] = []
exchanges st s (r ∷ rs) =
    record { said = r; answered = (step_of s r reply_limit).bytes; reading = st }
    ∷ exchanges (further st (step_of s r reply_limit).bytes) (step_of s r reply_limit).next rs

-- what a session holds, as the lines of a ledger
abbrev pub line : Picture → Line
line p = record { serial = p.serial; surface = p.surface; poc = p.poc; wants = p.waiting }

abbrev pub current_line : Current → Line
current_line c = record { serial = c.serial; surface = c.surface; poc = c.poc; wants = c.output }

abbrev pub ledger_of : Session → Ledger
ledger_of s =
    record {
      held = map line s.store;
      current = on_now s.current [] (λ (c : Current). current_line c ∷ []);
      begun = s.next;
      ok = true;
    }

-- records are lists of bytes
abbrev pub Bytes : List (List ℕ) → Type 0
Bytes rs = all_b (all_b (λ (b : ℕ). ltb b 256)) rs ≡ true

-- THE SENTENCES OF DEMAND 3, of some exchanges, whoever wrote the replies: all told from records and replies.

-- they are told from their records and replies alone: what the reader carries is what the replies in front leave it
abbrev pub FromBytes : List Exchange → Type 0
FromBytes xs = pairs opening (map (λ (x : Exchange). x.said) xs) (map (λ (x : Exchange). x.answered) xs) ≡ xs

-- the reply accepts a begin: what it says of its picture, and its tail
abbrev pub Begins : Exchange → Begun → Tail → Type 0
Begins x b t = reply_in x ≡ Reply.Started b t

-- the surface that a begin names
abbrev pub on_surface : Exchange → ℕ
on_surface x = u32 x.said surface_place

-- the ledger that they tell was in order all the way: each reply is one to its record, and each tail, set and list
-- agrees with what is held
abbrev pub InOrder : List Exchange → Type 0
InOrder xs = (told blank xs).ok ≡ true

-- each picture begun with output flag 1 is exactly one of these: current, waiting, handed out once, thrown away once
abbrev pub ExactlyOne : List Exchange → Type 0
ExactlyOne xs =
    (bs ls : List Exchange) (x : Exchange) (b : Begun) (t : Tail) → xs ≡ bs ++ (x ∷ ls) → Begins x b t
    → b.output ≡ true
    → count b.serial.0 (serials (told blank xs).current) + count b.serial.0
    (serials (wanting (told blank xs).held))
    + count b.serial.0 (handed_all xs) + count b.serial.0 (thrown_all xs) ≡ 1

-- between an accepted begin and the next accepted begin on its surface, the surface is released exactly once: in the
-- replies between the two, so neither begin's own reply counts
abbrev pub Between : List Exchange → Type 0
Between xs =
    (bs ms ls : List Exchange) (x y : Exchange) (b c : Begun) (t u : Tail) → xs ≡ bs ++ (x ∷ ms ++ (y ∷ ls))
    → Begins x b t → Begins y c u
    → on_surface y ≡ on_surface x → count (on_surface x) (surfaces (begun_all ms)) ≡ 0
    → count (on_surface x) (released_all ms) ≡ 1

-- after the last accepted begin on a surface, the surface is still held or was released exactly once
abbrev pub Once : List Exchange → Type 0
Once xs =
    (bs ls : List Exchange) (x : Exchange) (b : Begun) (t : Tail) → xs ≡ bs ++ (x ∷ ls) → Begins x b t
    → count (on_surface x) (surfaces (begun_all ls)) ≡ 0
    → count (on_surface x) (surfaces (lines_of (told blank xs))) + count (on_surface x) (released_all ls) ≡ 1

-- where it is still held, it is held from that begin: whatever lies there has the serial that the begin's reply gave
abbrev pub HeldFrom : List Exchange → Type 0
HeldFrom xs =
    (bs ls : List Exchange) (x : Exchange) (b : Begun) (t : Tail) → xs ≡ bs ++ (x ∷ ls) → Begins x b t
    → count (on_surface x) (surfaces (begun_all ls)) ≡ 0
    → all_b (λ (e : Line). not (lies (on_surface x) e) || same_serial e.serial b.serial)
    (lines_of (told blank xs)) ≡ true

-- at an accepted begin nothing lies on its surface
abbrev pub Free : List Exchange → Type 0
Free xs =
    (bs ls : List Exchange) (x : Exchange) (b : Begun) (t : Tail) → xs ≡ bs ++ (x ∷ ls) → Begins x b t
    → count (on_surface x) (surfaces (lines_of (told blank bs))) ≡ 0

-- the calls that throw away: an accepted begin that says no output of prior pictures, discard, abandon
unfoldable pub throws_away : List ℕ → Reply → Bool
throws_away r (Reply.Refused kind n) = false
throws_away r (Reply.Done kind t) = eqb (kind_of r) discard_kind || eqb (kind_of r) abandon_kind
throws_away r (Reply.Started b t) = eqb (kind_of r) begin_kind && b.no_prior_pics
throws_away r (Reply.Listed l0 l1) = false

-- thrown away by a named call: where a reply throws something away, its call is one of these
abbrev pub NamedCall : List Exchange → Type 0
NamedCall xs = (bs ls : List Exchange) (x : Exchange) → xs ≡ bs ++ (x ∷ ls) → none (tail_in (reply_in x)).thrown ≡ false
    → throws_away x.said (reply_in x) ≡ true

-- a begin throws away only by step 5's clear: it hands nothing out, and none of the pictures that were stored is left
abbrev pub Clears : List Exchange → Type 0
Clears xs =
    (bs ls : List Exchange) (x : Exchange) (b : Begun) (t : Tail) → xs ≡ bs ++ (x ∷ ls) → Begins x b t
    → none t.thrown ≡ false
    → (t.handed ≡ []) × (upon_all (events t) (told blank bs).held ≡ [])

-- a list names only the current picture, missing entries and stored pictures whose surfaces are unreleased
abbrev pub Lists : List Exchange → Type 0
Lists xs =
    (bs ls : List Exchange) (x : Exchange) (l0 l1 : List Serial) → xs ≡ bs ++ (x ∷ ls) → reply_in x ≡ Reply.Listed l0 l1
    → names (l0 ++ l1) (lines_of (told blank bs)) ≡ true

-- DEMAND 3 of some exchanges: all of these, and the accounts
pub record Kept (xs : List Exchange) : Type 0 where
  pub from_bytes : FromBytes xs
  pub in_order : InOrder xs
  pub sums : Accounts xs (told blank xs)
  pub exactly_one : ExactlyOne xs
  pub between : Between xs
  pub once : Once xs
  pub held_from : HeldFrom xs
  pub free : Free xs
  pub named_call : NamedCall xs
  pub clears : Clears xs
  pub lists : Lists xs

-- DEMAND 3 as one statement: from a fresh session, after any calls with any buffers, refused ones too. rs are the
-- records that were answered.
pub record Statement (cs : List Call) (rs : List (List ℕ)) : Type 0 where
  pub kept : Kept (exchanges opening fresh rs)
  -- the lines of the ledger are the pictures that the session holds
  pub true_to : told blank (exchanges opening fresh rs) ≡ ledger_of (after_calls fresh cs)

abbrev pub Demand : Type 0
Demand = (cs : List Call) → Bytes (answered_of cs) → Statement cs (answered_of cs)
