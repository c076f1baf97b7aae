-- What a call answers, writes and leaves.
use Rattle.std.specs.Prelude.{ℕ, ◌≤◌, ◌<◌, ◌≡◌, List, [], length, true}
use Rattle.std.specs.Prelude.{Result, IfOk, IfErr, OnErr}
use Rattle.std.specs.Borrow.{MutBor}
use denote.Triple.Both.{Both}
use Rattle.wire.specs.Bytes.{over}
use Rattle.format.specs.declared.kinds.Kind.{Kind}
use Rattle.format.specs.Kind as Kinds
use Rattle.paper.specs.Numbers.{reply_limit}
use Rattle.paper.specs.Kinds.{reply_to, malformed_reply, rest_place}
use Rattle.paper.specs.Records.{kind_of, well_formed}
use Rattle.paper.specs.Replies.{bytes_of, framed, tail_bytes}
use Rattle.paper.specs.State.{Session, on_now, all_refs}
use Rattle.paper.specs.Calls.{drained, prev_after}
use Rattle.paper.specs.Step.{Decided, refused, step_of}
use Rattle.store.specs.StoreWords.{word, stored, NormalForm}
use Rattle.session.specs.declared.Answer.{Answer}
use Rattle.session.specs.declared.Refusal.{Refusal}
use Rattle.session.specs.Numbered.{number_of}
use Rattle.session.specs.View.{Memory, Front, memory, session_in, front_in, idle_front, now_at, prev_at, limits_at}
use Rattle.session.specs.Laid.{front_words, NormalMemory}
use Rattle.std.specs.Prelude.{Option, None, Some}
use Rattle.paper.specs.declared.Tid0.{Tid0}

-- the answer to an accepted record: the number 0 and the reply's length
abbrev pub accepts : ℕ → Answer
accepts n = record { number = 0; len = n }

-- an accepted record's reply and its length
pub record Says (reply before : List ℕ) (len : ℕ) (after : List ℕ) : Type 0 where
  pub long : len ≡ length reply
  pub bytes : after ≡ over reply before

-- a refused one's
pub record Refuses (kind number : ℕ) (before : List ℕ) (a : Answer) (after : List ℕ) : Type 0 where
  pub answer : a ≡ record { number = number; len = rest_place }
  pub bytes : after ≡ over (framed kind number []) before

-- the answer where the reply buffer is under 512 bytes: number 14, and nothing is written
abbrev pub no_room : Answer
no_room = record { number = 14; len = 0 }

-- a refusal by a layer above the session: "reply buffer under 512 bytes" is number 14 and writes nothing, else six
-- bytes say the layer's own number
pub record Declines (kind number : ℕ) (before : List ℕ) (a : Answer) (after : List ℕ) : Type 0 where
  pub small : length before < reply_limit → (a ≡ no_room) × (after ≡ before)
  pub refuses : reply_limit ≤ length before → Refuses kind number before a after

-- the answer and the reply to a record of which d was decided
pub record Answers (d : Decided) (before : List ℕ) (a : Answer) (after : List ℕ) : Type 0 where
  pub answer : a ≡ record { number = d.number; len = length (bytes_of d.reply) }
  pub bytes : after ≡ over (bytes_of d.reply) before

-- and the memory m' that is left of m: the next session; where the record is refused, every word as it was; a normal
-- form if m was one; and the run of the sets behind the next session's members as it was
pub record Does (m : Memory) (d : Decided) (before : List ℕ) (a : Answer) (m' : Memory) (after : List ℕ) : Type 0 where
  pub answers : Answers d before a after
  pub next : session_in m' ≡ d.next
  pub left : (d.number ≡ 0 → ⊥) → m' ≡ m
  pub normal : NormalMemory m → NormalMemory m'
  pub sets : (i : ℕ) → length (all_refs d.next.refs) ≤ i → word m'.sets i ≡ word m.sets i

-- what is lent to a call, words or bytes: `.entry` as the call finds it, `.exit` as it leaves it
abbrev pub Lent : Type 0
Lent = Both (MutBor (List ℕ)) (MutBor (List ℕ))

-- d was decided of the session s, and it is this refusal, in a reply of this kind: the reply is still to be written
pub record Rejects (kind : ℕ) (s : Session) (d : Decided) (before : List ℕ) (why : Refusal)
    (after : List ℕ) : Type 0 where
  pub decided : d ≡ refused s kind (number_of why)
  pub bytes : after ≡ before

-- what is given where d was decided: the length of the reply that was written, or the refusal
pub record Gives (kind : ℕ) (s : Session) (d : Decided) (before : List ℕ) (given : Result ℕ Refusal)
    (after : List ℕ) : Type 0 where
  pub ok : IfOk given (λ (len : ℕ). Answers d before (accepts len) after)
  pub err : IfErr given (λ (why : Refusal). Rejects kind s d before why after)

-- likewise of the session that lies in m, with the memory m' that is left: where it is a refusal, m
pub record Tries (kind : ℕ) (m : Memory) (d : Decided) (before : List ℕ) (given : Result ℕ Refusal) (m' : Memory)
    (after : List ℕ) : Type 0 where
  pub ok : IfOk given (λ (len : ℕ). Does m d before (accepts len) m' after)
  pub err : IfErr given (λ (why : Refusal). Rejects kind (session_in m) d before why after)
  pub left : OnErr given (m' ≡ m)

-- the number that stands for a kind in a reply
abbrev pub reply_kind : Kind → ℕ
reply_kind kind = reply_to (Kinds.number_of kind)

-- that which stands in a refusal, by the kind that was read; a record that has none is malformed
abbrev pub refused_kind : Option Kind → ℕ
refused_kind None = malformed_reply
refused_kind (Some kind) = reply_kind kind

-- a call decides of the session that lies in m by `decide`. Where that accepts, it writes what was decided and leaves
-- m'; where it refuses, in a reply of this kind, it gives the refusal and changes nothing
abbrev pub Decides : ℕ → (Session → Decided) → Memory → Memory → Lent → Result ℕ Refusal → Type 0
Decides kind decide m m' reply given =
    Tries kind m (decide (session_in m)) reply.entry.now given m' reply.exit.now

-- where the whole memory is lent to it
abbrev pub Calls : ℕ → (Session → Decided) → Lent → Lent → Lent → Lent → Result ℕ Refusal → Type 0
Calls kind decide front sets store reply given =
    Decides kind decide (memory front.entry.now sets.entry.now store.entry.now)
    (memory front.exit.now sets.exit.now store.exit.now) reply given

-- where the run of the sets is not lent to it: whatever that holds
abbrev pub CallsStore : ℕ → (Session → Decided) → Lent → Lent → Lent → Result ℕ Refusal → Type 0
CallsStore kind decide front store reply given =
    (xs : List ℕ)
    → Decides kind decide (memory front.entry.now xs store.entry.now)
    (memory front.exit.now xs store.exit.now) reply given

-- where neither that run nor the store is lent to it
abbrev pub CallsFront : ℕ → (Session → Decided) → Lent → Lent → Result ℕ Refusal → Type 0
CallsFront kind decide front reply given =
    (xs t : List ℕ) → Decides kind decide (memory front.entry.now xs t) (memory front.exit.now xs t) reply given

-- "reply buffer under 512 bytes" is number 14: the calls behind it have the room
pub record Roomy (reply : List ℕ) : Type 0 where
  pub room : 512 ≤ length reply

-- behind number 13: a well-formed record of kind k
pub record WellFormed (k : ℕ) (r : List ℕ) : Type 0 where
  pub formed : well_formed r ≡ true
  pub kind : kind_of r ≡ k

-- the words beside the store when no picture is current any more and q is the previous Tid0 picture
pub record Idles (h h' : List ℕ) (q : Option Tid0) : Type 0 where
  pub front : front_in h' ≡ idle_front (front_in h) q
  pub words : (f : Front) → h ≡ front_words f → h' ≡ front_words (idle_front f q)

-- a drain that nothing refuses, with the reply of kind `kind`
pub record Drained (h t : List ℕ) (kind : ℕ) (before : List ℕ) (len : ℕ) (h' t' after : List ℕ) : Type 0 where
  pub says : Says (framed kind 0 (tail_bytes (drained (limits_at h) (stored t) (now_at h)).tail)) before len after
  pub pics : stored t' ≡ (drained (limits_at h) (stored t) (now_at h)).pics
  pub front : Idles h h' (on_now (now_at h) (prev_at h) (prev_after (prev_at h)))
  pub normal : NormalForm t → NormalForm t'

-- of what is lent to it
abbrev pub Drains : ℕ → Lent → Lent → Lent → ℕ → Type 0
Drains kind front store reply len =
    Drained front.entry.now store.entry.now kind reply.entry.now len front.exit.now
    store.exit.now reply.exit.now

-- The contract of `step`: the answer, the whole buffer and the next session are those of the paper's `step_of`; a
-- refused record leaves every word as it was; memory in its normal form stays so; and the run of the sets stays as it
-- was behind the next session's members
pub record Permitted (m : Memory) (r before : List ℕ) (a : Answer) (m' : Memory) (after : List ℕ) : Type 0 where
  pub answer : a
      ≡ record {
        number = (step_of (session_in m) r (length before)).number;
        len = length (step_of (session_in m) r (length before)).bytes;
      }
  pub bytes : after ≡ over (step_of (session_in m) r (length before)).bytes before
  pub next : session_in m' ≡ (step_of (session_in m) r (length before)).next
  pub left : (a.number ≡ 0 → ⊥) → m' ≡ m
  pub normal : NormalMemory m → NormalMemory m'
  pub sets : (i : ℕ) → length (all_refs (step_of (session_in m) r (length before)).next.refs) ≤ i
      → word m'.sets i ≡ word m.sets i
