-- A run of calls of `step`: each call with the record and the buffer lent to it, and what it answered and left there
-- and in the memory.
use Rattle.std.specs.Prelude.{ℕ, ◌≡◌, List, [], ◌∷◌, map, cond, length, take, ltb}
use Rattle.paper.specs.Numbers.{reply_limit}
use Rattle.paper.specs.Step.{Call}
use Rattle.paper.specs.declared.Reading.{Reading}
use Rattle.paper.specs.Reading.{opening, further}
use Rattle.paper.specs.Ledger.{Exchange, blank, told}
use Rattle.paper.specs.Statement.{Kept, ledger_of}
use Rattle.session.specs.declared.Answer.{Answer}
use Rattle.session.specs.View.{Memory, session_in}
use Rattle.session.specs.Said.{Permitted}

pub record Called : Type 0 where
  pub said : List ℕ
  pub before : List ℕ
  pub answer : Answer
  pub left : Memory
  pub after : List ℕ

-- from memory m these calls, each permitted by the contract of `step` and each on the memory that the one before it
-- left, end in m'
abbrev pub Run : Memory → List Called → Memory → Type 0
Run m [] m' = m ≡ m'
Run m (x ∷ xs) m' = Permitted m x.said x.before x.answer x.left x.after × Run x.left xs m'

-- the paper's calls: the record and the room for its reply
abbrev pub calls_of : List Called → List Call
calls_of [] = []
calls_of (x ∷ xs) = record { said = x.said; room = length x.before } ∷ calls_of xs

-- the records of the calls
abbrev pub said_in : List Called → List (List ℕ)
said_in xs = map (λ (x : Called). x.said) xs

-- what somebody hears: the record and as many bytes of the buffer as the call says, where there was room, read with
-- what the replies in front leave
abbrev pub heard_in : Reading → List Called → List Exchange
heard_in st [] = []
heard_in st (x ∷ xs) =
    cond (ltb (length x.before) reply_limit) (heard_in st xs)
    (record { said = x.said; answered = take x.answer.len x.after; reading = st }
    ∷ heard_in (further st (take x.answer.len x.after)) xs)

-- DEMAND 3 of the code's own bytes: of what was heard of some calls, whose last left the memory m
pub record Demanded (xs : List Called) (m : Memory) : Type 0 where
  pub kept : Kept (heard_in opening xs)
  -- the lines of the ledger are the pictures that the session holds
  pub true_to : told blank (heard_in opening xs) ≡ ledger_of (session_in m)
