-- Document 02, Item 10: some calls of a pool one after the other, what each answered, and what somebody can tell from
-- calls and answers alone.
use Rattle.std.specs.Prelude.{ℕ, List, [], ◌∷◌, ◌++◌, Bool, true, cond, ◌&&◌, ltb, eqb}
use Rattle.paper.specs.Words.{all_b}
use Rattle.paper.specs.Numbers.{surface_nos}
use Rattle.paper.specs.declared.Reading.{Reading}
use Rattle.paper.specs.Reading.{further}
use Rattle.paper.specs.Ledger.{Exchange, none, reply_in}
use Rattle.paper.specs.Accounts.{tail_in}
use Rattle.session.specs.Target.{with_surface}
use Rattle.pool.specs.Pool.{Pool, no_surface}
use Rattle.pool.specs.Calls.{shown_on, pool_step, pool_return}

-- a record with a reply buffer of so many bytes, or the return of a surface
pub data Call : Type 0 where
  Lends : List ℕ → ℕ → Call
  Returns : ℕ → Call

-- the number, the reply's bytes and the surface; a return has no reply
pub record Answer : Type 0 where
  pub number : ℕ
  pub bytes : List ℕ
  pub surface : ℕ

unfoldable pub answer_to : Pool → Call → Answer
answer_to p (Lends r room) =
    record {
      number = (pool_step p r room).number;
      bytes = (pool_step p r room).bytes;
      surface = (pool_step p r room).surface;
    }
answer_to p (Returns x) = record { number = (pool_return p x).number; bytes = []; surface = no_surface }

unfoldable pub after : Pool → Call → Pool
after p (Lends r room) = (pool_step p r room).next
after p (Returns x) = (pool_return p x).next

-- a call and its answer
pub record Heard : Type 0 where
  pub call : Call
  pub answer : Answer

unfoldable pub heard_from : Pool → List Call → List Heard
heard_from p [] = []
heard_from p (c ∷ cs) = record { call = c; answer = answer_to p c } ∷ heard_from (after p c) cs

unfoldable pub after_all : Pool → List Call → Pool
after_all p [] = p
after_all p (c ∷ cs) = after_all (after p c) cs

-- records are lists of bytes
abbrev pub BytesIn : Call → Bool
BytesIn (Lends r room) = all_b (λ (b : ℕ). ltb b 256) r
BytesIn (Returns x) = true

-- "Demand 3 reads the chosen surface from that answer": the exchange of a call that got a reply, with the answered
-- surface in the record's place, and what the reader of the replies carries behind it
abbrev pub exchange_in : Reading → Call → Answer → List Exchange
exchange_in st (Lends r room) a =
    cond (none a.bytes) [] (record { said = with_surface a.surface r; answered = a.bytes; reading = st } ∷ [])
exchange_in st (Returns x) a = []

abbrev pub carried_on : Reading → Call → Answer → Reading
carried_on st (Lends r room) a = cond (none a.bytes) st (further st a.bytes)
carried_on st (Returns x) a = st

unfoldable pub exchanges_in : Reading → List Heard → List Exchange
exchanges_in st [] = []
exchanges_in st (h ∷ hs) = exchange_in st h.call h.answer ++ exchanges_in (carried_on st h.call h.answer) hs

unfoldable pub carried_all : Reading → List Heard → Reading
carried_all st [] = st
carried_all st (h ∷ hs) = carried_all (carried_on st h.call h.answer) hs

-- the surfaces of all pictures handed out
unfoldable pub shown_all : List Exchange → List ℕ
shown_all [] = []
shown_all (x ∷ xs) = surface_nos (shown_on (tail_in (reply_in x)).handed) ++ shown_all xs

-- the surfaces that were returned, where the answer was 0
abbrev pub return_in : Call → Answer → List ℕ
return_in (Lends r room) a = []
return_in (Returns x) a = cond (eqb a.number 0) (x ∷ []) []

unfoldable pub returns_in : List Heard → List ℕ
returns_in [] = []
returns_in (h ∷ hs) = return_in h.call h.answer ++ returns_in hs

-- the surfaces that begins were given, in order: those that a call answered beside its reply
abbrev pub surface_in : Answer → List ℕ
surface_in a = cond (eqb a.number 0 && ltb a.surface no_surface) (a.surface ∷ []) []

unfoldable pub surfaces_in : List Heard → List ℕ
surfaces_in [] = []
surfaces_in (h ∷ hs) = surface_in h.answer ++ surfaces_in hs
