-- Document 02, Item 10: what is promised of a pool, after any calls from a made one, told from records, replies and
-- answers.
use Rattle.std.specs.Prelude.{ℕ, ◌+◌, ◌≤◌, ◌<◌, ◌≡◌, List, [], ◌∷◌, ◌++◌, Bool, true, false, not, ◌&&◌, ◌||◌, ltb, eqb}
use Rattle.paper.specs.declared.Serial.{Serial}
use Rattle.paper.specs.declared.Shown.{Shown}
use Rattle.paper.specs.Words.{all_b, any_b}
use Rattle.paper.specs.Numbers.{reply_limit, same_serial}
use Rattle.paper.specs.Reading.{opening}
use Rattle.paper.specs.Replies.{Begun}
use Rattle.paper.specs.Output.{Tail}
use Rattle.paper.specs.declared.Line.{Line}
use Rattle.paper.specs.Ledger.{Exchange, lines_of, lies, blank, told, reply_in}
use Rattle.paper.specs.Accounts.{count, released_all, tail_in}
use Rattle.paper.specs.Statement.{Kept, ledger_of, Begins, on_surface}
use Rattle.session.specs.Target.{is_begin}
use Rattle.pool.specs.Pool.{Pool, no_surface, can_make, made, is_free}
use Rattle.pool.specs.Calls.{pool_step, pool_return}
use Rattle.pool.specs.History.{Call, Heard, BytesIn, answer_to, after, heard_from, after_all, carried_all}
use Rattle.pool.specs.History.{exchanges_in, shown_all, returns_in, surfaces_in}

-- the surface lies under a line of this ledger: a picture that is stored or current is on it
abbrev pub lies_on : ℕ → List Line → Bool
lies_on x H = any_b (lies x) H

-- "The pool's picture of "held" agrees with the session after every record, refused ones and drains too": held in the
-- pool are the surfaces of the session's stored and current pictures, and these are surfaces of the pool
pub record Agrees (p : Pool) : Type 0 where
  pub held : (x : ℕ) → p.held x ≡ lies_on x (lines_of (ledger_of p.session))
  pub own : all_b (λ (e : Line). ltb e.surface.0 p.surfaces) (lines_of (ledger_of p.session)) ≡ true

-- "Each handing out adds one pending return; each return .. takes one away": what is pending and what was returned is
-- what was handed out; and at most one return is pending on a surface
pub record Pends (p : Pool) (hs : List Heard) : Type 0 where
  pub sum : (x : ℕ) → p.pending x + count x (returns_in hs) ≡ count x (shown_all (exchanges_in opening hs))
  pub one : (x : ℕ) → p.pending x ≤ 1

-- "A surface is free if the session does not hold it and every picture handed out on it has been given back by the
-- display", told from records, replies and answers
pub record FreeAs (n : ℕ) (p : Pool) (hs : List Heard) : Type 0 where
  pub free : (x : ℕ) → is_free p x
      ≡ (ltb x n && (not (lies_on x (lines_of (told blank (exchanges_in opening hs))))
      && eqb (count x (shown_all (exchanges_in opening hs))) (count x (returns_in hs))))

-- "Begin through the pool takes the lowest free surface, and the call answers that number beside the reply, or 64 if no
-- begin was accepted."
pub record Lowest (p : Pool) (r : List ℕ) (room : ℕ) : Type 0 where
  pub given : is_begin r ≡ true → (pool_step p r room).number ≡ 0 → is_free p (pool_step p r room).surface ≡ true
  pub lower : is_begin r ≡ true → (pool_step p r room).number ≡ 0 → (x : ℕ) → x < (pool_step p r room).surface
      → is_free p x ≡ false
  pub other : is_begin r ≡ false → (pool_step p r room).surface ≡ no_surface
  pub refused : ((pool_step p r room).number ≡ 0 → ⊥) → (pool_step p r room).surface ≡ no_surface

-- "18, given exactly if no surface is free, after 14 and 13 and before begin's other checks"
pub record Eighteen (p : Pool) (r : List ℕ) (room : ℕ) : Type 0 where
  pub given : reply_limit ≤ room → is_begin r ≡ true → ((x : ℕ) → is_free p x ≡ false) → (pool_step p r room).number ≡ 18
  pub only : (pool_step p r room).number ≡ 18 → (reply_limit ≤ room) × (is_begin r ≡ true) × ((x : ℕ) → is_free p x ≡ false)

-- "None of them changes the pool or the session"; "A begin refused by the session leaves the pool as before"; "number 7
-- never comes through it"
pub record Refusals (p : Pool) (c : Call) : Type 0 where
  pub left : ((answer_to p c).number ≡ 0 → ⊥) → after p c ≡ p
  pub seven : (answer_to p c).number ≡ 7 → ⊥

-- "19, a return for a surface with none pending or not in the pool"
pub record Nineteen (p : Pool) (x : ℕ) : Type 0 where
  pub none : p.pending x ≡ 0 → (pool_return p x).number ≡ 19
  pub foreign : p.surfaces ≤ x → (pool_return p x).number ≡ 19
  pub else : x < p.surfaces → 0 < p.pending x → (pool_return p x).number ≡ 0

-- a begin was accepted on surface x
abbrev pub GivenOn : ℕ → Heard → Type 0
GivenOn x h = surfaces_in (h ∷ []) ≡ (x ∷ [])

-- a handing out on surface x names the serial n
abbrev pub names : ℕ → Serial → Shown → Bool
names x n y = not (eqb x y.surface.0) || same_serial n y.serial

-- in some exchanges every handing out on surface x is of the picture n
abbrev pub AllNamed : ℕ → Serial → List Exchange → Type 0
AllNamed x n xs =
    (ys zs : List Exchange) (e : Exchange) → xs ≡ ys ++ (e ∷ zs) → all_b (names x n) (tail_in (reply_in e)).handed ≡ true

-- the exchanges of the calls ms, which came behind bs and h
abbrev pub between : List Heard → Heard → List Heard → List Exchange
between bs h ms = exchanges_in (carried_all opening (bs ++ (h ∷ []))) ms

-- WHAT THE TENANT WANTS TO HEAR. From a begin's answer, h, until its surface x is given again, the surface was released
-- by the session, once; and every handing out on it was of that begin's picture, and was returned. The begin is
-- `exchange`, that of the call h, and its reply says `begun` of its picture
pub record GivenAgain (bs ms : List Heard) (h : Heard) (x : ℕ) : Type 0 where
  pub exchange : Exchange
  pub begun : Begun
  pub tail : Tail
  pub only : exchanges_in (carried_all opening bs) (h ∷ []) ≡ (exchange ∷ [])
  pub begins : Begins exchange begun tail
  pub on : on_surface exchange ≡ x
  pub released : count x (released_all (between bs h ms)) ≡ 1
  pub its_own : AllNamed x begun.serial (between bs h ms)
  pub returned : count x (returns_in ms) ≡ count x (shown_all (between bs h ms))

abbrev pub NeverWhileHeld : List Heard → Type 0
NeverWhileHeld hs =
    (bs ms ls : List Heard) (h k : Heard) (x : ℕ) → hs ≡ bs ++ (h ∷ ms ++ (k ∷ ls)) → GivenOn x h → GivenOn x k
    → count x (surfaces_in ms) ≡ 0 → GivenAgain bs ms h x

-- ALL THAT IS PROMISED of a pool of n surfaces after some calls
pub record Promises (n : ℕ) (p : Pool) (hs : List Heard) : Type 0 where
  -- demand 3 with the answered surface in the record's place; the lines of the ledger are the pictures that the session
  -- holds
  pub kept : Kept (exchanges_in opening hs)
  pub true_to : told blank (exchanges_in opening hs) ≡ ledger_of p.session
  pub surfaces : p.surfaces ≡ n
  pub agrees : Agrees p
  pub pends : Pends p hs
  pub free : FreeAs n p hs
  pub lowest : (r : List ℕ) (room : ℕ) → Lowest p r room
  pub eighteen : (r : List ℕ) (room : ℕ) → Eighteen p r room
  pub refusals : (c : Call) → BytesIn c ≡ true → Refusals p c
  pub nineteen : (x : ℕ) → Nineteen p x
  pub never_while_held : NeverWhileHeld hs

abbrev pub Item10 : Type 0
Item10 =
    (n : ℕ) → can_make n ≡ true → (cs : List Call) → all_b BytesIn cs ≡ true
    → Promises n (after_all (made n) cs) (heard_from (made n) cs)
