-- Document 02, Item 12: POC in one line, told from records and replies alone. "For every accepted begin that is not
-- IRAP with NoRaslOutputFlag and has a previous Tid0 picture of POC p: the POC is the only whole number v with
-- remainder lsb modulo M and −M/2 < v − p ≤ M/2."
use Rattle.std.specs.Prelude.{ℕ, ◌^◌, ◌≡◌, List, [], ◌∷◌, ◌++◌, Bool, true, false, cond, ◌&&◌, ◌||◌, eqb, ℤ, pos, ◌-ℤ◌}
use Rattle.std.specs.Prelude.{Option, None, Some}
use Rattle.paper.specs.Words.{any_b}
use Rattle.paper.specs.Numbers.{u8, u16, i32, bit}
use Rattle.paper.specs.Kinds.{configure_kind, begin_kind, finish_kind, drain_kind, discard_kind, abandon_kind}
use Rattle.paper.specs.Kinds.{k_place, nal_place, lsb_place, number_place, poc_place, flags_place}
use Rattle.paper.specs.Records.{kind_of}
use Rattle.paper.specs.Nal.{irap}
use Rattle.paper.specs.Nearest.{TheOnly, Multiple, nearest_to}
use Rattle.paper.specs.State.{Session, modulus}
use Rattle.paper.specs.Ledger.{Exchange}
use Rattle.paper.specs.declared.Tid0.{Tid0}
use Rattle.paper.specs.Poc.{tid0}

-- WHERE EACH NUMBER IS FOUND, in a record and its reply.

-- the reply's refusal number is 0, and the record is of this kind
abbrev pub accepts : ℕ → Exchange → Bool
accepts kind x = eqb (u16 x.answered number_place) 0 && eqb (kind_of x.said) kind

-- of an accepted begin: lsb in its record; POC in its reply; MSB, since "POC = MSB + lsb"
abbrev pub lsb_in : Exchange → ℕ
lsb_in x = u16 x.said lsb_place

abbrev pub poc_in : Exchange → ℤ
poc_in x = i32 x.answered poc_place

abbrev pub msb_in : Exchange → ℤ
msb_in x = poc_in x -ℤ pos (lsb_in x)

-- "IRAP with NoRaslOutputFlag": the record's NAL type, and bit 0 of the reply's flags
abbrev pub starts_over_in : Exchange → Bool
starts_over_in x = irap (u8 x.said nal_place) && bit 0 (u8 x.answered flags_place)

-- "valid for prevTid0Pic": bit 2 of the reply's flags
abbrev pub valid_in : Exchange → Bool
valid_in x = bit 2 (u8 x.answered flags_place)

-- WHAT A READER WRITES DOWN from one exchange to the next: k of the last accepted configure, 0 before any; the begin of
-- the current picture; the begin of the previous Tid0 picture
pub record Notes : Type 0 where
  pub k : ℕ
  pub current : Option Exchange
  pub previous : Option Exchange

abbrev pub empty : Notes
empty = record { k = 0; current = None; previous = None }

-- "M = 2^k"
abbrev pub modulus_in : Notes → ℕ
modulus_in n = 2 ^ n.k

-- finish: "If valid .. it becomes the previous Tid0 picture."
unfoldable pub previous_after : Option Exchange → Option Exchange → Option Exchange
previous_after None p = p
previous_after (Some x) p = cond (valid_in x) (Some x) p

-- the current picture is finished; it is given up
abbrev pub finishes : Exchange → Bool
finishes x = accepts finish_kind x || accepts drain_kind x

abbrev pub gives_up : Exchange → Bool
gives_up x = accepts discard_kind x || accepts abandon_kind x

-- another picture is current behind it, or none
abbrev pub moves : Exchange → Bool
moves x = accepts begin_kind x || (finishes x || gives_up x)

-- the previous Tid0 picture is the last valid one that was finished since the last accepted configure; what is refused
-- changes nothing, nor do lists and end of sequence
unfoldable pub noted : Notes → Exchange → Notes
noted n x =
    cond (accepts configure_kind x) (record { k = u8 x.said k_place; current = None; previous = None })
    (cond (accepts begin_kind x) (record { k = n.k; current = Some x; previous = n.previous })
    (cond (finishes x) (record { k = n.k; current = None; previous = previous_after n.current n.previous })
    (cond (gives_up x) (record { k = n.k; current = None; previous = n.previous })
    n)))

unfoldable pub notes : Notes → List Exchange → Notes
notes n [] = n
notes n (x ∷ xs) = notes (noted n x) xs

-- THE SAME IN WORDS, with no notes.

-- c is the last accepted configure of xs, and ls what comes behind it
pub record LastConfigure (xs : List Exchange) (c : Exchange) (ls : List Exchange) : Type 0 where
  pub before : List Exchange
  pub parts : xs ≡ before ++ (c ∷ ls)
  pub accepted : accepts configure_kind c ≡ true
  pub last : any_b (accepts configure_kind) ls ≡ false

-- in ls, y began a valid picture, which `end` finished: nothing between them was accepted that ends it or begins
-- another. `behind` is the rest of ls
pub record Finished (ls : List Exchange) (y : Exchange) (behind : List Exchange) : Type 0 where
  pub before : List Exchange
  pub during : List Exchange
  pub end : Exchange
  pub parts : ls ≡ before ++ (y ∷ (during ++ (end ∷ behind)))
  pub begins : accepts begin_kind y ≡ true
  pub valid : valid_in y ≡ true
  pub still : any_b moves during ≡ false
  pub finished : finishes end ≡ true

-- "the previous Tid0 picture": the last one of ls
pub record LastFinished (ls : List Exchange) (y : Exchange) : Type 0 where
  pub behind : List Exchange
  pub finished : Finished ls y behind
  pub last : (z : Exchange) (more : List Exchange) → Finished behind z more → ⊥

-- that one, or that there is none
abbrev pub LastIs : List Exchange → Option Exchange → Type 0
LastIs ls None = (y : Exchange) (behind : List Exchange) → Finished ls y behind → ⊥
LastIs ls (Some y) = LastFinished ls y

-- a last accepted configure of xs, and the last valid picture finished since then or none: they are there
pub record Since (xs : List Exchange) : Type 0 where
  pub configure : Exchange
  pub since : List Exchange
  pub configured : LastConfigure xs configure since
  pub previous : Option Exchange
  pub last : LastIs since previous

-- ITEM 12 of some exchanges

-- x is an accepted begin, c the last accepted configure in front of it, and `since` what lies between them. If x is not
-- IRAP with NoRaslOutputFlag and y began the last valid picture finished since then, the POC of x is the only number of
-- its lsb's remainder in the window around the POC of y. If x is, or if none was finished since then, it is lsb
pub record InWordsAt (c x : Exchange) (since : List Exchange) : Type 0 where
  pub near : (y : Exchange) → starts_over_in x ≡ false → LastFinished since y
      → TheOnly (2 ^ u8 c.said k_place) (poc_in y) (lsb_in x) (poc_in x)
  pub over : starts_over_in x ≡ true → poc_in x ≡ pos (lsb_in x)
  pub first : LastIs since None → poc_in x ≡ pos (lsb_in x)

abbrev pub InWords : List Exchange → Type 0
InWords xs =
    (bs ls since : List Exchange) (x c : Exchange) → xs ≡ bs ++ (x ∷ ls) → accepts begin_kind x ≡ true
    → LastConfigure bs c since → InWordsAt c x since

-- and that says something of every accepted begin: a configure was accepted in front of it, and since then a valid
-- picture was finished last, or none
abbrev pub Covered : List Exchange → Type 0
Covered xs = (bs ls : List Exchange) (x : Exchange) → xs ≡ bs ++ (x ∷ ls) → accepts begin_kind x ≡ true → Since bs

-- an accepted begin that is not IRAP with NoRaslOutputFlag and has a previous Tid0 picture, which y began as the notes
-- have it: the same
abbrev pub OneLine : List Exchange → Type 0
OneLine xs =
    (bs ls : List Exchange) (x y : Exchange) → xs ≡ bs ++ (x ∷ ls) → accepts begin_kind x ≡ true
    → starts_over_in x ≡ false → (notes empty bs).previous ≡ Some y
    → TheOnly (modulus_in (notes empty bs)) (poc_in y) (lsb_in x) (poc_in x)

-- the rule as a program has it: lsb where MSB is 0, for "IRAP with NoRaslOutputFlag or no previous Tid0 picture", else
-- the number nearest to the previous one's POC
unfoldable pub poc_after : ℕ → Option Exchange → Exchange → ℤ
poc_after M None x = pos (lsb_in x)
poc_after M (Some y) x = cond (starts_over_in x) (pos (lsb_in x)) (nearest_to M (poc_in y) (lsb_in x))

-- every accepted begin's POC is what it gives
abbrev pub Computed : List Exchange → Type 0
Computed xs =
    (bs ls : List Exchange) (x : Exchange) → xs ≡ bs ++ (x ∷ ls) → accepts begin_kind x ≡ true
    → poc_in x ≡ poc_after (modulus_in (notes empty bs)) (notes empty bs).previous x

-- "the previous MSB is always a multiple of M, also after configure, drain, discard and abandon": behind any of them
abbrev pub MsbMultiple : List Exchange → Type 0
MsbMultiple xs =
    (bs ls : List Exchange) (y : Exchange) → xs ≡ bs ++ ls → (notes empty bs).previous ≡ Some y
    → Multiple (modulus_in (notes empty bs)) (msb_in y)

-- the previous Tid0 picture as a session has it: its lsb and MSB
abbrev pub prev_in : Option Exchange → Option Tid0
prev_in None = None
prev_in (Some y) = tid0 (lsb_in y) (msb_in y)

-- POC IN ONE LINE as one statement, of some exchanges and the session behind them
pub record Item12 (xs : List Exchange) (s : Session) : Type 0 where
  pub in_words : InWords xs
  pub covered : Covered xs
  pub one_line : OneLine xs
  pub computed : Computed xs
  pub multiple : MsbMultiple xs
  -- the notes are true: M and the previous Tid0 picture are the session's
  pub same_modulus : modulus_in (notes empty xs) ≡ modulus s.limits
  pub same_previous : prev_in (notes empty xs).previous ≡ s.prev
  -- and so they are in words
  pub same_in_words : (c : Exchange) (since : List Exchange) (p : Option Exchange) → LastConfigure xs c since
      → LastIs since p → (2 ^ u8 c.said k_place ≡ modulus s.limits) × (prev_in p ≡ s.prev)
