-- Handing out: a walk, a picture handed out, and round after round.
use Rattle.std.specs.Prelude.{None, ℕ, ◌+◌, ◌≡◌, Bool, true, false, cond, not, ◌&&◌, ◌||◌, List, length, eqb, ltb, leb}
use Rattle.paper.specs.Words.{keep, any_b}
use Rattle.paper.specs.Output.{still, turns, hand_out, due, leave, stay}
use Rattle.paper.specs.Output as Output
use Rattle.paper.specs.declared.Picture.{Picture}
use Rattle.paper.specs.declared.Limits.{Limits}
use Rattle.store.specs.Walks.{late_by}
use Rattle.store.specs.StoreWords.{stored, NormalForm}
use Rattle.store.specs.Places.{front}
use Rattle.store.specs.Tails.{HoldsTail, waits}
use Rattle.store.specs.OneWalk.{lower_by, one_walk}
use Rattle.store.specs.declared.Moved.{Moved}
use Rattle.store.specs.declared.bumping.Scan.{Scan}
use Rattle.store.specs.declared.bumping.Rule.{Rule}
use Rattle.store.specs.declared.bumping.Rule.TheVariants.{All, Due}

-- one picture more
abbrev pub nothing_seen : Scan
nothing_seen = record { waiting = 0; late = false; lowest = None }

abbrev pub seen_by : Scan → ℕ → Picture → ℕ → Scan
seen_by c i p latency =
    cond p.waiting
    (record {
      waiting = c.waiting + 1;
      late = c.late || leb latency p.count;
      lowest = lower_by c.lowest i p.poc;
    })
    c

-- what a walk over the pictures finds: how many wait, whether one of them is late, and the lowest
pub record Scans (ps : List Picture) (n latency : ℕ) (x : Scan) : Type 0 where
  pub waiting : x.waiting ≡ length (keep waits (front ps n))
  pub late : x.late ≡ any_b (late_by latency) (front ps n)
  pub lowest : x.lowest ≡ one_walk (front ps n)

-- "waiting > reorder; or latency ≠ 0 and a waiting picture's count ≥ latency"
abbrev pub due_by : Limits → ℕ → Bool → Bool
due_by l waiting late = ltb l.reorder waiting || (not (eqb l.latency 0) && late)

abbrev pub due_scan : Rule → Scan → ℕ → Bool
due_scan All c stored = true
due_scan (Due l b) c stored = due_by l c.waiting c.late || (b && leb l.buffering stored)

-- one waits and is due
abbrev pub due_now : Rule → Scan → ℕ → Bool
due_now r c stored = ltb 0 c.waiting && due_scan r c stored

abbrev pub always_by : Rule → Bool
always_by All = true
always_by (Due l b) = false

abbrev pub latency_by : Rule → ℕ
latency_by All = 0
latency_by (Due l b) = l.latency

-- one turn, and as many as are stored: `hand_while (due b l)`, or the first part of emptying
abbrev pub turn_by : Rule → List Picture → Output.Moved
turn_by All ps = hand_out true ps
turn_by (Due l b) ps = cond (due b l ps) (hand_out false ps) (still ps)

unfoldable pub turns_by : Rule → List Picture → Output.Moved
turns_by r ps = turns (length ps) (turn_by r) ps

-- "it no longer waits, and leaves the store if unmarked", or always
abbrev pub hands_out : Bool → Picture → List Picture → Output.Moved
hands_out leaves p ps = cond leaves (leave ps p) (stay ps p)

-- what a call has done to the words that a store is lent in: the pictures left in it, and the whole tail; a normal form
-- is kept
pub record Leaves (m : Output.Moved) (t t' : List ℕ) (x : Moved) : Type 0 where
  pub pics : stored t' ≡ m.pics
  pub tail : HoldsTail x m.tail
  pub normal : NormalForm t → NormalForm t'
