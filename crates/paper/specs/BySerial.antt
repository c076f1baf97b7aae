-- Document 02, Item 3: handing out told by serial. Output.antt takes the picture that is found by itself, the first that
-- waits with its POC. Where no two pictures have one serial, as in every session reached from fresh, taking the picture
-- of its serial is the same.
use Rattle.std.specs.Prelude.{ℕ, ◌≡◌, List, [], ◌∷◌, ◌++◌, map, Bool, true, false, cond, not, ◌&&◌, ◌||◌, length, eqb}
use Rattle.paper.specs.declared.Picture.{Picture}
use Rattle.paper.specs.declared.Current.{Current}
use Rattle.paper.specs.declared.Limits.{Limits}
use Rattle.paper.specs.Words.{keep, all_b}
use Rattle.paper.specs.Records.{Fields}
use Rattle.paper.specs.State.{is_marked, fresh}
use Rattle.paper.specs.Output.{Moved, still, and_then, turns, lowest, leave, stay, hand_out, cleared, emptied, removed}
use Rattle.paper.specs.Output.{due, hand_while, before_decoding}
use Rattle.paper.specs.Begin.{marked_store}
use Rattle.paper.specs.Calls.{raised, stored}
use Rattle.paper.specs.Step.{session_after}
use Rattle.paper.specs.Statement.{Bytes}
use Rattle.std.specs.Prelude.{Option, None, Some}

-- another serial than that of p
abbrev pub other : Picture → Picture → Bool
other p q = not (eqb p.serial.0 q.serial.0)

-- no two have one serial
unfoldable pub apart : List Picture → Bool
apart [] = true
apart (p ∷ ps) = all_b (other p) ps && apart ps

-- "it no longer waits": the picture of that serial
abbrev pub done : Picture → Picture → Picture
done p q =
    record {
      serial = q.serial;
      surface = q.surface;
      poc = q.poc;
      mark = q.mark;
      waiting = q.waiting && other p q;
      count = q.count;
    }

-- the tail is the same, the pictures are those of other serials, or all
abbrev pub taken_by_serial : Bool → List Picture → Option Picture → Moved
taken_by_serial always ps None = still ps
taken_by_serial always ps (Some p) =
    cond (always || not (is_marked p.mark))
    (record { pics = keep (other p) ps; tail = (leave ps p).tail })
    (record { pics = map (done p) ps; tail = (stay ps p).tail })

unfoldable pub hand_by_serial : Bool → List Picture → Moved
hand_by_serial always ps = taken_by_serial always ps (lowest None ps)

-- and all that is made of handing out
unfoldable pub while_by_serial : (List Picture → Bool) → List Picture → Moved
while_by_serial f ps = turns (length ps) (λ (qs : List Picture). cond (f qs) (hand_by_serial false qs) (still qs)) ps

unfoldable pub emptied_by_serial : List Picture → Moved
emptied_by_serial ps = and_then (turns (length ps) (hand_by_serial true) ps) cleared

unfoldable pub before_by_serial : Bool → Bool → Limits → List Picture → Moved
before_by_serial starts no_prior_pics l ps =
    cond starts
    (cond no_prior_pics (cleared ps) (emptied_by_serial ps))
    (and_then (removed ps) (while_by_serial (due true l)))

pub record BySerial : Type 0 where
  -- one picture handed out, those that are due, emptying, and step 5 of begin
  pub hand : (always : Bool) (ps : List Picture) → apart ps ≡ true → hand_out always ps ≡ hand_by_serial always ps
  pub while : (f : List Picture → Bool) (ps : List Picture) → apart ps ≡ true → hand_while f ps ≡ while_by_serial f ps
  pub empty : (ps : List Picture) → apart ps ≡ true → emptied ps ≡ emptied_by_serial ps
  pub before : (starts no_prior_pics : Bool) (l : Limits) (ps : List Picture) → apart ps ≡ true
      → before_decoding starts no_prior_pics l ps ≡ before_by_serial starts no_prior_pics l ps
  -- what is left is told apart too
  pub left : (f : List Picture → Bool) (ps : List Picture) → apart ps ≡ true → apart (hand_while f ps).pics ≡ true
  -- in every session reached: the store, the store in which begin's step 5 hands out, and that in which a finish does
  pub reached : (rs : List (List ℕ)) → Bytes rs → apart (session_after fresh rs).store ≡ true
  pub begun : (rs : List (List ℕ)) → Bytes rs → (f : Fields) → apart (marked_store (session_after fresh rs) f) ≡ true
  pub finished : (rs : List (List ℕ)) → Bytes rs → (c : Current) → (session_after fresh rs).current ≡ Some c
      → apart (map raised (session_after fresh rs).store ++ (stored c ∷ [])) ≡ true
