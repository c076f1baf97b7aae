-- Document 02, Item 9: "something is due after a picture is stored, yet nothing waits. Show that it cannot happen there
-- for any session reached from fresh, then take the branch out."
use Rattle.std.specs.Prelude.{ℕ, ◌≡◌, List, [], ◌∷◌, ◌++◌, map, Bool, true, false, cond, not, ◌&&◌, ◌||◌, length, ltb, leb, pos}
use Rattle.paper.specs.declared.Picture.{Picture}
use Rattle.paper.specs.declared.Mark.TheVariants.{Unmarked}
use Rattle.paper.specs.declared.Limits.{Limits}
use Rattle.paper.specs.declared.Current.{Current}
use Rattle.paper.specs.Words.{keep, any_b}
use Rattle.paper.specs.State.{Session, fresh}
use Rattle.paper.specs.State.{is_marked}
use Rattle.paper.specs.Numbers.{a_serial, a_surface}
use Rattle.paper.specs.Output.{Moved, still, leave, stay, and_then, turns, lowest, emptied, due_late, due_full, hand_while}
use Rattle.paper.specs.Calls.{raised, stored, finished, drained_now}
use Rattle.paper.specs.Step.{session_after}
use Rattle.std.specs.Prelude.{Option, None, Some}

-- "one waits"
unfoldable pub one_waits : List Picture → Bool
one_waits ps = any_b (λ (p : Picture). p.waiting) ps

-- due without the buffering test by any limits: more wait than `most`; or, where that is tested, one that waits is late
abbrev pub due_over : ℕ → Bool → (Picture → Bool) → List Picture → Bool
due_over most tested late ps =
    ltb most (length (keep (λ (p : Picture). p.waiting) ps))
    || (tested && any_b (λ (p : Picture). p.waiting && late p) ps)

-- a turn of finish's handing out without the branch that nobody has seen: it asks only whether one is due, and takes the
-- lowest as found; `no_picture` stands where none is
abbrev pub hand_the : Bool → List Picture → Picture → Moved
hand_the always ps p = cond (always || not (is_marked p.mark)) (leave ps p) (stay ps p)

abbrev pub no_picture : Picture
no_picture =
    record {
      serial = a_serial 0;
      surface = a_surface 0;
      poc = pos 0;
      mark = Unmarked;
      waiting = false;
      count = 0;
    }

abbrev pub as_found : Option Picture → Picture
as_found None = no_picture
as_found (Some p) = p

abbrev pub turn_due : Limits → List Picture → Moved
turn_due l ps = cond (due_late l ps) (hand_the false ps (as_found (lowest None ps))) (still ps)

unfoldable pub hand_due : Limits → List Picture → Moved
hand_due l ps = turns (length ps) (turn_due l) ps

-- what a finish stores; and what is left of it after n turns of its handing out
abbrev pub with_stored : Session → Current → List Picture
with_stored s c = map raised s.store ++ (stored c ∷ [])

abbrev pub after_turn : Session → Current → ℕ → List Picture
after_turn s c n = (turns n (turn_due s.limits) (with_stored s c)).pics

pub record Item9 : Type 0 where
  -- any pictures at all: without the buffering test, due means that one waits, also by other limits (Item 6)
  pub waits : (l : Limits) (ps : List Picture) → due_late l ps ≡ true → one_waits ps ≡ true
  pub over : (most : ℕ) (tested : Bool) (late : Picture → Bool) (ps : List Picture)
      → due_over most tested late ps ≡ true → one_waits ps ≡ true
  -- so that the lowest is found
  pub found : (l : Limits) (ps : List Picture) → due_late l ps ≡ true
      → lowest None ps ≡ Some (as_found (lowest None ps))
  -- "for any session reached from fresh": at every turn of a finish
  pub reached : (rs : List (List ℕ)) (c : Current) → (session_after fresh rs).current ≡ Some c → (n : ℕ)
      → due_late (session_after fresh rs).limits (after_turn (session_after fresh rs) c n) ≡ true
      → one_waits (after_turn (session_after fresh rs) c n) ≡ true
  -- those are its turns, as many as are stored; and a drain with a current picture, also that of a configure, is such a
  -- finish, then emptying
  pub finish : (s : Session) (c : Current)
      → finished s.limits s.store c ≡ turns (length (with_stored s c)) (turn_due s.limits) (with_stored s c)
  pub drain : (s : Session) (c : Current) → s.current ≡ Some c
      → drained_now s ≡ and_then (finished s.limits s.store c) emptied
  -- "Replies are unchanged": what a finish hands out, and what it leaves, is that of "hand out while one is due and one
  -- waits"; whether the second is asked in so many words or, as the definition had it, where nothing is found
  pub same : (l : Limits) (ps : List Picture)
      → hand_due l ps ≡ hand_while (λ (qs : List Picture). due_late l qs && one_waits qs) ps
  pub as_it_was : (l : Limits) (ps : List Picture) → hand_due l ps ≡ hand_while (due_late l) ps
  -- "Before decoding it does happen, because the buffering test counts pictures that do not wait"
  pub before : (l : Limits) (ps : List Picture) → leb l.buffering (length ps) ≡ true → due_full l ps ≡ true
