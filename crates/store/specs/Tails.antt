-- A tail by value: the pictures handed out, the serials thrown away and the surfaces released, each in places of its
-- own type with their number beside them, and blank behind it.
use Rattle.std.specs.Prelude.{ℕ, ◌+◌, ◌≤◌, ◌≡◌, Bool, not, ◌||◌, List, [], ◌++◌, map, length, set, pos}
use Rattle.paper.specs.Words.{keep}
use Rattle.paper.specs.Output.{in_use}
use Rattle.paper.specs.Output as Output
use Rattle.paper.specs.declared.Picture.{Picture}
use Rattle.paper.specs.declared.Serial.{Serial}
use Rattle.paper.specs.declared.Surface.{Surface}
use Rattle.paper.specs.declared.Shown.{Shown}
use Rattle.derivation.specs.Pad.{Padded, used}
use Rattle.derivation.specs.Lists.{blank_serial}
use Rattle.store.specs.Walks.{serial_of, surface_of}
use Rattle.store.specs.Places.{front}
use Rattle.store.specs.declared.Run.{Run}
use Rattle.store.specs.declared.Moved.{Moved}

-- ---- the parts of a tail

abbrev pub no_surface : Surface
no_surface = record { 0 = 0 }

abbrev pub no_shown : Shown
no_shown = record { serial = blank_serial; surface = no_surface; poc = pos 0 }

-- the runs by the names that the code has for them
abbrev pub Handed : Type 0
Handed = Run Shown 16

abbrev pub Thrown : Type 0
Thrown = Run Serial 17

abbrev pub Released : Type 0
Released = Run Surface 17

-- one more, behind those that are used
abbrev pub pushed : {A : Type 0} {n : ℕ} → Run A n → A → Run A n
pushed x y = record { items = set x.items x.len y; len = x.len + 1 }

-- n places, of which those that are used hold xs, and d in every other
abbrev pub HoldsRun : {A : Type 0} {n : ℕ} → A → Run A n → List A → Type 0
HoldsRun {A} {n} d x xs = Padded n d x.items x.len xs

abbrev pub HoldsHanded : Handed → List Shown → Type 0
HoldsHanded = HoldsRun no_shown

abbrev pub HoldsThrown : Thrown → List Serial → Type 0
HoldsThrown = HoldsRun blank_serial

abbrev pub HoldsReleased : Released → List Surface → Type 0
HoldsReleased = HoldsRun no_surface

-- what they hold
abbrev pub handed_in : Handed → List Shown
handed_in h = used h.len h.items

abbrev pub released_in : Released → List Surface
released_in x = used x.len x.items

abbrev pub GoodReleased : Released → Type 0
GoodReleased x = HoldsReleased x (released_in x)

-- ---- a whole tail

pub record HoldsTail (x : Moved) (y : Output.Tail) : Type 0 where
  pub handed : Padded 16 no_shown x.handed x.shown y.handed
  pub thrown : Padded 17 blank_serial x.thrown x.dropped y.thrown
  pub released : Padded 17 no_surface x.released x.freed y.released

abbrev pub tail_in : Moved → Output.Tail
tail_in x =
    record {
      handed = used x.shown x.handed;
      thrown = used x.dropped x.thrown;
      released = used x.freed x.released;
    }

abbrev pub GoodTail : Moved → Type 0
GoodTail x = HoldsTail x (tail_in x)

-- ---- a store after a call, and its tail

pub record HoldsMoved (x : Moved) (m : Output.Moved) : Type 0 where
  pub pics : front x.places x.len ≡ m.pics
  pub few : x.len ≤ 16
  pub tail : HoldsTail x m.tail

abbrev pub moved_by : Moved → Output.Moved
moved_by x = record { pics = front x.places x.len; tail = tail_in x }

abbrev pub GoodMoved : Moved → Type 0
GoodMoved x = HoldsMoved x (moved_by x)

-- its parts
pub record HoldsParts (x : Moved) (ps : List Picture) (n : ℕ) (h : Handed) (t : Thrown) (r : Released) : Type 0 where
  pub places : x.places ≡ ps
  pub len : x.len ≡ n
  pub handed : x.handed ≡ h.items
  pub shown : x.shown ≡ h.len
  pub thrown : x.thrown ≡ t.items
  pub dropped : x.dropped ≡ t.len
  pub released : x.released ≡ r.items
  pub freed : x.freed ≡ r.len

-- ---- the pictures at the first n places, and the tail so far

abbrev pub moved_in : List Picture → ℕ → Handed → Released → Output.Moved
moved_in ps n h x =
    record {
      pics = front ps n;
      tail = record { handed = handed_in h; thrown = []; released = released_in x };
    }

-- the same where none is handed out yet
abbrev pub started_in : List Picture → ℕ → Released → Output.Moved
started_in ps n x = record { pics = front ps n; tail = record { handed = []; thrown = []; released = released_in x } }

abbrev pub waits : Picture → Bool
waits p = p.waiting

-- they are m; what may still be handed out and released has room
pub record Gathers (ps : List Picture) (n : ℕ) (h : Handed) (x : Released) (m : Output.Moved) : Type 0 where
  pub pics : front ps n ≡ m.pics
  pub handed : HoldsHanded h m.tail.handed
  pub thrown : m.tail.thrown ≡ []
  pub released : HoldsReleased x m.tail.released
  pub places : n ≤ 16
  pub shows : length m.tail.handed + length (keep waits m.pics) ≤ 16
  pub frees : length m.tail.released + length m.pics ≤ 17

-- "pictures neither waiting nor marked", or all
abbrev pub unused : Bool → Picture → Bool
unused all p = all || not (in_use p)

-- all that are stored leave, and are released
pub record Releases (m r : Moved) : Type 0 where
  pub len : r.len ≡ 0
  pub tail : HoldsTail r
      (record {
        handed = (tail_in m).handed;
        thrown = (tail_in m).thrown;
        released = (tail_in m).released ++ map surface_of (front m.places m.len);
      })

-- those that wait are thrown away
pub record Throws (m r : Moved) : Type 0 where
  pub places : r.places ≡ m.places
  pub len : r.len ≡ m.len
  pub tail : HoldsTail r
      (record {
        handed = (tail_in m).handed;
        thrown = (tail_in m).thrown ++ map serial_of (keep waits (front m.places m.len));
        released = (tail_in m).released;
      })

-- what x handed out stands in front of what y did; all else is y's
pub record Follows (x y r : Moved) : Type 0 where
  pub places : r.places ≡ y.places
  pub len : r.len ≡ y.len
  pub tail : HoldsTail r
      (record {
        handed = (tail_in x).handed ++ (tail_in y).handed;
        thrown = (tail_in y).thrown;
        released = (tail_in y).released;
      })
