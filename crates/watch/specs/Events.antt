-- The events of a tail where they lie in the bytes.
use Rattle.std.specs.Prelude.{ℕ, ◌+◌, ◌*◌, ◌≡◌, List, map, drop, Result, IfOk, IfErr}
use Rattle.paper.specs.Numbers.{u8, u32, i32, a_serial, a_surface}
use Rattle.paper.specs.Kinds.{word_width}
use Rattle.paper.specs.declared.Reading.{Reading}
use Rattle.paper.specs.Reading.{shown_width_in}
use Rattle.paper.specs.Ledger.{Event, Hand, Throw, Free, read_shown, read_words, upon_all}
use Rattle.paper.specs.Watch.{tail_part}
use Rattle.paper.specs.Blame.{tail_blame}
use Rattle.paper.specs.declared.Shown.{Shown}
use Rattle.paper.specs.declared.Line.{Line}
use Rattle.watch.specs.Book.{Holds}
use Rattle.watch.specs.declared.events.Event.{Event as Said}
use Rattle.watch.specs.declared.events.Event.TheVariants as said
use Rattle.watch.specs.declared.events.Section.{Section}
use Rattle.watch.specs.declared.events.Section.TheVariants.{Handed, Thrown, Released}
use Rattle.watch.specs.declared.Lines.{Lines}
use Rattle.watch.specs.declared.demand.Broken.{Broken}
use Rattle.watch.specs.Parts.{part_told}

-- the paper's event
abbrev pub event_in : Said → Event
event_in (said.Hand x) = Hand x
event_in (said.Throw n) = Throw n
event_in (said.Free x) = Free x

-- "serial u32, surface u32, POC i32"
abbrev pub shown_at : Reading → List ℕ → ℕ → Shown
shown_at st r at =
    record {
      serial = a_serial (u32 r at);
      surface = a_surface (u32 r (at + word_width));
      poc = i32 r (at + 2 * word_width);
    }

unfoldable pub event_at : Reading → Section → List ℕ → ℕ → Event
event_at st Handed r at = Hand (shown_at st r at)
event_at st Thrown r at = Throw (a_serial (u32 r at))
event_at st Released r at = Free (a_surface (u32 r at))

unfoldable pub size_of : Reading → Section → ℕ
size_of st Handed = shown_width_in st
size_of st Thrown = word_width
size_of st Released = word_width

-- n events of one section
unfoldable pub events_of : Reading → Section → ℕ → List ℕ → List Event
events_of st Handed n bs = map Hand (read_shown st n bs)
events_of st Thrown n bs = map Throw (map a_serial (read_words n bs))
events_of st Released n bs = map Free (map a_surface (read_words n bs))

-- a count and as many events
unfoldable pub counted : Reading → Section → List ℕ → List Event
counted st p bs = events_of st p (u8 bs 0) (drop 1 bs)

-- the lines after the events, or the part that they break and what they break it with
pub record Tells (es : List Event) (H : List Line) (t : Result Lines Broken) : Type 0 where
  pub part : part_told t ≡ tail_part es H
  pub lines : IfOk t (λ (l : Lines). Holds l (upon_all es H))
  pub blamed : IfErr t (λ (y : Broken). y.blamed ≡ tail_blame es H)
