-- Lists and tails as text: tools/records.py's form.
use Rattle.std.specs.Prelude.{ℕ, ◌+◌, ◌*◌, List, [], ◌∷◌, ◌++◌}
use Rattle.paper.specs.declared.Reading.{Reading}
use Rattle.paper.specs.declared.Shown.{Shown}
use Rattle.paper.specs.Words.{flat}
use Rattle.paper.specs.Numbers.{u32, i32, a_serial, a_surface, serial_nos, surface_nos}
use Rattle.paper.specs.Kinds.{word_width}
use Rattle.paper.specs.Sets.{Sets}
use Rattle.paper.specs.Output.{Tail}
use Rattle.stream.specs.Text.{ascii, decimal, integer}
use Rattle.show.specs.Text.{serial_text}

-- one more of a list
abbrev pub behind_comma : {A : Type 0} → (A → List ℕ) → A → List ℕ
behind_comma f x = ascii "," ++ f x

-- a list behind its name, with commas between; nothing where it is empty
unfoldable pub named : {A : Type 0} → List ℕ → (A → List ℕ) → List A → List ℕ
named name f [] = []
named name f (x ∷ xs) = name ++ f x ++ flat (behind_comma f) xs

-- SERIAL:SURFACE:POC of a picture handed out
unfoldable pub shown_text : Shown → List ℕ
shown_text p = decimal p.serial.0 ++ ascii ":" ++ decimal p.surface.0 ++ ascii ":" ++ integer p.poc

-- the picture handed out that stands at a place of a reply
abbrev pub shown_at : Reading → List ℕ → ℕ → Shown
shown_at st r at =
    record {
      serial = a_serial (u32 r at);
      surface = a_surface (u32 r (at + word_width));
      poc = i32 r (at + 2 * word_width);
    }

unfoldable pub tail_text : Tail → List ℕ
tail_text t =
    named (ascii " handed=") shown_text t.handed
    ++ named (ascii " thrown=") decimal (serial_nos t.thrown)
    ++ named (ascii " released=") decimal (surface_nos t.released)

-- the sets of a begun picture: the short-term ones, then the long-term ones
unfoldable pub short_text : Sets → List ℕ
short_text x =
    named (ascii " before=") serial_text (serial_nos x.before)
    ++ named (ascii " after=") serial_text (serial_nos x.after)
    ++ named (ascii " foll=") serial_text (serial_nos x.foll)

unfoldable pub long_text : Sets → List ℕ
long_text x =
    named (ascii " ltcurr=") serial_text (serial_nos x.lt_curr)
    ++ named (ascii " ltfoll=") serial_text (serial_nos x.lt_foll)

abbrev pub sets_text : Sets → List ℕ
sets_text x = short_text x ++ long_text x
