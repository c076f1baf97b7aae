-- What a walk over the lines asks for or does, as tests and changes of one line.
use Rattle.std.specs.Prelude.{Bool, true, not, ◌&&◌, eqb, Option, None, Some}
use Rattle.paper.specs.Ledger.{waits_as, waits, lies, off}
use Rattle.paper.specs.declared.Serial.{Serial}
use Rattle.paper.specs.declared.Surface.{Surface}
use Rattle.paper.specs.declared.Line.{Line}
use Rattle.watch.specs.declared.line.Ask.{Ask}
use Rattle.watch.specs.declared.line.Ask.TheVariants.{Waits, WaitsAs, Lies, WaitsAt, Named, Any}

abbrev pub named : Serial → Line → Bool
named n e = eqb n.0 e.serial.0

abbrev pub waits_at : Surface → Line → Bool
waits_at x e = e.wants && lies x.0 e

-- a release leaves it
abbrev pub away : Surface → Line → Bool
away x e = not (lies x.0 e)

abbrev pub asking : Ask → Line → Bool
asking (Waits n) = waits n.0
asking (WaitsAs x) = waits_as x
asking (Lies x) = lies x.0
asking (WaitsAt x) = waits_at x
asking (Named n) = named n
asking Any = λ (e : Line). true

-- no longer waiting if it has this serial
abbrev pub changing : Option Serial → Line → Line
changing None e = e
changing (Some n) e = off n.0 e
