-- Where bytes wait, their line lies within the buffer.
use mathlib.Core.Path.{refl}
use Rattle.show.proofs.Turning.{no_rest, a_rest}
use Rattle.show.proofs.last.Goals as goal
use Rattle.show.proofs.last.Goals.{in-Ok, in-Err}

pub returns-then-t-eq0 : goal.returns-then-t-eq0
returns-then-t-eq0 g c = no_rest c.if-t-eq0.true

pub returns : goal.returns
returns g c =
    let e = c.rest-made.ensures in
    elim c.match-write_all.branch [
      | in-Ok w ↦ rw w.next-is (a_rest refl refl c.if-t-eq0.false e.0 e.2)
      | in-Err w ↦ rw w.next-is (a_rest refl refl c.if-t-eq0.false e.0 e.2)
    ]
